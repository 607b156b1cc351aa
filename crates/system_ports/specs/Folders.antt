-- The folder of a path.
use Rattle.std.specs.Prelude.{ℕ, List, [], ◌∷◌, Some, None, codes, ◌==◌, if◌then◌else◌}
use Rattle.std.specs.declared.option.Option.{Option}

-- What stands before the last slash, by the first byte and what stands before the last slash of the others.
abbrev pub before_with : ℕ → Option (List ℕ) → Option (List ℕ)
before_with b (Some front) = Some (b ∷ front)
before_with b None = if b == 47 then Some [] else None

-- What stands before the last slash of a path; None where it has no slash.
abbrev pub before_slash : List ℕ → Option (List ℕ)
before_slash [] = None
before_slash (b ∷ path) = before_with b (before_slash path)

-- The folder by that: the one that a run is in where there is no slash, and the root where nothing stands before it.
abbrev pub folder_before : Option (List ℕ) → List ℕ
folder_before None = codes "."
folder_before (Some []) = codes "/"
folder_before (Some (b ∷ front)) = b ∷ front

-- The folder that holds what stands at a path.
abbrev pub folder_of : List ℕ → List ℕ
folder_of path = folder_before (before_slash path)
