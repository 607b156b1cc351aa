-- The files that the words of the command line name.
use Rattle.std.specs.Prelude.{ℕ, Bool, false, List, [], ◌∷◌, ◌||◌, codes, if◌then◌else◌}
use Rattle.std.specs.Str.{bytes_eq}

-- The path of the database, and that of the flash, by the first word and one file: `device FLASH`, or another word and a database.
abbrev pub paths_with : List ℕ → List ℕ → List ℕ × List ℕ
paths_with word file = if bytes_eq word (codes "device") then ([], file) else (file, [])

-- The same by the first word and two that follow: `ring FLASH BANKS`, or another word, a database and a flash.
abbrev pub paths_before : List ℕ → List ℕ → List ℕ → List ℕ × List ℕ
paths_before word first second = if bytes_eq word (codes "ring") then ([], first) else (first, second)

-- The same by the first word and the first of three that follow: `advise DB SERIAL FLOOR`, or words that name no file.
abbrev pub path_of_tables : List ℕ → List ℕ → List ℕ × List ℕ
path_of_tables word first = if bytes_eq word (codes "advise") then (first, []) else ([], [])

-- The same by all words. What the words don't name has an empty path.
abbrev pub paths_of : List (List ℕ) → List ℕ × List ℕ
paths_of (word ∷ file ∷ []) = paths_with word file
paths_of (word ∷ first ∷ second ∷ []) = paths_before word first second
paths_of (word ∷ first ∷ second ∷ third ∷ []) = path_of_tables word first
paths_of _ = ([], [])

-- Whether the words only read their database: `audit DB`, `sound DB` or `advise DB SERIAL FLOOR`.
abbrev pub reads_alone_of : List (List ℕ) → Bool
reads_alone_of (word ∷ file ∷ []) = bytes_eq word (codes "audit") || bytes_eq word (codes "sound")
reads_alone_of (word ∷ first ∷ second ∷ third ∷ []) = bytes_eq word (codes "advise")
reads_alone_of _ = false
