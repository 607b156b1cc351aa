-- The ids of the orders that a sheet stands for.
use Rattle.std.specs.Prelude.{ℕ, ◌+◌, List, [], ◌∷◌, ◌++◌}

-- The id of the token at a place of a sheet: the sheet's name, `-`, and the digit of the place, as `S1-2`. The agent
-- who knows the sheet and the place knows the order.
abbrev pub id_of : List ℕ → ℕ → List ℕ
id_of sheet place = sheet ++ 45 ∷ (48 + place) ∷ []
