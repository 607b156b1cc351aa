-- The columns that the shop needs, as the code lists them.
use Rattle.std.proofs.Common.{◌≡◌, Bool, List, [], ◌∷◌, map, refl, ap}
use Rattle.std.specs.List.{list_any}
use Rattle.std.specs.Prelude.{◌||◌}
use Rattle.shop_schema.specs.declared.form.Holds.{Holds}
use Rattle.shop_schema.specs.declared.form.Need.{Need}
use Rattle.shop_schema.specs.Form.{Name, need}

-- A test of a listed column is one of what it says.
pub any_need : (p : Name × Holds → Bool) (xs : List Need) → list_any p (map need xs) ≡ list_any (λ n. p (need n)) xs
any_need p [] = refl
any_need p (x ∷ xs) = ap (λ b. p (need x) || b) (any_need p xs)
