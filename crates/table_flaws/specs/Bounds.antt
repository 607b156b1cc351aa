-- Below which count each order of a device is to stay.
use Rattle.std.specs.Prelude.{ℕ, zero, suc, List, [], ◌∷◌}
use Rattle.ledger_spec.specs.declared.Order.{Order}

-- The bound at a place among orders, the newest first: the count of the order before it, or this bound at the first
-- place.
abbrev pub bound_at : ℕ → List Order → ℕ → ℕ
bound_at bound orders zero = bound
bound_at bound [] (suc place) = bound
bound_at bound (order ∷ orders) (suc place) = bound_at order.count orders place
