-- One value more.
use Rattle.std.proofs.Common.{◌≡◌, ℕ, ◌+◌, List, [], ◌∷◌, ◌++◌, refl, sym, ap, ◌∙◌, arith}
use Rattle.std.specs.List.{flat_map, range_with_len}
use Rattle.std.proofs.lemmas.List.{map-id, flat_map_more}
use Rattle.std.proofs.lemmas.List.FromFn.{map-range_with_len_more}
use Rattle.ledger_spec.specs.Stuck.{stuck_of, stuck_below}

range_more : (n : ℕ) → range_with_len 0 (n + 1) ≡ range_with_len 0 n ++ n ∷ []
range_more n = simp map-id at (map-range_with_len_more (λ (k : ℕ). k) 0 n n (omega arith))

-- no value is below 0
pub below_none : (next : ℕ → ℕ) (start limit : ℕ) → stuck_below next start limit 0 ≡ []
unfolding stuck_below
below_none next start limit = refl

-- what is stuck of one value more stands at the end
pub below_more : (next : ℕ → ℕ) (start limit n : ℕ) → stuck_below next start limit (n + 1) ≡ stuck_below next start limit n ++ stuck_of next start limit n
unfolding stuck_below
below_more next start limit n =
    ap (λ (values : List ℕ). flat_map (stuck_of next start limit) values) (range_more n)
    ∙ sym (flat_map_more (stuck_of next start limit) [] (range_with_len 0 n) n)
