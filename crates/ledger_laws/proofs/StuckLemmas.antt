-- What isn't listed as stuck is sold in reach.
use Rattle.std.proofs.Common.{◌≡◌, ℕ, zero, suc, ◌+◌, ◌<◌, ◌≤◌, List, [], ◌∷◌, ◌++◌, Bool, true, false, not, Option, Some, None, inl, inr, refl, sym, ap, subst, ◌∙◌, arith}
use Rattle.std.proofs.lemmas.Bool.{cases_eq}
use Rattle.std.specs.List.{AllByRecursion, flat_map, range_with_len}
use Rattle.paygo_spec.specs.declared.TheConstants.{LAST}
use Rattle.paygo_spec.proofs.Leasts.{least_says_none}
use Rattle.ledger_spec.specs.declared.Kind.{Kind}
use Rattle.ledger_spec.specs.Issuing.{pick, is_near}
use Rattle.ledger_spec.specs.Stuck.{Stuck, is_sold_near, is_stuck, stuck_at, kinds_for, listed, stuck_of, stuck_below}

not_false : (b : Bool) → not b ≡ false → b ≡ true
not_false true is = refl
not_false false is = cc

sold_by : (next : ℕ → ℕ) (start : ℕ) (kind : Kind) (value last : ℕ) (found : Option ℕ) → pick next start LAST last kind value ≡ found → is_sold_near last value found ≡ true
    → (count : ℕ) × (pick next start LAST last kind value ≡ Some count) × (is_near LAST last value count ≡ true)
sold_by next start kind value last None found_is near = cc
sold_by next start kind value last (Some count) found_is near = (count, found_is, near)

-- what is never stuck is sold in reach, at each last count up to the limit
pub sold_near : (next : ℕ → ℕ) (start limit : ℕ) (kind : Kind) (value : ℕ) → stuck_at next start limit kind value ≡ None → (last : ℕ) → last ≤ limit
    → (count : ℕ) × (pick next start LAST last kind value ≡ Some count) × (is_near LAST last value count ≡ true)
sold_near next start limit kind value none last within =
    sold_by next start kind value last (pick next start LAST last kind value) refl
    (not_false (is_sold_near last value (pick next start LAST last kind value)) (least_says_none (is_stuck next start kind value) (limit + 1) none last (omega arith)))

none_first : {X : Type 0} (xs ys : List X) → xs ++ ys ≡ [] → (xs ≡ []) × (ys ≡ [])
none_first [] ys none = (refl, none)
none_first (x ∷ xs) ys none = cc

each_of_none : {X Y : Type 0} (f : X → List Y) (xs : List X) → flat_map f xs ≡ [] → AllByRecursion (λ x. f x ≡ []) xs
each_of_none f [] none = tt
each_of_none f (x ∷ xs) none = let both = none_first (f x) (flat_map f xs) none in (both.0, each_of_none f xs both.1)

in_range : (P : ℕ → Type 0) (from n : ℕ) → AllByRecursion P (range_with_len from n) → (k : ℕ) → from ≤ k → k < from + n → P k
in_range P from zero all k low high = absurd (omega arith)
in_range P from (suc n) all k low high = elim (cases_eq from k) [
  | inl same ↦ subst P same all.0
  | inr other ↦ in_range P (from + 1) n all.1 k (omega arith) (omega arith)
]

unlisted : (kind : Kind) (value : ℕ) (found : Option ℕ) → listed kind value found ≡ [] → found ≡ None
unlisted kind value None none = refl
unlisted kind value (Some last) none = cc

kinds_free : (next : ℕ → ℕ) (start limit value : ℕ) (kinds : List Kind) → AllByRecursion (λ kind. listed kind value (stuck_at next start limit kind value) ≡ []) kinds → AllByRecursion (λ kind. stuck_at next start limit kind value ≡ None) kinds
kinds_free next start limit value [] all = tt
kinds_free next start limit value (kind ∷ kinds) all = (unlisted kind value (stuck_at next start limit kind value) all.0, kinds_free next start limit value kinds all.1)

-- where nothing is listed, no kind of any value is ever stuck
pub none_stuck : (next : ℕ → ℕ) (start limit bound : ℕ) → stuck_below next start limit bound ≡ [] → (value : ℕ) → value < bound → AllByRecursion (λ kind. stuck_at next start limit kind value ≡ None) (kinds_for value)
unfolding stuck_below
none_stuck next start limit bound none value below =
    let here : stuck_of next start limit value ≡ [] = in_range (λ v. stuck_of next start limit v ≡ []) 0 bound (each_of_none (stuck_of next start limit) (range_with_len 0 bound) none) value (omega arith) (omega arith) in
    kinds_free next start limit value (kinds_for value) (each_of_none (λ kind. listed kind value (stuck_at next start limit kind value)) (kinds_for value) here)
