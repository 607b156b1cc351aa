-- What is sold with a last count is sold with each later one below its count.
use Rattle.std.proofs.Common.{◌≡◌, ℕ, ◌+◌, ◌<◌, ◌≤◌, Bool, true, false, ◌&&◌, not, nat_lt, Option, Some, None, inl, inr, refl, ap, ◌∙◌, arith}
use Rattle.std.proofs.lemmas.Bool.{cases_Bool}
use Rattle.std.proofs.lemmas.Bool.Decides.{nat_tests}
use Rattle.paygo_spec.specs.declared.TheConstants.{LAST}
use Rattle.paygo_spec.specs.Least.{least, IsLeast}
use Rattle.paygo_spec.proofs.Leasts.{least_says_some, least_says_none, least_of_none, least_of_some}
use Rattle.ledger_spec.specs.declared.Kind.{Kind}
use Rattle.ledger_spec.specs.Issuing.{may_issue, pick, is_near}
use Rattle.ledger_spec.specs.Stuck.{is_sold_near, is_stuck}

both_left : (a b : Bool) → (a && b) ≡ true → a ≡ true
both_left true b h = refl
both_left false b h = cc

both_right : (a b : Bool) → (a && b) ≡ true → b ≡ true
both_right true b h = h
both_right false b h = cc

-- where the first test of the two is harder to pass, what fails by the easier one fails
fails_harder : (a b rest : Bool) → (a ≡ true → b ≡ true) → (b && rest) ≡ false → (a && rest) ≡ false
fails_harder false b rest harder fails = refl
fails_harder true b rest harder fails = rw (harder refl) at fails

passes_too : (a b rest : Bool) → a ≡ true → (b && rest) ≡ true → (a && rest) ≡ true
passes_too a b rest first passes = rw first (both_right b rest passes)

is_below : (m n : ℕ) → nat_lt m n ≡ true → m < n
is_below m n h = grind (arith, nat_tests)

tests_below : (m n : ℕ) → m < n → nat_lt m n ≡ true
tests_below m n h = grind (arith, nat_tests)

module _ (next : ℕ → ℕ) (start last : ℕ) (kind : Kind) (value count : ℕ) (picked : pick next start LAST last kind value ≡ Some count) where
  least_is : IsLeast (may_issue next start last kind value) (LAST + 1) count
  least_is = least_says_some (may_issue next start last kind value) (LAST + 1) count picked

  -- the count is above the last one
  pub picked_above : last < count
  picked_above = is_below last count (both_left (nat_lt last count) _ least_is.passes)

  -- and within the limit
  pub picked_within : count ≤ LAST
  picked_within = omega (arith, least_is.below)

  module _ (later : ℕ) (after : last ≤ later) (before : later < count) where
    still_least : IsLeast (may_issue next start later kind value) (LAST + 1) count
    still_least = record {
      below = least_is.below;
      passes = passes_too (nat_lt later count) (nat_lt last count) _ (tests_below later count before) least_is.passes;
      first = λ m under.
          fails_harder (nat_lt later m) (nat_lt last m) _
          (λ above. let past = is_below later m above in tests_below last m (omega arith)) (least_is.first m under);
    }

    -- the same count is picked
    pub picked_still : pick next start LAST later kind value ≡ Some count
    picked_still = least_of_some (may_issue next start later kind value) (LAST + 1) count still_least

    module _ (near : is_near LAST last value count ≡ true) where
      near_still : is_near LAST later value count ≡ true
      near_still = grind (arith, nat_tests)

      not_stuck : is_stuck next start kind value later ≡ false
      not_stuck = ap (λ (found : Option ℕ). not (is_sold_near later value found)) picked_still ∙ ap not near_still

  -- with no last count up to this one is it stuck, and so with none below the count
  pub none_stuck_more : (below : ℕ) → below ≡ last → is_near LAST last value count ≡ true → least (is_stuck next start kind value) below ≡ None → least (is_stuck next start kind value) count ≡ None
  none_stuck_more below same near none =
      least_of_none (is_stuck next start kind value) count (λ m under. elim (cases_Bool (nat_lt m last)) [
        | inl earlier ↦ least_says_none (is_stuck next start kind value) below none m (let past = is_below m last earlier in omega arith)
        | inr later ↦ not_stuck m (grind (arith, nat_tests)) under near
      ])

-- where there is no stuck last count below a bound, there is none below a lower one
pub none_stuck_under : (p : ℕ → Bool) (bound under : ℕ) → under ≤ bound → least p bound ≡ None → least p under ≡ None
none_stuck_under p bound under low none =
    least_of_none p under (λ m below. least_says_none p bound none m (omega arith))

-- a count that isn't in reach is not sold near
pub far_is_stuck : (next : ℕ → ℕ) (start last : ℕ) (kind : Kind) (value count : ℕ) → pick next start LAST last kind value ≡ Some count → is_near LAST last value count ≡ false → is_stuck next start kind value last ≡ true
far_is_stuck next start last kind value count picked far = ap (λ (found : Option ℕ). not (is_sold_near last value found)) picked ∙ ap not far

pub none_is_stuck : (next : ℕ → ℕ) (start last : ℕ) (kind : Kind) (value : ℕ) → pick next start LAST last kind value ≡ None → is_stuck next start kind value last ≡ true
none_is_stuck next start last kind value none = ap (λ (found : Option ℕ). not (is_sold_near last value found)) none
