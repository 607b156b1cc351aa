-- A search up the counts for the least match that is valid, which keeps the least match of all.
use Rattle.std.proofs.Common.{◌≡◌, ℕ, ◌+◌, ◌<◌, Bool, true, false, Option, Some, None, refl, sym, ◌∙◌, arith}
use Rattle.std.proofs.lemmas.Bool.Decides.{nat_tests}
use Rattle.paygo_spec.specs.declared.Found.TheVariants.{Valid, Old}
use Rattle.std.specs.Option.{option_or}
use Rattle.paygo_spec.specs.History.{raised_limit}
use Rattle.paygo_spec.specs.Least.{least}
use Rattle.paygo_spec.specs.Found.{both, old_at, is_raised, answer}
use Rattle.paygo_spec.proofs.Leasts.{least_none, least_skip, least_found, least_more_yes, least_more_kept}

-- No match below n is valid, and this is the least match below n, if there is one. Where the least match alone decides,
-- there is none.
pub record Passed (raised : Bool) (matches valid : ℕ → Bool) (n : ℕ) (old : Option ℕ) : Type 0 where
  pub none : least (both matches valid) n ≡ None
  pub first : old ≡ least matches n
  pub alone : raised ≡ true → old ≡ None

-- the least match, when one more comes
more_match : (matches : ℕ → Bool) (n : ℕ) (old : Option ℕ) → old ≡ least matches n → matches n ≡ true → option_or old (Some n) ≡ least matches (n + 1)
more_match matches n None is hit = sym (least_more_yes matches n (sym is) hit)
more_match matches n (Some m) is hit = sym (least_more_kept matches n m (sym is))

-- and when a count comes that is none
more_other : (matches : ℕ → Bool) (n : ℕ) (old : Option ℕ) → old ≡ least matches n → matches n ≡ false → old ≡ least matches (n + 1)
more_other matches n None is miss = sym (least_skip matches n (sym is) miss)
more_other matches n (Some m) is miss = sym (least_more_kept matches n m (sym is))

-- before the first count
pub passed_none : (raised : Bool) (matches valid : ℕ → Bool) → Passed raised matches valid 0 None
passed_none raised matches valid = record { none = least_none (both matches valid); first = sym (least_none matches); alone = λ _. refl }

-- past a count that is no match
pub passed_other : (raised : Bool) (matches valid : ℕ → Bool) (n : ℕ) (old : Option ℕ) (hit : Bool) → Passed raised matches valid n old → hit ≡ matches n → hit ≡ false → Passed raised matches valid (n + 1) old
passed_other raised matches valid n old hit p hit_is miss =
    let misses : matches n ≡ false = sym hit_is ∙ miss in
    record {
      none = least_skip (both matches valid) n p.none (rw misses refl);
      first = more_other matches n old p.first misses;
      alone = p.alone;
    }

-- past a match that isn't valid
pub passed_old : (raised : Bool) (matches valid : ℕ → Bool) (n : ℕ) (old : Option ℕ) (hit may : Bool) → Passed raised matches valid n old → hit ≡ matches n → hit ≡ true → may ≡ valid n → may ≡ false → raised ≡ false → Passed raised matches valid (n + 1) (option_or old (Some n))
passed_old raised matches valid n old hit may p hit_is hits may_is refused before =
    let matched : matches n ≡ true = sym hit_is ∙ hits in
    let not_valid : valid n ≡ false = sym may_is ∙ refused in
    record {
      none = least_skip (both matches valid) n p.none (rw (matched, not_valid) refl);
      first = more_match matches n old p.first matched;
      alone = λ r. (let both_ways : true ≡ false = sym r ∙ before in cc);
    }

-- where the least match alone decides, a match is the least
least_match : (raised : Bool) (matches valid : ℕ → Bool) (n bound : ℕ) (old : Option ℕ) → Passed raised matches valid n old → raised ≡ true → matches n ≡ true → n < bound → least matches bound ≡ Some n
least_match raised matches valid n bound old p r matched below = least_found matches n bound (sym p.first ∙ p.alone r) matched below

-- at a match that is valid the search is over
pub answer_valid : (raised : Bool) (matches valid : ℕ → Bool) (value n reach : ℕ) (old : Option ℕ) (hit may : Bool) → Passed raised matches valid n old → hit ≡ matches n → hit ≡ true → may ≡ valid n → may ≡ true → n < reach + 1 → Valid n value ≡ answer raised matches valid value reach
answer_valid true matches valid value n reach old hit may p hit_is hits may_is taken below =
    let matched : matches n ≡ true = sym hit_is ∙ hits in
    let is : valid n ≡ true = sym may_is ∙ taken in
    rw (least_match true matches valid n (reach + 1) old p refl matched below, is) refl
answer_valid false matches valid value n reach old hit may p hit_is hits may_is taken below =
    let matched : matches n ≡ true = sym hit_is ∙ hits in
    let is : valid n ≡ true = sym may_is ∙ taken in
    let it : least (both matches valid) (reach + 1) ≡ Some n = least_found (both matches valid) n (reach + 1) p.none (rw (matched, is) refl) below in
    rw it refl

-- and where the least match alone decides, at one that isn't
pub answer_first : (raised : Bool) (matches valid : ℕ → Bool) (value n reach : ℕ) (old : Option ℕ) (hit may : Bool) → Passed raised matches valid n old → hit ≡ matches n → hit ≡ true → may ≡ valid n → may ≡ false → n < reach + 1 → raised ≡ true → Old n ≡ answer raised matches valid value reach
answer_first raised matches valid value n reach old hit may p hit_is hits may_is refused below r =
    let matched : matches n ≡ true = sym hit_is ∙ hits in
    let not_valid : valid n ≡ false = sym may_is ∙ refused in
    rw (r, least_match raised matches valid n (reach + 1) old p r matched below, not_valid) refl

-- past the reach it is over too
pub answer_old : (raised : Bool) (matches valid : ℕ → Bool) (value reach : ℕ) (old : Option ℕ) → Passed raised matches valid (reach + 1) old → old_at old ≡ answer raised matches valid value reach
answer_old true matches valid value reach old p =
    let none : old ≡ None = p.alone refl in
    let it : least matches (reach + 1) ≡ None = sym p.first ∙ none in
    rw (none, it) refl
answer_old false matches valid value reach old p = rw (p.none, p.first) refl

-- the test of the limit says whether the least match alone decides
pub raised_is : (limit told : ℕ) → told ≡ limit → told ≡ raised_limit → is_raised limit ≡ true
raised_is limit told is it = grind (arith, nat_tests)

pub raised_not : (limit told : ℕ) → told ≡ limit → (told ≡ raised_limit → ⊥) → is_raised limit ≡ false
raised_not limit told is it = grind (arith, nat_tests)
