-- A history in which each accepted token was found stays one.
use Rattle.std.proofs.Common.{◌≡◌, ℕ, ◌+◌, Bool, true, false, Option, Some, None, List, ◌∷◌, refl, sym, subst, ⊎_elim, arith}
use Rattle.std.proofs.lemmas.Bool.{cases_Bool, and_parts}
use Rattle.std.proofs.lemmas.Bool.Decides.{nat_tests}
use Rattle.paygo_spec.specs.declared.Entry.{Entry}
use Rattle.paygo_spec.specs.declared.Entry.TheVariants.{Accept}
use Rattle.paygo_spec.specs.declared.Found.TheVariants.{Valid, Old}
use Rattle.paygo_spec.specs.Chain.{value_in, token_at}
use Rattle.paygo_spec.specs.Least.{least}
use Rattle.paygo_spec.specs.History.{Summary, limit_of, reach, is_valid}
use Rattle.paygo_spec.specs.Found.{is_match, both, found_at, least_at, is_raised, answer, takes, found}
use Rattle.paygo_spec.specs.Searched.{WereFound}
use Rattle.paygo_spec.proofs.Leasts.{least_says_some}

-- What is known of a valid answer: its value, and that its count passes both tests.
abbrev pub Passes : (ℕ → Bool) → (ℕ → Bool) → ℕ → ℕ → ℕ → Type 0
Passes matches valid value count v = (v ≡ value) × (matches count ≡ true) × (valid count ≡ true)

by_all : (matches valid : ℕ → Bool) (value bound : ℕ) (best any : Option ℕ) (count v : ℕ) → least (both matches valid) bound ≡ best → found_at value best any ≡ Valid count v → Passes matches valid value count v
by_all matches valid value bound (Some n) any count v is h =
    let p : (matches n ≡ true) × (valid n ≡ true) = and_parts (matches n) (valid n) (least_says_some (both matches valid) bound n is).passes in
    let same : n ≡ count = cc in
    let its : value ≡ v = cc in
    subst (λ (m : ℕ). Passes matches valid value m v) same (sym its, p.0, p.1)
by_all matches valid value bound None (Some n) count v is h = cc
by_all matches valid value bound None None count v is h = cc

by_first : (matches valid : ℕ → Bool) (value bound : ℕ) (any : Option ℕ) (count v : ℕ) → least matches bound ≡ any → least_at valid value any ≡ Valid count v → Passes matches valid value count v
by_first matches valid value bound (Some n) count v is h =
    ⊎_elim
    (λ (t : valid n ≡ true).
    let q : Valid n value ≡ Valid count v = rw t at h in
    let same : n ≡ count = cc in
    let its : value ≡ v = cc in
    subst (λ (m : ℕ). Passes matches valid value m v) same (sym its, (least_says_some matches bound n is).passes, t))
    (λ (f : valid n ≡ false). let q : Old n ≡ Valid count v = rw f at h in cc)
    (cases_Bool (valid n))
by_first matches valid value bound None count v is h = cc

valid_passes : (raised : Bool) (matches valid : ℕ → Bool) (value reach count v : ℕ) → answer raised matches valid value reach ≡ Valid count v → Passes matches valid value count v
valid_passes true matches valid value reach count v h = by_first matches valid value (reach + 1) (least matches (reach + 1)) count v refl h
valid_passes false matches valid value reach count v h = by_all matches valid value (reach + 1) (least (both matches valid) (reach + 1)) (least matches (reach + 1)) count v refl h

pub found_passes : (next : ℕ → ℕ) (start : ℕ) (origin : Summary) (entries : List Entry) (token count v : ℕ) → found next start origin entries token ≡ Valid count v
    → Passes (is_match next start token (value_in start token)) (takes origin entries (value_in start token)) (value_in start token) count v
found_passes next start origin entries token count v h =
    valid_passes (is_raised (limit_of origin entries)) (is_match next start token (value_in start token)) (takes origin entries (value_in start token)) (value_in start token) (reach origin entries (value_in start token)) count v h

-- the token that was found is that of its count and value, and the device takes them
pub found_token : (next : ℕ → ℕ) (start : ℕ) (origin : Summary) (entries : List Entry) (token count v : ℕ) → found next start origin entries token ≡ Valid count v
    → (token_at next start v count ≡ token) × (is_valid origin entries count v ≡ true)
found_token next start origin entries token count v h =
    let p = found_passes next start origin entries token count v h in
    let match : token_at next start (value_in start token) count ≡ token = (let x = p.1 in grind (arith, nat_tests)) in
    subst (λ (w : ℕ). (token_at next start w count ≡ token) × (is_valid origin entries count w ≡ true)) (sym p.0) (match, p.2)

-- so an accepted token that was found keeps that each was
pub accepted_found : (next : ℕ → ℕ) (start : ℕ) (origin : Summary) (entries : List Entry) (token count v : ℕ) → WereFound next start origin entries → found next start origin entries token ≡ Valid count v
    → WereFound next start origin (Accept count v ∷ entries)
accepted_found next start origin entries token count v were h =
    let t : token_at next start v count ≡ token = (found_token next start origin entries token count v h).0 in
    (were, subst (λ (x : ℕ). found next start origin entries x ≡ Valid count v) (sym t) h)
