-- A token of no other count takes effect at most once, and is found.
use Rattle.std.proofs.Common.{◌≡◌, ℕ, ◌+◌, ◌<◌, ◌≤◌, ◌==◌, max, Bool, true, false, Option, Some, None, List, [], ◌∷◌, refl, sym, ap, ◌∙◌, subst, ⊎_elim, arith}
use Rattle.std.proofs.lemmas.Bool.{cases_Bool, cases_lt}
use Rattle.std.proofs.lemmas.Bool.Decides.{nat_tests}
use Rattle.paygo_spec.specs.declared.Entry.{Entry}
use Rattle.paygo_spec.specs.declared.Entry.TheVariants.{Accept}
use Rattle.paygo_spec.specs.declared.Found.TheVariants.{Valid, Old}
use Rattle.paygo_spec.specs.Chain.{value_in, token_at, code_from, first_code, token_base_of, with_base}
use Rattle.paygo_spec.specs.Least.{least, IsLeast}
use Rattle.paygo_spec.specs.History.{Summary, first_limit, raised_limit, limit_of, reach, spent, accepts, Valid as IsValid}
use Rattle.paygo_spec.specs.Found.{is_match, both, least_at, is_raised, answer, takes, found}
use Rattle.paygo_spec.specs.Searched.{Searched, effects, IsClean}
use Rattle.paygo_spec.proofs.Accepts.{once, never}
use Rattle.paygo_spec.proofs.Windows.{limit_kept}
use Rattle.paygo_spec.proofs.Entries.{valid_is}
use Rattle.paygo_spec.proofs.Leasts.{least_says_some, least_of_some}
use Rattle.paygo_spec.proofs.Searching.{found_passes}

-- a token says its value
value_of_base : (code start v : ℕ) → v < 1000 → value_in start (with_base code (token_base_of start v)) ≡ v
value_of_base code start v h = omega arith

pub value_back : (next : ℕ → ℕ) (start v n : ℕ) → v < 1000 → value_in start (token_at next start v n) ≡ v
value_back next start v n h = value_of_base (code_from next (first_code start v) n) start v h

-- what is found on a raised device is the first match
first_by : (matches valid : ℕ → Bool) (value bound : ℕ) (any : Option ℕ) (count v : ℕ) → least matches bound ≡ any → least_at valid value any ≡ Valid count v → (v ≡ value) × IsLeast matches bound count
first_by matches valid value bound (Some n) count v is h =
    ⊎_elim
    (λ (t : valid n ≡ true).
    let q : Valid n value ≡ Valid count v = rw t at h in
    let same : n ≡ count = cc in
    let its : value ≡ v = cc in
    subst (λ (m : ℕ). (v ≡ value) × IsLeast matches bound m) same (sym its, least_says_some matches bound n is))
    (λ (f : valid n ≡ false). let q : Old n ≡ Valid count v = rw f at h in cc)
    (cases_Bool (valid n))
first_by matches valid value bound None count v is h = cc

found_first : (next : ℕ → ℕ) (start : ℕ) (origin : Summary) (entries : List Entry) (token count v : ℕ) → limit_of origin entries ≡ raised_limit → found next start origin entries token ≡ Valid count v
    → (k : ℕ) → k < count → token_at next start v k ≡ token → ⊥
found_first next start origin entries token count v raised h k below match =
    let test : is_raised (limit_of origin entries) ≡ true = grind (arith, nat_tests) in
    let value : ℕ = value_in start token in
    let first : least_at (takes origin entries value) value (least (is_match next start token value) (reach origin entries value + 1)) ≡ Valid count v = rw test at h in
    let q = first_by (is_match next start token value) (takes origin entries value) value (reach origin entries value + 1) _ count v refl first in
    let fails : is_match next start token value k ≡ false = q.1.first k below in
    let there : token_at next start value k ≡ token = subst (λ (w : ℕ). token_at next start w k ≡ token) q.0 match in
    let holds : is_match next start token value k ≡ true = grind (arith, nat_tests) in
    cc

-- an accepted token that is a clean one is of its count and value
same_count : (next : ℕ → ℕ) (start unit : ℕ) (origin : Summary) (entries : List Entry) (m w n v : ℕ) → v < 1000 → IsClean next start n v → Searched next start unit origin (Accept m w ∷ entries)
    → token_at next start w m ≡ token_at next start v n → m ≡ n
same_count next start unit origin entries m w n v few clean were same =
    let found_it : found next start origin entries (token_at next start w m) ≡ Valid m w = were.1.1 in
    let value : w ≡ v = (found_passes next start origin entries (token_at next start w m) m w found_it).0 ∙ ap (value_in start) same ∙ value_back next start v n few in
    let match : token_at next start v m ≡ token_at next start v n = subst (λ (x : ℕ). token_at next start x m ≡ token_at next start v n) value same in
    let up : m ≤ reach origin entries w = were.0.1.1.1 in
    ⊎_elim
    (λ (far : max first_limit n < m). ⊎_elim
    (λ (l : limit_of origin entries ≡ first_limit). absurd (omega arith))
    (λ (l : limit_of origin entries ≡ raised_limit).
    let other : token_at next start w n ≡ token_at next start w m = subst (λ (x : ℕ). token_at next start x n ≡ token_at next start w m) (sym value) (sym same) in
    absurd (found_first next start origin entries (token_at next start w m) m w l found_it n (omega arith) other))
    (limit_kept unit origin entries were.0.0))
    (λ (near : m ≤ max first_limit n). clean m near match)
    (cases_lt (max first_limit n) m)

pub effects_few : (next : ℕ → ℕ) (start unit : ℕ) (origin : Summary) (entries : List Entry) (n v : ℕ) → v < 1000 → IsClean next start n v → Searched next start unit origin entries
    → effects next start (token_at next start v n) entries ≤ accepts n entries
effects_few next start unit origin [] n v few clean were = omega arith
effects_few next start unit origin (Accept m w ∷ entries) n v few clean were =
    let before : effects next start (token_at next start v n) entries ≤ accepts n entries = effects_few next start unit origin entries n v few clean (were.0.0, were.1.0) in
    ⊎_elim
    (λ (t : (token_at next start w m == token_at next start v n) ≡ true).
    let same : token_at next start w m ≡ token_at next start v n = grind (arith, nat_tests) in
    let e : m ≡ n = same_count next start unit origin entries m w n v few clean were same in
    let here : (m == n) ≡ true = grind (arith, nat_tests) in
    rw (t, here) (omega arith))
    (λ (t : (token_at next start w m == token_at next start v n) ≡ false). rw t (omega arith))
    (cases_Bool (token_at next start w m == token_at next start v n))
effects_few next start unit origin (_ ∷ entries) n v few clean were = effects_few next start unit origin entries n v few clean (were.0.0, were.1)

pub effects_once : (next : ℕ → ℕ) (start unit : ℕ) (origin : Summary) (entries : List Entry) (n v : ℕ) → v < 1000 → IsClean next start n v → Searched next start unit origin entries
    → effects next start (token_at next start v n) entries ≤ 1
effects_once next start unit origin entries n v few clean were =
    let a = effects_few next start unit origin entries n v few clean were in
    let b = once unit origin entries n were.0 in
    omega arith

pub effects_never : (next : ℕ → ℕ) (start unit : ℕ) (origin : Summary) (entries : List Entry) (n v : ℕ) → v < 1000 → IsClean next start n v → Searched next start unit origin entries
    → spent origin [] n ≡ true → effects next start (token_at next start v n) entries ≡ 0
effects_never next start unit origin entries n v few clean were gone =
    let a = effects_few next start unit origin entries n v few clean were in
    let b = never unit origin entries n were.0 gone in
    omega arith

-- the least match that is valid is the answer, whatever decides
answer_least : (raised : Bool) (matches valid : ℕ → Bool) (value bound n : ℕ) → IsLeast matches (bound + 1) n → valid n ≡ true → answer raised matches valid value bound ≡ Valid n value
answer_least true matches valid value bound n first is = rw (least_of_some matches (bound + 1) n first, is) refl
answer_least false matches valid value bound n first is =
    let it : least (both matches valid) (bound + 1) ≡ Some n = least_of_some (both matches valid) (bound + 1) n record {
      below = first.below;
      passes = rw (first.passes, is) refl;
      first = λ m l. rw (first.first m l) refl;
    } in
    rw it refl

-- a clean token that is valid is found
pub clean_found : (next : ℕ → ℕ) (start : ℕ) (origin : Summary) (entries : List Entry) (n v : ℕ) → v < 1000 → IsClean next start n v → IsValid origin entries n v
    → found next start origin entries (token_at next start v n) ≡ Valid n v
clean_found next start origin entries n v few clean valid =
    let is : value_in start (token_at next start v n) ≡ v = value_back next start v n few in
    let up : n ≤ reach origin entries v = valid.1 in
    subst
    (λ (x : ℕ). answer (is_raised (limit_of origin entries)) (is_match next start (token_at next start v n) x) (takes origin entries x) x (reach origin entries x) ≡ Valid n v)
    (sym is)
    (answer_least (is_raised (limit_of origin entries)) (is_match next start (token_at next start v n) v) (takes origin entries v) v (reach origin entries v) n
    record {
      below = omega arith;
      passes = grind (arith, nat_tests);
      first = λ k below. ⊎_elim
          (λ (t : is_match next start (token_at next start v n) v k ≡ true).
          let same : token_at next start v k ≡ token_at next start v n = grind (arith, nat_tests) in
          let e : k ≡ n = clean k (omega arith) same in
          absurd (omega arith))
          (λ (t : is_match next start (token_at next start v n) v k ≡ false). t)
          (cases_Bool (is_match next start (token_at next start v n) v k));
    }
    ((valid_is origin entries n v).1 valid))
