-- The token of an order on the chain of its device: it is accepted at the order's count and value alone.
use Rattle.std.proofs.Common.{◌≡◌, ℕ, ◌+◌, ◌<◌, ◌≤◌, max, Bool, true, false, Option, Some, None, inl, inr, List, [], ◌∷◌, refl, sym, ap, ◌∙◌, subst, ⊎_elim, arith}
use Rattle.std.proofs.lemmas.Bool.{cases_Bool, cases_lt}
use Rattle.std.proofs.lemmas.Bool.Decides.{nat_tests}
use Rattle.paygo_spec.specs.declared.Entry.{Entry}
use Rattle.paygo_spec.specs.declared.Entry.TheVariants.{Accept, Bad, Elapsed, Raised}
use Rattle.paygo_spec.specs.declared.Found.TheVariants.{Valid, Old}
use Rattle.paygo_spec.specs.Chain.{value_in, token_at}
use Rattle.paygo_spec.specs.Least.{least, IsLeast}
use Rattle.paygo_spec.specs.History.{Summary, first_limit, raised_limit, limit_of, reach}
use Rattle.paygo_spec.specs.Found.{is_match, least_at, is_raised, takes, found}
use Rattle.paygo_spec.specs.Searched.{Searched, IsClean}
use Rattle.paygo_spec.proofs.Windows.{limit_kept}
use Rattle.paygo_spec.proofs.Leasts.{least_says_some}
use Rattle.paygo_spec.proofs.Searching.{found_passes}
use Rattle.paygo_spec.proofs.CleanTokens.{value_back}
use Rattle.deal_spec.specs.Deal.{Has}

first_by : (matches valid : ℕ → Bool) (value bound : ℕ) (any : Option ℕ) (count v : ℕ) → least matches bound ≡ any → least_at valid value any ≡ Valid count v → (v ≡ value) × IsLeast matches bound count
first_by matches valid value bound (Some n) count v is h =
    ⊎_elim
    (λ (t : valid n ≡ true).
    let q : Valid n value ≡ Valid count v = rw t at h in
    let same : n ≡ count = cc in
    let its : value ≡ v = cc in
    subst (λ (m : ℕ). (v ≡ value) × IsLeast matches bound m) same (sym its, least_says_some matches bound n is))
    (λ (f : valid n ≡ false). let q : Old n ≡ Valid count v = rw f at h in cc)
    (cases_Bool (valid n))
first_by matches valid value bound None count v is h = cc

-- what a raised device finds is the first match
found_first : (next : ℕ → ℕ) (start : ℕ) (origin : Summary) (entries : List Entry) (token count v : ℕ) → limit_of origin entries ≡ raised_limit → found next start origin entries token ≡ Valid count v
    → (k : ℕ) → k < count → token_at next start v k ≡ token → ⊥
found_first next start origin entries token count v raised h k below match =
    let test : is_raised (limit_of origin entries) ≡ true = grind (arith, nat_tests) in
    let value : ℕ = value_in start token in
    let first : least_at (takes origin entries value) value (least (is_match next start token value) (reach origin entries value + 1)) ≡ Valid count v = rw test at h in
    let q = first_by (is_match next start token value) (takes origin entries value) value (reach origin entries value + 1) _ count v refl first in
    let fails : is_match next start token value k ≡ false = q.1.first k below in
    let there : token_at next start value k ≡ token = subst (λ (w : ℕ). token_at next start w k ≡ token) q.0 match in
    let holds : is_match next start token value k ≡ true = grind (arith, nat_tests) in
    cc

module _ (next : ℕ → ℕ) (start unit : ℕ) (origin : Summary) (n v : ℕ) (few : v < 1000) (clean : IsClean next start n v) where
  -- an accepted token that is a clean one is of its count and value
  pub same_as_clean : (entries : List Entry) (m w : ℕ) → Searched next start unit origin (Accept m w ∷ entries) → token_at next start w m ≡ token_at next start v n → (m ≡ n) × (w ≡ v)
  same_as_clean entries m w were same =
      let found_it : found next start origin entries (token_at next start w m) ≡ Valid m w = were.1.1 in
      let value : w ≡ v = (found_passes next start origin entries (token_at next start w m) m w found_it).0 ∙ ap (value_in start) same ∙ value_back next start v n few in
      let match : token_at next start v m ≡ token_at next start v n = subst (λ (x : ℕ). token_at next start x m ≡ token_at next start v n) value same in
      let up : m ≤ reach origin entries w = were.0.1.1.1 in
      let count : m ≡ n =
      ⊎_elim
      (λ (far : max first_limit n < m). ⊎_elim
      (λ (l : limit_of origin entries ≡ first_limit). absurd (omega arith))
      (λ (l : limit_of origin entries ≡ raised_limit).
      let other : token_at next start w n ≡ token_at next start w m = subst (λ (x : ℕ). token_at next start x n ≡ token_at next start w m) (sym value) (sym same) in
      absurd (found_first next start origin entries (token_at next start w m) m w l found_it n (omega arith) other))
      (limit_kept unit origin entries were.0.0))
      (λ (near : m ≤ max first_limit n). clean m near match)
      (cases_lt (max first_limit n) m) in
      (count, value)

  -- and so is each one of a history
  pub same_in : (entries : List Entry) (m w : ℕ) → Searched next start unit origin entries → Has entries (Accept m w) → token_at next start w m ≡ token_at next start v n → (m ≡ n) × (w ≡ v)
  same_in [] m w were has same = absurd has
  same_in (Accept k u ∷ entries) m w were (inl e) same =
      same_as_clean entries m w (subst (λ (x : Entry). Searched next start unit origin (x ∷ entries)) (sym e) were) same
  same_in (Accept k u ∷ entries) m w were (inr has) same = same_in entries m w (were.0.0, were.1.0) has same
  same_in (Bad ∷ entries) m w were (inl e) same = cc
  same_in (Bad ∷ entries) m w were (inr has) same = same_in entries m w (were.0.0, were.1) has same
  same_in (Elapsed s ∷ entries) m w were (inl e) same = cc
  same_in (Elapsed s ∷ entries) m w were (inr has) same = same_in entries m w (were.0.0, were.1) has same
  same_in (Raised ∷ entries) m w were (inl e) same = cc
  same_in (Raised ∷ entries) m w were (inr has) same = same_in entries m w (were.0.0, were.1) has same
