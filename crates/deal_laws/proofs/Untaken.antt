-- A token that was accepted is never a wrong one.
use Rattle.std.proofs.Common.{if◌then◌else◌, ◌≡◌, ℕ, ◌+◌, ◌<◌, ◌≤◌, ◌==◌, min, max, Bool, true, false, Option, Some, None, inl, inr, List, [], ◌∷◌, refl, sym, ap, ◌∙◌, subst, ⊎_elim, arith}
use Rattle.std.proofs.lemmas.Bool.{cases_Bool}
use Rattle.std.proofs.lemmas.Bool.Decides.{nat_tests}
use Rattle.paygo_spec.specs.declared.Found.TheVariants.{Valid, Old, Invalid}
use Rattle.paygo_spec.specs.Chain.{value_in, token_at}
use Rattle.paygo_spec.specs.Least.{least}
use Rattle.paygo_spec.specs.History.{fresh, limit_of, top, reach}
use Rattle.paygo_spec.specs.Found.{is_match, both, least_at, found_at, is_raised, answer, takes, found}
use Rattle.paygo_spec.specs.Searched.{WereFound, Searched}
use Rattle.paygo_spec.proofs.Leasts.{least_says_none}
use Rattle.paygo_spec.proofs.Searching.{found_passes}
use Rattle.paygo_spec.proofs.Windows.{top_in_range}
use Rattle.deal_spec.specs.Deal.{Item, Sold, Accepted, Failed, Passed, Raised, Has, newest}
use Rattle.deal_laws.proofs.Books.{entries_of, AreTokens, newest_is}

-- where nothing is found, nothing matches
none_least : (valid : ℕ → Bool) (value : ℕ) (any : Option ℕ) → least_at valid value any ≡ Invalid → any ≡ None
none_least valid value (Some n) h =
    ⊎_elim
    (λ (t : valid n ≡ true). let q : Valid n value ≡ Invalid = rw t at h in cc)
    (λ (f : valid n ≡ false). let q : Old n ≡ Invalid = rw f at h in cc)
    (cases_Bool (valid n))
none_least valid value None h = refl

none_found : (value : ℕ) (first any : Option ℕ) → found_at value first any ≡ Invalid → any ≡ None
none_found value (Some n) any h = cc
none_found value None (Some n) h = cc
none_found value None None h = refl

no_match : (raised : Bool) (matches valid : ℕ → Bool) (value reach : ℕ) → answer raised matches valid value reach ≡ Invalid → least matches (reach + 1) ≡ None
no_match true matches valid value reach h = none_least valid value (least matches (reach + 1)) h
no_match false matches valid value reach h = none_found value (least (both matches valid) (reach + 1)) (least matches (reach + 1)) h

in_reach : (n l t x : ℕ) → n ≤ t → t ≤ l → n < min l (t + x) + 1
in_reach n l t x low range = omega arith

below_max : (n m t : ℕ) → n ≤ t → n ≤ max m t
below_max n m t low = omega arith

at_max : (n m t : ℕ) → n ≡ m → n ≤ max m t
at_max n m t same = omega arith

module _ (next : ℕ → ℕ) (start : ℕ) where
  -- An accepted token is that of its count and value, and the count is up to the newest one.
  record WasTaken (top n v t : ℕ) : Type 0 where
    pub value : v ≡ value_in start t
    pub match : token_at next start v n ≡ t
    pub low : n ≤ top

  was_taken : (book : List Item) (n v t : ℕ) → AreTokens next start book → WereFound next start fresh (entries_of book) → Has book (Accepted n v t) → WasTaken (newest book) n v t
  was_taken [] n v t tokens were has = absurd has
  was_taken (Accepted m w s ∷ book) n v t tokens were (inl e) =
      let count : n ≡ m = cc in
      let worth : v ≡ w = cc in
      let same : t ≡ s = cc in
      let from : t ≡ token_at next start w m = same ∙ tokens.0 in
      record {
        value = worth ∙ (found_passes next start fresh (entries_of book) (token_at next start w m) m w were.1).0 ∙ ap (value_in start) (sym from);
        match = ap (λ (x : ℕ). token_at next start x n) worth ∙ ap (λ (x : ℕ). token_at next start w x) count ∙ sym from;
        low = at_max n m (newest book) count;
      }
  was_taken (Accepted m w s ∷ book) n v t tokens were (inr has) =
      let rest = was_taken book n v t tokens.1 were.0 has in
      record { value = rest.value; match = rest.match; low = below_max n m (newest book) rest.low }
  was_taken (Sold o ∷ book) n v t tokens were (inl e) = let bad : Accepted n v t ≡ Sold o = e in cc
  was_taken (Sold o ∷ book) n v t tokens were (inr has) = was_taken book n v t tokens were has
  was_taken (Failed s ∷ book) n v t tokens were (inl e) = let bad : Accepted n v t ≡ Failed s = e in cc
  was_taken (Failed s ∷ book) n v t tokens were (inr has) = was_taken book n v t tokens were has
  was_taken (Passed s ∷ book) n v t tokens were (inl e) = let bad : Accepted n v t ≡ Passed s = e in cc
  was_taken (Passed s ∷ book) n v t tokens were (inr has) = was_taken book n v t tokens were has
  was_taken (Raised ∷ book) n v t tokens were (inl e) = let bad : Accepted n v t ≡ Raised = e in cc
  was_taken (Raised ∷ book) n v t tokens were (inr has) = was_taken book n v t tokens were has

  pub untaken : (unit : ℕ) (book : List Item) (t : ℕ) → AreTokens next start book → Searched next start unit fresh (entries_of book) → found next start fresh (entries_of book) t ≡ Invalid → (n v : ℕ) → Has book (Accepted n v t) → ⊥
  untaken unit book t tokens searched invalid n v has =
      let was = was_taken book n v t tokens searched.1 has in
      let value : ℕ = value_in start t in
      let bound : ℕ = reach fresh (entries_of book) value in
      let none = no_match (is_raised (limit_of fresh (entries_of book))) (is_match next start t value) (takes fresh (entries_of book) value) value bound invalid in
      let low : n ≤ top fresh (entries_of book) = subst (λ (k : ℕ). n ≤ k) (newest_is book) was.low in
      let within : n < bound + 1 = in_reach n (limit_of fresh (entries_of book)) (top fresh (entries_of book)) (if value == 999 then 100 else 64) low (top_in_range unit fresh (entries_of book) searched.0) in
      let fails : is_match next start t value n ≡ false = least_says_none (is_match next start t value) (bound + 1) none n within in
      let match : token_at next start value n ≡ t = subst (λ (w : ℕ). token_at next start w n ≡ t) was.value was.match in
      let holds : is_match next start t value n ≡ true = grind (arith, nat_tests) in
      cc
