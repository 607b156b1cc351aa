-- What the list of a value says of a token.
use Rattle.std.proofs.Common.{◌≡◌, ℕ, zero, suc, ◌+◌, ◌<◌, Bool, ◌&&◌, ◌==◌, List, [], ◌∷◌, ◌++◌, length, get_or, replicate, Option, Some, None, refl, sym, ap, subst, ◌∙◌, arith}
use Rattle.std.specs.Prelude.{IfSome, Vec}
use Rattle.std.specs.declared.alloc.Global.{Global}
use Rattle.paygo_spec.specs.Chain.{with_base, token_base_of, first_code, code_at, token_at}
use Rattle.ledger_spec.specs.Issuing.{is_clean}
use Rattle.token_issue.specs.Lists.{values_below, tokens_from, is_once}
use Rattle.token_issue.specs.ByValue.{AreLists}
use Rattle.token_issue.proofs.Listed.{listed_token, listed_clean, values_more}

-- an element in its place, whatever stands for one past the end
same_place : {X : Type 0} (xs : List X) (i : ℕ) (a b : X) → i < length xs → get_or xs i a ≡ get_or xs i b
same_place [] i a b inside = absurd (omega arith)
same_place (x ∷ xs) zero a b inside = refl
same_place (x ∷ xs) (suc i) a b inside = same_place xs i a b (omega arith)

abbrev Lists : Type 0
Lists = List (Option (Vec ℕ Global))

-- no list was reckoned yet
none_at : (n i : ℕ) → get_or (replicate {A = Option (Vec ℕ Global)} n None) i None ≡ None
none_at zero i = refl
none_at (suc n) zero = refl
none_at (suc n) (suc i) = none_at n i

pub no_lists : (next : ℕ → ℕ) (start counts : ℕ) (lists : Lists) → start < 1000000000 → 4095 < counts → length lists ≡ 1000 → lists ≡ replicate 1000 None → AreLists next start counts lists
no_lists next start counts lists small whole long is = record {
  start_below = small;
  whole = whole;
  values = long;
  lists_are = λ value inside.
      subst (λ (o : Option (Vec ℕ Global)). IfSome o (λ list. list.items ≡ tokens_from next (first_code start value) counts))
      (sym (ap (λ (l : Lists). get_or l value None) is ∙ none_at 1000 value)) tt;
}

-- the list that stands in the place of a value is that of the value
list_is : (next : ℕ → ℕ) (start counts value : ℕ) (found : Option (Vec ℕ Global)) (list : Vec ℕ Global) → found ≡ Some list
    → IfSome found (λ l. l.items ≡ tokens_from next (first_code start value) counts) → list.items ≡ tokens_from next (first_code start value) counts
list_is next start counts value found list is holds = subst (λ (o : Option (Vec ℕ Global)). IfSome o (λ l. l.items ≡ tokens_from next (first_code start value) counts)) is holds

pub list_at : (next : ℕ → ℕ) (start counts : ℕ) (lists : Lists) (value : ℕ) (found : Option (Vec ℕ Global)) (list : Vec ℕ Global) → AreLists next start counts lists → value < 1000
    → found ≡ get_or lists value found → found ≡ Some list → list.items ≡ tokens_from next (first_code start value) counts
list_at next start counts lists value found list are inside here is =
    let long : length lists ≡ 1000 = are.values in
    let same : get_or lists value None ≡ Some list = same_place lists value None found (omega arith) ∙ sym here ∙ is in
    list_is next start counts value (get_or lists value None) list same (are.lists_are value inside)

-- a token is right by its value's list exactly where it is
pub right_by_list : (next : ℕ → ℕ) (start value counts count token : ℕ) (tokens : List ℕ) → tokens ≡ tokens_from next (first_code start value) counts → count < counts → 4095 < counts
    → ((get_or tokens count 0 == token) && is_once tokens count) ≡ ((token_at next start value count == token) && is_clean next start value count)
right_by_list next start value counts count token tokens are inside whole =
    ap (λ (l : List ℕ). (get_or l count 0 == token) && is_once l count) are
    ∙ ap (λ (k : ℕ). (k == token) && is_once (tokens_from next (first_code start value) counts) count) (listed_token next start value counts count inside)
    ∙ ap (λ (b : Bool). (token_at next start value count == token) && b) (listed_clean next start value counts count inside whole)

-- a list of tokens with one more
pub list_step : (next : ℕ → ℕ) (start value m : ℕ) (list old : List ℕ) (code base : ℕ) → list ≡ old ++ with_base code base ∷ [] → old ≡ values_below (token_at next start value) m → code ≡ code_at next start value m
    → base ≡ token_base_of start value → list ≡ values_below (token_at next start value) (m + 1)
list_step next start value m list old code base is before at digits =
    is ∙ ap (λ (xs : List ℕ). xs ++ with_base code base ∷ []) before
    ∙ ap (λ (k : ℕ). values_below (token_at next start value) m ++ with_base k base ∷ []) at
    ∙ ap (λ (b : ℕ). values_below (token_at next start value) m ++ with_base (code_at next start value m) b ∷ []) digits
    ∙ sym (values_more (token_at next start value) m)
