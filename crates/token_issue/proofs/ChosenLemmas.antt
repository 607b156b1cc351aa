-- What is chosen by a list has the token of its count.
use Rattle.std.proofs.Common.{◌≡◌, ℕ, ◌+◌, ◌<◌, ◌≤◌, ◌^◌, List, get_or, Option, Some, None, Result, sym, ap, subst, ◌∙◌, arith}
use Rattle.std.specs.Prelude.{IfSome, IfOk}
use Rattle.std.specs.Option.{ok_or}
use Rattle.paygo_spec.specs.Chain.{first_code, token_at}
use Rattle.token_issue.specs.declared.chosen.Chosen.{Chosen}
use Rattle.token_issue.specs.declared.issuing.IssueFault.{IssueFault}
use Rattle.token_issue.specs.Lists.{tokens_from}
use Rattle.token_issue.proofs.Listed.{listed_token, token_small}

-- what holds of what was found holds of the answer
pub found_ok : (P : Chosen → Type 0) (found : Option Chosen) (fault : IssueFault) (result : Result Chosen IssueFault) → result ≡ ok_or found fault → IfSome found P → IfOk result P
found_ok P None fault result is holds = subst (λ (r : Result Chosen IssueFault). IfOk r P) (sym is) tt
found_ok P (Some chosen) fault result is holds = subst (λ (r : Result Chosen IssueFault). IfOk r P) (sym is) holds

module _ (next : ℕ → ℕ) (start value limit : ℕ) (tokens : List ℕ) where
  pub found_token : (found : Option Chosen) → tokens ≡ tokens_from next (first_code start value) (limit + 1) → IfSome found (λ chosen. chosen.count ≤ limit)
      → IfSome found (λ chosen. chosen.token ≡ get_or tokens chosen.count 0) → IfSome found (λ chosen. chosen.token ≡ token_at next start value chosen.count)
  found_token None are within token = tt
  found_token (Some chosen) are within token =
      token ∙ ap (λ (xs : List ℕ). get_or xs chosen.count 0) are ∙ listed_token next start value (limit + 1) chosen.count (omega arith)

  pub found_small : (found : Option Chosen) → ((code : ℕ) → next code < 10 ^ 9) → start < 10 ^ 9 → IfSome found (λ chosen. chosen.token ≡ token_at next start value chosen.count) → IfSome found (λ chosen. chosen.token < 10 ^ 9)
  found_small None below small token = tt
  found_small (Some chosen) below small token = subst (λ k. k < 10 ^ 9) (sym token) (token_small next below start value chosen.count small)
