use Rattle.std.proofs.Common.{◌≡◌, ℕ, ◌<◌, arith}
use Rattle.paygo_spec.specs.Chain.{token_base_of, value_in}
use Rattle.paygo_spec.proofs.CleanTokens.{value_back}
use Rattle.history_laws.proofs.tokens_say_their_value.Goals as goal

-- the three digits alone say the value
base_back : (start v : ℕ) → v < 1000 → value_in start (token_base_of start v) ≡ v
base_back start v h = omega arith

pub returns : goal.returns
returns c = record { token = value_back; base = base_back }
