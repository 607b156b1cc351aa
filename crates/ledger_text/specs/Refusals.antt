-- The answers to commands that were refused.
use Rattle.ledger_spec.specs.declared.Answer.{Answer}
use Rattle.ledger_spec.specs.declared.Answer.TheVariants.{Order, Row, Price, Quote}

-- The answer is a refusal.
abbrev pub is_refusal : Answer → Type 0
is_refusal (Order order form) = ⊥
is_refusal (Row row) = ⊥
is_refusal (Price change) = ⊥
is_refusal (Quote quote) = ⊥
is_refusal _ = Unit {0}
