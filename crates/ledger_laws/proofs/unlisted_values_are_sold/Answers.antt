use Rattle.ledger_laws.proofs.StuckLemmas.{none_stuck, sold_near}
use Rattle.ledger_laws.proofs.unlisted_values_are_sold.Goals as goal

pub returns-clause-free : goal.returns-clause-free
returns-clause-free c = none_stuck

pub returns-clause-near : goal.returns-clause-near
returns-clause-near c = sold_near
