use Rattle.std.proofs.Common.{refl}
use Rattle.ledger_laws.proofs.Quoting.{foretold}
use Rattle.ledger_laws.proofs.quotes_foretell_payments.Goals as goal

pub returns-clause-still : goal.returns-clause-still
returns-clause-still c = λ next tables serial amount. refl

pub returns-clause-foretold : goal.returns-clause-foretold
returns-clause-foretold c = foretold
