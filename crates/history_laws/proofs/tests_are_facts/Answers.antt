use Rattle.paygo_spec.proofs.Accepts.{spent_is}
use Rattle.paygo_spec.proofs.Clocks.{clock_test}
use Rattle.paygo_spec.proofs.Entries.{valid_is, follows_is}
use Rattle.paygo_spec.proofs.WindowTests.{window_test}
use Rattle.history_laws.proofs.tests_are_facts.Goals as goal

pub returns : goal.returns
returns c = record { spent = spent_is; valid = valid_is; window = window_test; clock = clock_test; follows = follows_is }
