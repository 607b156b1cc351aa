use Rattle.std.proofs.Common.{◌≡◌, true}
use Rattle.std.specs.Prelude.{IfSome}
use Rattle.paygo_spec.specs.Recovery.{Made, recover}
use Rattle.bank_journal.proofs.tests.cuts.lived.Given as goal

abbrev pub invariant-minutes : goal.invariant-minutes
invariant-minutes g l = record {
  up : (g.F.Flash.view l.flash).up ≡ true;
  holds : IfSome (g.F.Flash.view l.flash).words (λ words. recover words ≡ Made l.journal);
}
