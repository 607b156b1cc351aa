use Rattle.std.proofs.Common.{◌≡◌, arith, rules, sym, ap}
use Rattle.std.specs.Prelude.{codes}
use Rattle.std.proofs.lemmas.Slice.Eq.{text_from_reads}
use Rattle.ledger_spec.specs.Reading.{verb_of}
use Rattle.ledger_text.proofs.members.named.Goals as goal

pub returns-in-enroll : goal.returns-in-enroll
returns-in-enroll c =
    let is : c.args.word.now ≡ codes "enroll" = text_from_reads c.args.word.now (codes "enroll") (omega arith) (search rules) in
    ap verb_of (sym is)

pub returns-in-disable : goal.returns-in-disable
returns-in-disable c =
    let is : c.args.word.now ≡ codes "disable" = text_from_reads c.args.word.now (codes "disable") (omega arith) (search rules) in
    ap verb_of (sym is)
