use Rattle.std.proofs.Common.{rules, arith}
use Rattle.sheet_text.proofs.IdLemmas.{id_is_there}
use Rattle.sheet_text.proofs.ids.id_of.Goals as goal

pub unwrap-requires : goal.unwrap-requires
unwrap-requires c =
    id_is_there c.args.sheet.now c.args.place c.as_bytes.result.now c.of.result (search rules) (omega arith)
    (omega arith) (search rules) c.of.ensures.name
