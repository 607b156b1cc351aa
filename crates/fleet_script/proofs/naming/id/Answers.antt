use Rattle.std.proofs.Common.{rules, arith}
use Rattle.fleet_script.proofs.TextLemmas.{id_is_there}
use Rattle.fleet_script.proofs.naming.id.Goals as goal

pub unwrap-requires : goal.unwrap-requires
unwrap-requires c = id_is_there c.args.device c.args.day c.as_bytes.result.now c.of.result (omega arith) (omega arith) (search rules) c.of.ensures.name
