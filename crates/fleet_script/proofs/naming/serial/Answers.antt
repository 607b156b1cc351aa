use Rattle.std.proofs.Common.{rules, arith}
use Rattle.fleet_script.proofs.TextLemmas.{serial_is_there}
use Rattle.fleet_script.proofs.naming.serial.Goals as goal

pub unwrap-requires : goal.unwrap-requires
unwrap-requires c = serial_is_there c.args.device c.as_bytes.result.now c.of.result (omega arith) (search rules) c.of.ensures.name
