use Rattle.std.proofs.Common.{cond, ◌∙◌, arith}
use Rattle.std.proofs.lemmas.List.{length-set}
use Rattle.std.proofs.lemmas.List.Edits.{map_over_more}
use Rattle.ledger_spec.specs.Tables.{has_serial}
use Rattle.ledger_keeper.proofs.mem_keeper.put.Goals as goal

pub loop-i-preserved : goal.loop-i-preserved
loop-i-preserved c = record {
  size = length-set c.loop-i.rows.items c.loop-i.i c.put_here.new.old ∙ c.loop-i.invariant.size;
  done = rw c.put_here.ensures (map_over_more (λ old. cond (has_serial c.args.row.now.serial old) c.args.row.now old) c.args.rows.now.items c.loop-i.rows.items c.loop-i.i c.index_mut.result.now (omega arith) c.loop-i.invariant.done c.index_mut.ensures.value);
}
