use Rattle.std.proofs.Common.{sym, subst}
use Rattle.log_check.specs.declared.outcomes.Foreseen.{Foreseen}
use Rattle.log_check.specs.Keeping.{storeds_of}
use Rattle.log_check.specs.Standing.{IsStanding}
use Rattle.log_check.proofs.Gathering.{gather_more, foretold_at}
use Rattle.log_check.proofs.behind.put_all_told.Goals as goal

pub put_told-requires : goal.put_told-requires
put_told-requires c =
    let x = c.foreseen-item.result in
    subst (λ (y : Foreseen). IsStanding y.standing) (sym c.foreseen-item.is)
    (foretold_at c.args.list.now c.loop-foreseen.foreseen-index x c.loop-foreseen-test.true c.requires)

pub loop-foreseen-preserved : goal.loop-foreseen-preserved
loop-foreseen-preserved c = record {
  puts = gather_more c.args.text.now (storeds_of c.args.standings.now.items)
      (storeds_of c.loop-foreseen.standings.items)
      (storeds_of c.put_told.new.standings.items) c.args.list.now c.loop-foreseen.foreseen-index c.foreseen-item.result
      c.loop-foreseen-test.true c.foreseen-item.is c.loop-foreseen.invariant.puts c.in_ok-put_told.ensures.puts;
  range = λ are. c.in_ok-put_told.ensures.range (c.loop-foreseen.invariant.range are);
}
