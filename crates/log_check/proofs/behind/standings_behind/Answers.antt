use Rattle.std.proofs.Common.{sym, subst}
use Rattle.log_check.specs.Keeping.{storeds_of}
use Rattle.log_check.specs.Standing.{IsStanding}
use Rattle.log_check.proofs.Gathering.{goes_more, standing_at}
use Rattle.log_check.proofs.behind.standings_behind.Goals as goal

pub put_from-requires-clause-range : goal.put_from-requires-clause-range
put_from-requires-clause-range g c =
    let x = c.standing-item.result in
    subst IsStanding (sym c.standing-item.is)
    (standing_at c.args.standings.now c.loop-standing.standing-index x c.loop-standing-test.true c.requires.range)

pub loop-standing-preserved : goal.loop-standing-preserved
loop-standing-preserved g c = record {
  puts = λ keys pad. goes_more g.M.Mixer.next c.args.text.now c.args.event keys
      (storeds_of c.loop-standing.behind.items)
      (storeds_of c.put_from.new.standings.items) c.args.standings.now c.loop-standing.standing-index
      c.standing-item.result
      c.loop-standing-test.true c.standing-item.is (c.loop-standing.invariant.puts keys pad)
      (c.in_ok-put_from.ensures.puts keys pad);
  range = c.in_ok-put_from.ensures.range c.loop-standing.invariant.range;
}
