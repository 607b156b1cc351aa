use Rattle.std.proofs.Common.{rules, ◌≡◌, ◌+◌, ◌<◌, suc, length, arith}
use Rattle.table_flaws.proofs.Counted.{orders_more, flaws_more}
use Rattle.table_flaws.proofs.looking.sound.Goals as goal

pub loop-i-preserved : goal.loop-i-preserved
loop-i-preserved g c =
    let same : c.loop-i.i + 1 ≡ suc c.loop-i.i = omega arith in
    let within : c.loop-i.i < length c.in-Ok.rows.items = search rules in
    record {
      tables = search rules;
      faults = search rules;
      rows = search rules;
      twins = search rules;
      orders = orders_more c.in-Ok.rows.items c.loop-i.i (c.loop-i.i + 1) c.index.result.now same within c.index.ensures
          (g.D.Keeper.view c.args.keeper.now).tables (g.D.Keeper.view c.loop-i.keeper).tables c.loop-i.invariant.tables
          c.loop-i.findings.orders c.look_at.new.findings.orders c.loop-i.invariant.orders c.in_ok-look_at.ensures.orders;
      flaws = flaws_more c.in-Ok.rows.items c.loop-i.i (c.loop-i.i + 1) c.index.result.now same within c.index.ensures
          (g.D.Keeper.view c.args.keeper.now).tables (g.D.Keeper.view c.loop-i.keeper).tables c.loop-i.invariant.tables
          g.M.Mixer.next c.loop-i.findings.flaws.items c.look_at.new.findings.flaws.items c.loop-i.invariant.flaws c.in_ok-look_at.ensures.flaws;
    }
