use Rattle.std.proofs.Common.{◌∙◌, arith}
use Rattle.std.proofs.lemmas.List.{length-set}
use Rattle.fleet_sim.proofs.Closing.{same_at, rest_more, left_more, all_left}
use Rattle.fleet_sim.proofs.fleet.left_on.Goals as goal

pub loop-i-preserved : goal.loop-i-preserved
loop-i-preserved g c = record {
  size = length-set c.loop-i.sites.items c.loop-i.i c.left.new.self ∙ c.loop-i.invariant.size;
  rest = rest_more c.loop-i.sites.items c.args.sites.now.items c.loop-i.i c.left.new.self c.loop-i.invariant.rest;
  so_far = rw c.saturating_add-all.ensures
      (left_more c.args.sites.now.items c.loop-i.i c.index_mut-site.result.now c.loop-i.all c.left.result
      (same_at c.loop-i.sites.items c.args.sites.now.items c.loop-i.i c.index_mut-site.result.now
      (omega arith) c.loop-i.invariant.rest c.index_mut-site.ensures.value)
      c.loop-i.invariant.so_far c.left.ensures);
}

pub returns : goal.returns
returns g c = all_left c.args.sites.now.items c.loop-i.i c.loop-i.all (omega arith) c.loop-i.invariant.so_far
