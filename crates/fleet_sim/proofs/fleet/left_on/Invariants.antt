use Rattle.std.proofs.Common.{◌≡◌, drop, length}
use Rattle.fleet_sim.proofs.Closing.{IsLeft}
use Rattle.fleet_sim.proofs.fleet.left_on.Given as goal

abbrev pub invariant-loop-i : goal.invariant-loop-i
invariant-loop-i g l = record {
  size : length l.sites.items ≡ length l.fn.sites.items;
  rest : drop l.i l.sites.items ≡ drop l.i l.fn.sites.items;
  so_far : IsLeft l.fn.sites.items l.i l.all;
}
