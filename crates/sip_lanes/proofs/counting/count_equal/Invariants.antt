use Rattle.std.proofs.Common.{◌≡◌, ◌*◌, ◌≤◌, ◌==◌, take}
use Rattle.std.specs.List.{count_by}
use Rattle.sip_lanes.proofs.counting.count_equal.Given as goal

abbrev pub invariant-eights : goal.invariant-eights
invariant-eights l = record {
  few : l.total ≤ 8 * l.block;
  total : l.total ≡ count_by (λ y. y == l.x) (take (8 * l.block) l.list);
}
