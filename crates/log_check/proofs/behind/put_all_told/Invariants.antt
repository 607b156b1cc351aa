use Rattle.std.proofs.Common.{◌≡◌, map, take}
use Rattle.log_check.specs.Standing.{outcome_of}
use Rattle.log_check.specs.Keeping.{AreStandings, storeds_of, put_storeds, told_by}
use Rattle.log_check.proofs.behind.put_all_told.Given as goal

abbrev pub invariant-loop-foreseen : goal.invariant-loop-foreseen
invariant-loop-foreseen l = record {
  puts : storeds_of l.standings.items ≡ put_storeds (storeds_of l.fn.standings.items)
      (told_by l.text (map outcome_of (take l.foreseen-index l.list)));
  range : AreStandings l.fn.standings.items → AreStandings l.standings.items;
}
