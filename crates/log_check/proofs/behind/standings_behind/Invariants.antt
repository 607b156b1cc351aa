use Rattle.std.proofs.Common.{◌≡◌, [], take}
use Rattle.paygo_spec.specs.Pad.{Keys, kept_of}
use Rattle.log_check.specs.Keeping.{AreStandings, storeds_of, put_storeds, told_from}
use Rattle.log_check.proofs.behind.standings_behind.Given as goal

abbrev pub invariant-loop-standing : goal.invariant-loop-standing
invariant-loop-standing g l = record {
  puts : (keys : Keys) → l.pad ≡ kept_of keys
      → storeds_of l.behind.items ≡ put_storeds []
      (told_from g.M.Mixer.next l.text l.event keys (storeds_of (take l.standing-index l.standings)));
  range : AreStandings l.behind.items;
}
