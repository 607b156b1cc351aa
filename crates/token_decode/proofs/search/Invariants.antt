use Rattle.std.proofs.Common.{◌≡◌, []}
use Rattle.paygo_spec.specs.Window.{alone}
use Rattle.paygo_spec.specs.Found.{is_match, is_raised, takes}
use Rattle.token_decode.proofs.Passed.{Passed}
use Rattle.token_decode.proofs.search.Given as goal

abbrev pub invariant-counts : goal.invariant-counts
invariant-counts g l = record {
  walk : l.walk ≡ record { key = l.key; start = l.start; value = l.value; count = l.count };
  passed : Passed (is_raised l.window.limit) (is_match (g.M.Mixer.next l.key) l.start l.token l.value) (takes (alone l.window.limit l.window.last l.window.bits) [] l.value) l.count l.old;
}
