use Rattle.std.proofs.Common.{◌≡◌}
use Rattle.paygo_spec.specs.Chain.{token_at}
use Rattle.token_issue.specs.Lists.{values_below}
use Rattle.token_issue.proofs.listing.tokens_of.Given as goal

abbrev pub invariant-counts : goal.invariant-counts
invariant-counts g l = record {
  place : l.walk ≡ record { key = l.table.key; start = l.table.code; value = 0; count = l.count };
  tokens : l.tokens.items ≡ values_below (token_at (g.M.Mixer.next l.table.key) l.table.code 0) l.count;
}
