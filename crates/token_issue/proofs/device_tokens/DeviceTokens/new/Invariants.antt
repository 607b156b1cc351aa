use Rattle.std.proofs.Common.{◌≡◌, replicate, None}
use Rattle.token_issue.proofs.device_tokens.DeviceTokens.new.Given as goal

abbrev pub invariant-values : goal.invariant-values
invariant-values g l = l.lists.items ≡ replicate l.value None
