use Rattle.run_laws.proofs.Typing.{usable_taken}
use Rattle.run_laws.proofs.usable_tokens_are_taken.Goals as goal

pub returns : goal.returns
returns c = usable_taken
