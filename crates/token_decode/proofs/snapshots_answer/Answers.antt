use Rattle.token_decode.proofs.Answers.{snapshot_answers}
use Rattle.token_decode.proofs.snapshots_answer.Goals as goal

pub returns : goal.returns
returns c = snapshot_answers
