use Rattle.token_decode.proofs.Meaning.{is_answer, answer_is}
use Rattle.token_decode.proofs.answers_are_facts.Goals as goal

pub returns : goal.returns
returns c next start origin entries token answer =
    (is_answer next start origin entries token answer, answer_is next start origin entries token answer)
