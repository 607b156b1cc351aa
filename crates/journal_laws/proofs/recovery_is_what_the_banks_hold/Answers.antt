use Rattle.journal_laws.proofs.Recovered.{made_holds, holds_made, unmade_none, none_unmade}
use Rattle.journal_laws.proofs.recovery_is_what_the_banks_hold.Goals as goal

pub returns : goal.returns
returns c = record {
  made = λ words journal whole. (made_holds words journal whole, holds_made words journal);
  unmade = λ words whole. (unmade_none words whole, none_unmade words);
}
