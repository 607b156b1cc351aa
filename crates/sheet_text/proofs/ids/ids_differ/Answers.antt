use Rattle.sheet_text.proofs.IdLemmas.{id_tells}
use Rattle.sheet_text.proofs.ids.ids_differ.Goals as goal

pub returns : goal.returns
returns c = id_tells
