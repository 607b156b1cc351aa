use Rattle.table_flaws.proofs.Flawless.{flawless_is}
use Rattle.table_flaws.proofs.laws.sound_tables_have_no_flaw.Goals as goal

pub returns : goal.returns
returns c = flawless_is
