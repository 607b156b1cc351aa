use Rattle.history_laws.proofs.Standing.{one_answer, still_ever, worn_banks}
use Rattle.history_laws.proofs.worn_devices_stand_still.Goals as goal

pub returns : goal.returns
returns c = record { ever = still_ever; answer = one_answer; banks = worn_banks }
