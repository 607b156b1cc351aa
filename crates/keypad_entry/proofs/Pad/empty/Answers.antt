use Rattle.std.proofs.Common.{ap}
use Rattle.keypad_entry.proofs.Entries.{pad_of, handed_over-none}
use Rattle.keypad_entry.proofs.Pad.empty.Goals as goal

pub returns : goal.returns
returns c = ap (λ digits. pad_of digits 0 0) handed_over-none
