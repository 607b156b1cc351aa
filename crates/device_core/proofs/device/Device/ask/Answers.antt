use Rattle.device_core.proofs.MadeSteps.{made_handled}
use Rattle.device_core.proofs.UnmadeSteps.{off_handled, broken_handled}
use Rattle.device_core.proofs.device.Device.ask.Goals as goal

pub returns-in-Off : goal.returns-in-Off
returns-in-Off g c = off_handled g.M.Mixer.next c.args.event c.args.self.now.phase c.args.self.now.pad _ c.requires.other c.in-Off.is c.requires.holds

pub returns-in-Unmade : goal.returns-in-Unmade
returns-in-Unmade g c = c.ask_unmade.ensures g.M.Mixer.next

pub returns-in-Damaged : goal.returns-in-Damaged
returns-in-Damaged g c =
    broken_handled g.M.Mixer.next c.args.event c.requires.other c.args.self.now.pad _ c.answer_only.result c.answer_only.new.pad c.answer_only.ensures.pad
    c.args.self.now.phase c.in-Damaged.place c.in-Damaged.is c.requires.holds c.answer_only.ensures.reply

pub returns-in-Up : goal.returns-in-Up
returns-in-Up g c =
    made_handled g.M.Mixer.next c.args.event c.args.self.now.phase c.in-Up.journal c.args.self.now.pad _ c.ask_made.result c.ask_made.new.journal c.ask_made.new.pad _
    c.requires.other c.requires.event c.in-Up.is c.requires.holds c.ask_made.ensures
