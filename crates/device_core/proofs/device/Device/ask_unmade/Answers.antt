use Rattle.device_core.proofs.UnmadeSteps.{blank_handled}
use Rattle.device_core.proofs.device.Device.ask_unmade.Goals as goal

pub returns-in-Make : goal.returns-in-Make
returns-in-Make g c = λ next. rw c.in-Make.is (c.make.ensures next)

pub returns-in_default : goal.returns-in_default
returns-in_default g c = λ next.
    blank_handled next c.args.event c.requires.other c.args.self.now.pad _ c.answer_only.result c.answer_only.new.pad c.answer_only.ensures.pad
    c.args.self.now.phase c.requires.unmade c.requires.holds c.in_default.not-Make c.answer_only.ensures.reply
