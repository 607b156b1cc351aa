use Rattle.std.proofs.Common.{◌≡◌, true, false, List, [], ap, ◌∙◌, rules}
use Rattle.log_check.specs.declared.standing.Standing.{Standing}
use Rattle.log_check.specs.Keeping.{storeds_of, put_storeds, told_from, is_cut}
use Rattle.log_check.proofs.Stating.{fell, stayed}
use Rattle.log_check.proofs.states.States.answer.Goals as goal

pub returns-then-eq-clause-told : goal.returns-then-eq-clause-told
returns-then-eq-clause-told g c states ok are answered =
    let cut : is_cut c.args.text.now ≡ true = search rules in
    fell g.M.Mixer.next c.args.self.now c.args.event states are c.fall.new.self c.args.text.now answered
    (λ keys pad. ap storeds_of c.fall.ensures.standings ∙ c.in_ok-behind.ensures.told keys pad
    ∙ ap (λ (l : List Standing). put_storeds []
    (told_from g.M.Mixer.next c.args.text.now c.args.event keys (storeds_of l))) c.deref.ensures.value)
    cut c.fall.ensures.off c.fall.ensures.pad

pub returns-clause-told : goal.returns-clause-told
returns-clause-told g c states ok are answered =
    let uncut : is_cut c.args.text.now ≡ false = search rules in
    stayed g.M.Mixer.next c.args.self.now c.args.event states are c.stay.new.self c.args.text.now answered
    (λ keys pad. ap storeds_of c.stay.ensures.standings ∙ c.in_ok-behind.ensures.told keys pad
    ∙ ap (λ (l : List Standing). put_storeds []
    (told_from g.M.Mixer.next c.args.text.now c.args.event keys (storeds_of l))) c.deref.ensures.value)
    uncut c.stay.ensures.on c.stay.ensures.pad
