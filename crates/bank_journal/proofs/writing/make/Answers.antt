use Rattle.std.proofs.Common.{◌≡◌, ℕ, Ok, ◌∙◌, ap, sym, subst, List, Option, IfSome}
use Rattle.std.specs.Prelude.{slice_index}
use Rattle.paygo_spec.specs.Flash.{Failed}
use Rattle.paygo_spec.specs.Rail.{number_in}
use Rattle.paygo_spec.specs.Recovery.{Unmade, recover}
use Rattle.bank_journal.proofs.NewDevice.{damaged_before, made_before, unmade_before}
use Rattle.bank_journal.proofs.Told.{told_all}
use Rattle.bank_journal.proofs.writing.make.Goals as goal

pub make_new-requires-clause-unmade : goal.make_new-requires-clause-unmade
make_new-requires-clause-unmade g c =
    let second : IfSome (g.F.Flash.view c.args.flash.now).words (λ (ws : List ℕ). c.in_ok-second.second ≡ slice_index ws 512) =
    subst (λ (o : Option (List ℕ)). IfSome o (λ (ws : List ℕ). c.in_ok-second.second ≡ slice_index ws 512)) c.read_word.ensures.words c.in_ok-second.ensures.word in
    subst (λ (o : Option (List ℕ)). IfSome o (λ (ws : List ℕ). recover ws ≡ Unmade)) (sym (c.read_word-2.ensures.words ∙ c.read_word.ensures.words))
    (unmade_before _ c.in_ok-first.first c.in_ok-second.second (g.met.F.Flash.whole c.args.flash.now) c.in_ok-first.ensures.word second
    (sym c.newest.ensures ∙ c.in-Ok-None.is ∙ ap Ok c.in-Ok-None.field-0-is))

pub returns-in-Ok-Some-clause-found : goal.returns-in-Ok-Some-clause-found
returns-in-Ok-Some-clause-found g c =
    let second : IfSome (g.F.Flash.view c.args.flash.now).words (λ (ws : List ℕ). c.in_ok-second.second ≡ slice_index ws 512) =
    subst (λ (o : Option (List ℕ)). IfSome o (λ (ws : List ℕ). c.in_ok-second.second ≡ slice_index ws 512)) c.read_word.ensures.words c.in_ok-second.ensures.word in
    made_before (g.F.Flash.view c.args.flash.now).words c.in_ok-first.first c.in_ok-second.second c.in-Ok-Some.bank c.number.result c.in_ok-first.ensures.word second
    (sym c.newest.ensures ∙ c.in-Ok-Some.is ∙ ap Ok c.in-Ok-Some.field-0-is) (c.number.ensures ∙ ap number_in c.header_of.ensures)

pub returns-in-Err-clause-found : goal.returns-in-Err-clause-found
returns-in-Err-clause-found g c =
    let second : IfSome (g.F.Flash.view c.args.flash.now).words (λ (ws : List ℕ). c.in_ok-second.second ≡ slice_index ws 512) =
    subst (λ (o : Option (List ℕ)). IfSome o (λ (ws : List ℕ). c.in_ok-second.second ≡ slice_index ws 512)) c.read_word.ensures.words c.in_ok-second.ensures.word in
    damaged_before (g.F.Flash.view c.args.flash.now).words c.in_ok-first.first c.in_ok-second.second c.in-Err.place c.in_ok-first.ensures.word second (sym c.newest.ensures ∙ c.in-Err.is)

pub returns-in-Ok-None-clause-made_calls : goal.returns-in-Ok-None-clause-made_calls
returns-in-Ok-None-clause-made_calls g c = λ failed.
    let second : IfSome (g.F.Flash.view c.args.flash.now).words (λ (ws : List ℕ). c.in_ok-second.second ≡ slice_index ws 512) =
    subst (λ (o : Option (List ℕ)). IfSome o (λ (ws : List ℕ). c.in_ok-second.second ≡ slice_index ws 512)) c.read_word.ensures.words c.in_ok-second.ensures.word in
    told_all (λ ws. recover ws ≡ Unmade) (λ ws. (recover ws ≡ Unmade → ⊥) → Failed 2 (g.F.Flash.view c.args.flash.now) (g.F.Flash.view c.make_new.new.flash)) _
    (unmade_before _ c.in_ok-first.first c.in_ok-second.second (g.met.F.Flash.whole c.args.flash.now) c.in_ok-first.ensures.word second
    (sym c.newest.ensures ∙ c.in-Ok-None.is ∙ ap Ok c.in-Ok-None.field-0-is))
    (λ ws unmade other. absurd (other unmade))
