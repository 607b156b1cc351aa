-- A device that was made handles an event.
use Rattle.std.proofs.Common.{◌≡◌, ◌≢◌, inl, inr, ℕ, Bool, true, false, List, Option, Some, None, IfSome, refl, sym, ap, ◌∙◌, subst}
use Rattle.paygo_spec.specs.declared.Event.{Event}
use Rattle.paygo_spec.specs.declared.Event.TheVariants.{Power}
use Rattle.paygo_spec.specs.declared.Reply.{Reply}
use Rattle.paygo_spec.specs.declared.Reply.TheVariants as reply_is
use Rattle.paygo_spec.specs.declared.Entry.{Entry}
use Rattle.paygo_spec.specs.Faults.{Rose}
use Rattle.paygo_spec.specs.Flash.{FlashView, Passed, Failed, KeepsPlan}
use Rattle.paygo_spec.specs.Layout.{calls_of_entry}
use Rattle.paygo_spec.proofs.Plans.{plan_passed, plan_failed}
use Rattle.paygo_spec.specs.Pad.{Keys, PadView, no_keys, kept_of}
use Rattle.paygo_spec.specs.Recovery.{JournalView, recover}
use Rattle.paygo_spec.specs.Recovery as recovered
use Rattle.paygo_spec.specs.Machine.{History, Stored, Blank, Broken, Journal, StandsAs, State, IsEvent, FaultsBy, keys_after, effect_of, calls_on}
use Rattle.device_core.specs.declared.decision.Decision.{Decision}
use Rattle.device_core.specs.declared.decision.Decision.TheVariants.{Answers, Adds, Raises}
use Rattle.device_core.specs.declared.device.Device.{Device}
use Rattle.device_core.specs.declared.device.Phase.{Phase}
use Rattle.device_core.specs.declared.device.Phase.TheVariants.{Up}
use Rattle.device_core.specs.Decided.{MayDo, decided, decision_of}
use Rattle.device_core.specs.Memory.{Holds, Recalls, IsDown, Costs}
use Rattle.device_core.specs.Changes.{Stays, CarriedOut, Asked, Handled, settled}
use Rattle.device_core.proofs.Stands.{becomes_backs, journal_of, journal_is, IsLawful}
use Rattle.device_core.proofs.Effects.{snapshot_decides, lasts}
use Rattle.device_core.proofs.Going.{due_none, Went, Fell, Moved, OneOf, one_of, OneOfRaise, one_of_raise, went}
use Rattle.device_core.proofs.Handling.{goes_on, no_fault, settled_other, off_holds}
use Rattle.device_core.proofs.Recalling.{Reacts, remembers_made, handled_on}

-- What a device that was made has of its flash afterwards, whether that tells its words or not.
pub data Kept (was : FlashView) (reply : Option Reply) (new : JournalView) (now : FlashView) : Type 0 where
  Falls : reply ≡ Some reply_is.Down → (calls : ℕ) → Failed calls was now → Kept was reply new now
  Keeps : reply ≢ Some reply_is.Down → (calls : ℕ) → Passed calls was now → IfSome now.words (λ words. recover words ≡ recovered.Made new) → Kept was reply new now

module _ (old : JournalView) (was : FlashView) (new : JournalView) (now : FlashView) (up : was.up ≡ true) (backs : IfSome was.words (λ words. recover words ≡ recovered.Made old)) where
  stays_kept : (reply : Option Reply) → reply ≢ Some reply_is.Down → Stays old new was now → Kept was reply new now
  stays_kept reply other stays =
      Keeps other 0 (subst (Passed 0 was) (sym stays.kept) record { up = up; due = due_none was.due; faults = refl })
      (subst (λ (v : FlashView). IfSome v.words (λ words. recover words ≡ recovered.Made new)) (sym stays.kept)
      (subst (λ (j : JournalView). IfSome was.words (λ words. recover words ≡ recovered.Made j)) (sym stays.same) backs))

  adds_kept : (entry : Entry) (reply : Reply) → OneOf entry old was reply new now → Kept was (Some reply) new now
  adds_kept entry reply (inl (worn, none, stays)) = stays_kept (Some reply) (λ e. (let bad : reply_is.Worn ≡ reply_is.Down = cc in cc)) stays
  adds_kept entry reply (inr (inl (down, cut))) = Falls (ap Some down) (calls_of_entry old.at) cut.calls
  adds_kept entry reply (inr (inr (full, down, ok))) =
      Keeps (λ e. down (let same : reply ≡ reply_is.Down = cc in same)) (calls_of_entry old.at) ok.calls (becomes_backs was.words now.words (recovered.Made new) ok.words)

  raises_kept : (reply : Reply) → OneOfRaise old was reply new now → Kept was (Some reply) new now
  raises_kept reply (inl (worn, none, stays)) = stays_kept (Some reply) (λ e. (let bad : reply_is.Worn ≡ reply_is.Down = cc in cc)) stays
  raises_kept reply (inr (inl (down, cut))) = Falls (ap Some down) 13 cut.calls
  raises_kept reply (inr (inr (full, down, ok))) =
      Keeps (λ e. down (let same : reply ≡ reply_is.Down = cc in same)) 13 ok.calls (becomes_backs was.words now.words (recovered.Made new) ok.words)

  pub kept : (decision : Option Decision) (reply : Option Reply) → IfSome decision (MayDo old) → CarriedOut decision old was reply new now → Kept was reply new now
  kept None reply may (none, stays) = stays_kept reply (λ e. (let bad : None ≡ Some reply_is.Down = sym none ∙ e in cc)) stays
  kept (Some (Answers said)) (Some reply) may (same, stays) = stays_kept (Some reply) (λ e. may (let down : reply ≡ reply_is.Down = cc in sym same ∙ down)) stays
  kept (Some (Adds entry)) (Some reply) may adds = adds_kept entry reply (one_of entry old was reply new now adds)
  kept (Some Raises) (Some reply) may raises = raises_kept reply (one_of_raise old was reply new now raises)
  kept (Some decision) None may did = absurd did

abbrev made_device : JournalView → PadView → Device
made_device journal pad = record { phase = Up journal; pad = pad }

module _ (next : List ℕ → ℕ → ℕ) (event : Event) (other : event ≢ Power) (may_come : IsEvent event) (old : JournalView) (before : PadView) (was : FlashView) (reply : Option Reply) (new : JournalView)
    (after : PadView) (now : FlashView) (up : was.up ≡ true) (backs : IfSome was.words (λ words. recover words ≡ recovered.Made old)) (asked : Asked next event old before was reply new after now) where
  abbrev left : Device
  left = settled reply (made_device new after)

  -- what is known of the journal
  abbrev Known : Keys → JournalView → Type 0
  Known keys journal =
      IfSome asked.decision (MayDo journal) × (asked.decision ≡ decided next journal keys event) × CarriedOut asked.decision journal was reply new now
      × IfSome was.words (λ words. recover words ≡ recovered.Made journal)

  went_at : (history : History) (bank : ℕ) (keys : Keys) → IsLawful history → Known keys (journal_of history bank) → Went history (effect_of next history keys event) was reply new now
  went_at history bank keys lawful (may, is, did, backs_here) =
      let same : asked.decision ≡ decision_of (effect_of next history keys event) = is ∙ snapshot_decides next history keys event in
      went history bank lawful was now new backs_here (effect_of next history keys event) reply (subst (λ (d : Option Decision). IfSome d (MayDo (journal_of history bank))) same may)
      (lasts history bank lawful next keys event may_come) (subst (λ (d : Option Decision). CarriedOut d (journal_of history bank) was reply new now) same did)

  went_here : (history : History) (keys : Keys) → before ≡ kept_of keys → StandsAs (recovered.Made old) (Journal history) → Went history (effect_of next history keys event) was reply new now
  went_here history keys pad as_old =
      went_at history old.bank keys as_old.3 (subst (Known keys) (journal_is old history as_old) (asked.may, asked.decision_is keys pad, asked.did, backs))

  -- the step of the machine
  reacts_by : (on : Bool) (history : History) (keys : Keys) (faults : ℕ) → faults ≡ was.faults → before ≡ kept_of keys → Kept was reply new now → Went history (effect_of next history keys event) was reply new now
      → Reacts next event (record { on = on; stored = Journal history; keys = keys; faults = faults }) was reply left now
  reacts_by on history keys faults same pad (Falls down calls failed) (Fell is stored meets stands costs) =
      subst (λ (r : Option Reply). Reacts next event (record { on = on; stored = Journal history; keys = keys; faults = faults }) was r (settled r (made_device new after)) now) (sym down) (
        record { on = false; stored = stored; keys = no_keys; faults = now.faults },
        meets,
        record { off = refl; cleared = refl; rose = subst (λ (n : ℕ). Rose n now.faults) (sym same) failed.rose },
        record { on_is = refl; pad_is = refl; fits = tt; faults_are = refl },
        stands,
      )
  reacts_by on history keys faults same pad (Keeps not_down calls passed backs_now) (Moved is stored meets fits stands costs) =
      let state : State = record { on = true; stored = stored; keys = keys_after (Journal history) event keys; faults = now.faults } in (
        state,
        meets,
        goes_on reply (keys_after (Journal history) event keys) (record { on = on; stored = Journal history; keys = keys; faults = faults }) state not_down
            record { on_is = refl; keys_are = refl; faults_are = passed.faults ∙ sym same },
        subst (λ (d : Device). Recalls d now state) (sym (settled_other reply (made_device new after) not_down))
            record { on_is = refl; pad_is = asked.pad_is keys history pad other; fits = fits; faults_are = refl },
        stands,
      )
  reacts_by on history keys faults same pad (Falls down calls failed) (Moved is stored meets fits stands costs) = absurd (is down)
  reacts_by on history keys faults same pad (Keeps not_down calls passed backs_now) (Fell is stored meets stands costs) = absurd (not_down is)

  costs_by : (history : History) (keys : Keys) → Went history (effect_of next history keys event) was reply new now → Costs (Some (calls_on next (Journal history) keys event)) reply was now
  costs_by history keys (Fell is stored meets stands costs) = subst (λ (r : Option Reply). Costs (Some (calls_on next (Journal history) keys event)) r was now) (sym is) costs
  costs_by history keys (Moved is stored meets fits stands costs) = costs

  says : (on : Bool) (stored : Stored) (keys : Keys) (faults : ℕ) → StandsAs (recovered.Made old) stored → faults ≡ was.faults → before ≡ kept_of keys
      → Reacts next event (record { on = on; stored = stored; keys = keys; faults = faults }) was reply left now × Costs (Some (calls_on next stored keys event)) reply was now
  says on Blank keys faults as_old same pad = absurd as_old
  says on (Broken word) keys faults as_old same pad = absurd as_old
  says on (Journal history) keys faults as_old same pad =
      let gone = went_here history keys pad as_old in
      (reacts_by on history keys faults same pad (kept old was new now up backs asked.decision reply asked.may asked.did) gone, costs_by history keys gone)

  holds_by : Kept was reply new now → Holds left now × FaultsBy reply was.faults now.faults × KeepsPlan was now × (reply ≡ Some reply_is.Down → IsDown left)
  holds_by (Falls down calls failed) =
      subst (λ (r : Option Reply). Holds (settled r (made_device new after)) now × FaultsBy r was.faults now.faults × KeepsPlan was now × (r ≡ Some reply_is.Down → IsDown (settled r (made_device new after)))) (sym down)
      (off_holds now, failed.rose, plan_failed calls was now failed, λ e. record { off = refl; cleared = refl })
  holds_by (Keeps not_down calls passed backs_now) = (
    subst (λ (d : Device). Holds d now) (sym (settled_other reply (made_device new after) not_down)) record { up = λ e. passed.up; words = backs_now },
    no_fault reply was.faults now.faults not_down passed.faults,
    plan_passed calls was now passed,
    λ e. absurd (not_down e),
  )

  handled : Holds (made_device old before) was → Handled next event (made_device old before) was reply left now
  handled holds =
      let held = holds_by (kept old was new now up backs asked.decision reply asked.may asked.did) in
      handled_on next event other (made_device old before) was reply left now holds refl
      (λ state recalled. says state.on state.stored state.keys state.faults recalled.fits recalled.faults_are recalled.pad_is) held.0 held.1 held.2 held.3
      (remembers_made next event (made_device old before) was reply left now other (λ e. cc))

-- the same of a device whose phase is known by an equation
pub made_handled : (next : List ℕ → ℕ → ℕ) (event : Event) (phase : Phase) (old : JournalView) (before : PadView) (was : FlashView) (reply : Option Reply) (new : JournalView) (after : PadView) (now : FlashView)
    → event ≢ Power → IsEvent event → phase ≡ Up old → Holds (record { phase = phase; pad = before }) was → Asked next event old before was reply new after now
    → Handled next event (record { phase = phase; pad = before }) was reply (settled reply (record { phase = Up new; pad = after })) now
made_handled next event phase old before was reply new after now other may_come is holds asked =
    let here : Holds (made_device old before) was = subst (λ (p : Phase). Holds (record { phase = p; pad = before }) was) is holds in
    subst (λ (p : Phase). Handled next event (record { phase = p; pad = before }) was reply (settled reply (record { phase = Up new; pad = after })) now) (sym is)
    (handled next event other may_come old before was reply new after now (here.up refl) here.words asked here)
