-- A device is made.
use Rattle.std.proofs.Common.{◌≡◌, ◌≢◌, inl, inr, ℕ, Bool, true, false, List, Option, Some, None, IfSome, refl, sym, ap, ◌∙◌, subst}
use Rattle.paygo_spec.specs.declared.Config.{Config}
use Rattle.paygo_spec.specs.declared.Event.TheVariants.{Make}
use Rattle.paygo_spec.specs.declared.Reply.{Reply}
use Rattle.paygo_spec.specs.declared.Reply.TheVariants as reply_is
use Rattle.paygo_spec.specs.Faults.{Rose}
use Rattle.paygo_spec.specs.Flash.{FlashView, Becomes}
use Rattle.paygo_spec.specs.History.{fresh}
use Rattle.paygo_spec.specs.Pad.{Keys, PadView, no_keys, kept_of}
use Rattle.paygo_spec.specs.Recovery.{JournalView, Recovered, recover}
use Rattle.paygo_spec.specs.Recovery as recovered
use Rattle.paygo_spec.specs.Machine.{Stored, Blank, Broken, Journal, StandsAs, Stands, MayMake, new_device, unit_for, calls_on}
use Rattle.paygo_spec.proofs.Plans.{plan_passed, plan_failed}
use Rattle.paygo_spec.proofs.Snapshots.{snapshot_start}
use Rattle.paygo_spec.proofs.Windows.{fresh_keeps}
use Rattle.journal_laws.specs.Journal.{new_journal, IsCutMake}
use Rattle.device_core.specs.declared.device.Device.{Device}
use Rattle.device_core.specs.declared.device.Phase.{Phase}
use Rattle.device_core.specs.declared.device.Phase.TheVariants.{Off, Unmade, Damaged, Up}
use Rattle.device_core.specs.Memory.{Holds, Costs, MakesBy}
use Rattle.device_core.specs.Changes.{Strange, Begins, Handled, off_device, settled}
use Rattle.device_core.proofs.Stands.{becomes_stands, becomes_backs}
use Rattle.device_core.proofs.Handling.{no_fault, off_holds}
use Rattle.device_core.proofs.Recalling.{Reacts, handled_on}

-- a new journal stands for a new device
new_stands : (config : Config) → StandsAs (recovered.Made (new_journal config)) (Journal (new_device config))
new_stands config = (refl, refl, sym (snapshot_start (unit_for (new_device config)) fresh (fresh_keeps)), fresh_keeps)

-- what a cut leaves
cut_make : (config : Config) (old new : List ℕ) → recover old ≡ recovered.Unmade → IsCutMake config old new → (after : Stored) × MayMake config (Some reply_is.Down) after × StandsAs (recover new) after
cut_make config old new unmade (inl same) = (Blank, inl refl, subst (λ (r : Recovered). StandsAs r Blank) (sym (same ∙ unmade)) tt)
cut_make config old new unmade (inr made) = (Journal (new_device config), inr refl, subst (λ (r : Recovered). StandsAs r (Journal (new_device config))) (sym made.1) (new_stands config))

-- where the words aren't told, they are taken to be those of no device
cut_told : (config : Config) (old new : Option (List ℕ)) → IfSome old (λ words. recover words ≡ recovered.Unmade) → Becomes (IsCutMake config) old new
    → (after : Stored) × MayMake config (Some reply_is.Down) after × (Stands old Blank → Stands new after)
cut_told config None None unmade cut = (Blank, inl refl, λ stands. absurd stands)
cut_told config None (Some new) unmade cut = absurd cut
cut_told config (Some old) None unmade cut = absurd cut
cut_told config (Some old) (Some new) unmade cut = let made = cut_make config old new unmade cut in (made.0, made.1, λ stands. made.2)

untold_stands : (words : Option (List ℕ)) (stored : Stored) → IfSome words (λ words. ⊥) → Stands words stored → ⊥
untold_stands None stored untold stands = stands
untold_stands (Some words) stored untold stands = untold

untold_if : (words : Option (List ℕ)) (P : List ℕ → Type 0) → IfSome words (λ words. ⊥) → IfSome words P
untold_if None P untold = tt
untold_if (Some words) P untold = absurd untold

module _ (next : List ℕ → ℕ → ℕ) (config : Config) (pad : PadView) (was now : FlashView) (holds : Holds (record { phase = Unmade; pad = pad }) was) where
  abbrev old : Device
  old = record { phase = Unmade; pad = pad }

  abbrev up_reply : Reply
  up_reply = reply_is.Up 0 0 false 0

  abbrev Steps : Reply → Device → Bool → Stored → Keys → ℕ → Type 0
  Steps reply new on stored keys faults =
      Reacts next (Make config) (record { on = on; stored = stored; keys = keys; faults = faults }) was (Some reply) new now × Costs (Some (calls_on next stored keys (Make config))) (Some reply) was now

  -- it is made
  made_by : (journal : JournalView) → Begins config (Up journal) up_reply was now → (on : Bool) (stored : Stored) (keys : Keys) (faults : ℕ) → StandsAs recovered.Unmade stored
      → faults ≡ was.faults → pad ≡ kept_of keys → Steps up_reply (record { phase = Up journal; pad = pad }) on stored keys faults
  made_by journal (new, says, becomes, passed) on Blank keys faults stands_so same pad_is =
      let fits : StandsAs (recovered.Made journal) (Journal (new_device config)) =
      subst (λ (j : JournalView). StandsAs (recovered.Made j) (Journal (new_device config))) (sym new) (new_stands config) in (
        (
          record { on = true; stored = Journal (new_device config); keys = keys; faults = now.faults },
          (refl, refl),
          record { on_is = refl; keys_are = refl; faults_are = passed.faults ∙ sym same },
          record { on_is = refl; pad_is = pad_is; fits = fits; faults_are = refl },
          λ stands. becomes_stands was.words now.words (recovered.Made journal) Blank (Journal (new_device config)) becomes stands fits,
        ),
        passed.due,
      )
  made_by journal begun on (Broken word) keys faults stands_so same pad_is = absurd stands_so
  made_by journal begun on (Journal history) keys faults stands_so same pad_is = absurd stands_so

  -- the flash failed
  cut_by : Begins config Off reply_is.Down was now → (on : Bool) (stored : Stored) (keys : Keys) (faults : ℕ) → StandsAs recovered.Unmade stored → faults ≡ was.faults
      → Steps reply_is.Down off_device on stored keys faults
  cut_by (cut, failed) on Blank keys faults stands_so same =
      let told = cut_told config was.words now.words holds.words cut in (
        (
          record { on = false; stored = told.0; keys = no_keys; faults = now.faults },
          told.1,
          record { off = refl; cleared = refl; rose = subst (λ (n : ℕ). Rose n now.faults) (sym same) failed.rose },
          record { on_is = refl; pad_is = refl; fits = tt; faults_are = refl },
          told.2,
        ),
        failed.due,
      )
  cut_by begun on (Broken word) keys faults stands_so same = absurd stands_so
  cut_by begun on (Journal history) keys faults stands_so same = absurd stands_so

  -- the flash doesn't tell its words
  strange_handled : (reply : Reply) (new : Device) → Some reply ≢ Some reply_is.Down → Holds new now → Strange was now → MakesBy config (Some reply) old new
      → Handled next (Make config) old was (Some reply) new now
  strange_handled reply new fair kept strange makes = record {
    holds = kept;
    faults = no_fault (Some reply) was.faults now.faults fair strange.calls.faults;
    plan = plan_passed 2 was now strange.calls;
    down = λ e. absurd (fair e);
    step = λ state agrees. absurd (untold_stands was.words state.stored strange.untold agrees.stand.words);
    calls = λ state agrees. absurd (untold_stands was.words state.stored strange.untold agrees.stand.words);
    kept = λ e. cc;
    memory = (λ e. makes, λ e. absurd (e refl));
  }

  up_handled : (journal : JournalView) → Begins config (Up journal) up_reply was now → Handled next (Make config) old was (Some up_reply) (record { phase = Up journal; pad = pad }) now
  up_handled journal begun =
      handled_on next (Make config) (λ e. cc) old was (Some up_reply) (record { phase = Up journal; pad = pad }) now holds refl
      (λ state recalled. made_by journal begun state.on state.stored state.keys state.faults recalled.fits recalled.faults_are recalled.pad_is)
      record { up = λ e. begun.3.up; words = becomes_backs was.words now.words (recovered.Made journal) begun.2 } begun.3.faults (plan_passed 15 was now begun.3) (λ e. cc)
      (λ recalled. (λ e. (refl, ap (λ (j : JournalView). Some (recovered.Made j)) begun.0, refl), λ e. recalled))

  down_handled : Begins config Off reply_is.Down was now → Handled next (Make config) old was (Some reply_is.Down) off_device now
  down_handled begun =
      handled_on next (Make config) (λ e. cc) old was (Some reply_is.Down) off_device now holds refl
      (λ state recalled. cut_by begun state.on state.stored state.keys state.faults recalled.fits recalled.faults_are)
      (off_holds now) begun.1.rose (plan_failed 15 was now begun.1) (λ e. record { off = refl; cleared = refl }) (λ recalled. (λ e. refl, λ e. recalled))

  made_here : (phase : Phase) (reply : Reply) → Begins config phase reply was now → Handled next (Make config) old was (Some reply) (settled (Some reply) (record { phase = phase; pad = pad })) now
  made_here (Up journal) reply begun =
      subst (λ (r : Reply). Handled next (Make config) old was (Some r) (settled (Some r) (record { phase = Up journal; pad = pad })) now) (sym begun.1)
      (up_handled journal (begun.0, refl, begun.2, begun.3))
  made_here Off reply_is.Down begun = down_handled begun
  made_here Off (reply_is.Made number) strange =
      strange_handled (reply_is.Made number) (record { phase = Off; pad = pad }) (λ e. cc) record { up = λ e. cc; words = untold_if now.words _ (rw strange.words strange.untold) } strange (refl, refl)
  made_here (Damaged place) (reply_is.Damaged word) (same, strange) =
      strange_handled (reply_is.Damaged word) (record { phase = Damaged place; pad = pad }) (λ e. cc) record { up = λ e. strange.calls.up; words = untold_if now.words _ (rw strange.words strange.untold) } strange
      (ap (λ (w : ℕ). Some (recovered.Damaged w)) (sym same), refl)
  made_here _ _ begun = absurd begun

pub make_handled : (next : List ℕ → ℕ → ℕ) (config : Config) (before : Phase) (pad : PadView) (was now : FlashView) (phase : Phase) (reply : Reply) → before ≡ Unmade → Holds (record { phase = before; pad = pad }) was
    → Begins config phase reply was now → Handled next (Make config) (record { phase = before; pad = pad }) was (Some reply) (settled (Some reply) (record { phase = phase; pad = pad })) now
make_handled next config before pad was now phase reply is holds begun =
    subst (λ (p : Phase). Handled next (Make config) (record { phase = p; pad = pad }) was (Some reply) (settled (Some reply) (record { phase = phase; pad = pad })) now) (sym is)
    (made_here next config pad was now (subst (λ (p : Phase). Holds (record { phase = p; pad = pad }) was) is holds) phase reply begun)
