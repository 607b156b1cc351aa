-- The power of a device comes.
use Rattle.std.proofs.Common.{◌≡◌, ◌≢◌, ℕ, true, false, List, Option, Some, None, IfSome, refl, sym, ap, ◌∙◌, subst}
use Rattle.paygo_spec.specs.declared.Event.TheVariants.{Power}
use Rattle.paygo_spec.specs.declared.Reply.{Reply}
use Rattle.paygo_spec.specs.declared.Reply.TheVariants as reply_is
use Rattle.paygo_spec.specs.Flash.{Passed, Failed, FlashView}
use Rattle.paygo_spec.specs.Faults.{Rose}
use Rattle.paygo_spec.proofs.Plans.{plan_passed, plan_failed}
use Rattle.paygo_spec.specs.Pad.{PadView, no_keys, kept_of}
use Rattle.paygo_spec.specs.Recovery.{JournalView, Recovered, recover}
use Rattle.paygo_spec.specs.Recovery as recovered
use Rattle.paygo_spec.specs.Machine.{Stored, Blank, Broken, Journal, StandsAs, Stands, State, Acts, Goes, reply_to_power, calls_of_power}
use Rattle.device_core.specs.declared.device.Device.{Device}
use Rattle.device_core.specs.declared.device.Phase.{Phase}
use Rattle.device_core.specs.declared.device.Phase.TheVariants.{Off, Unmade, Damaged, Up}
use Rattle.device_core.specs.Memory.{Fits, is_on, Backs, Agrees, Costs}
use Rattle.device_core.specs.Changes.{Starts, greeting_of, Handled, off_device, settled}
use Rattle.device_core.proofs.Stands.{stands_as, journal_is}
use Rattle.device_core.proofs.Handling.{no_fault, off_holds}
use Rattle.device_core.proofs.Recalling.{powers_by}

-- the words of a blank flash are those of no device
blank_unmade : (words : Option (List ℕ)) (P : Type 0) → Stands words Blank → IfSome words (λ words. recover words ≡ recovered.Unmade → P) → P
blank_unmade None P stands says = absurd stands
blank_unmade (Some words) P stands says = says (only_unmade (recover words) stands)
  where
    only_unmade : (found : Recovered) → StandsAs found Blank → found ≡ recovered.Unmade
    only_unmade recovered.Unmade stands_so = refl
    only_unmade (recovered.Damaged word) stands_so = absurd stands_so
    only_unmade (recovered.Made journal) stands_so = absurd stands_so

module _ (next : List ℕ → ℕ → ℕ) (old : Device) (was now : FlashView) where
  -- the flash failed
  failed_calls : (stored : Stored) → Stands was.words stored → Failed 514 was now → IfSome was.words (λ words. recover words ≡ recovered.Unmade → Failed 3 was now)
      → Costs (calls_of_power stored) (Some reply_is.Down) was now
  failed_calls Blank stands failed short = (blank_unmade was.words (Failed 3 was now) stands short).due
  failed_calls (Broken word) stands failed short = tt
  failed_calls (Journal history) stands failed short = failed.due

  off_started : Starts Off was now → Handled next Power old was (Some reply_is.Down) off_device now
  off_started (same, failed, short) = record {
    holds = off_holds now;
    faults = failed.rose;
    plan = plan_failed 514 was now failed;
    down = λ e. record { off = refl; cleared = refl };
    step = λ state agrees. (
      record { on = false; stored = state.stored; keys = no_keys; faults = now.faults },
      (refl, record { off = refl; cleared = refl; rose = subst (λ (n : ℕ). Rose n now.faults) (sym agrees.stand.faults) failed.rose }),
      record { on_is = refl; pad_is = refl; stand = record { words = subst (λ (w : Option (List ℕ)). Stands w state.stored) (sym same) agrees.stand.words; faults = refl } },
    );
    calls = λ state agrees. failed_calls state.stored agrees.stand.words failed short;
    kept = λ e. same;
    memory = refl;
  }

  -- the device is on, and what it found stands for what the machine says
  module _ (phase : Phase) (found : Recovered) (on : is_on (record { phase = phase; pad = kept_of no_keys }) ≡ true) (same : now.words ≡ was.words) (backs : IfSome was.words (λ words. recover words ≡ found))
      (backs_is : (words : List ℕ) → recover words ≡ found → Backs phase words)
      (fits_is : (stored : Stored) → Fits phase stored → StandsAs found stored) (fits : (stored : Stored) × Fits phase stored) (calls : ℕ) (passed : Passed calls was now) where
    abbrev new : Device
    new = record { phase = phase; pad = kept_of no_keys }

    backed : (words : Option (List ℕ)) → IfSome words (λ words. recover words ≡ found) → IfSome words (Backs phase)
    backed None is = tt
    backed (Some words) is = backs_is words is

    started : (reply : Reply) → reply ≢ reply_is.Down → ((stored : Stored) → StandsAs found stored → (reply ≡ reply_to_power stored) × Costs (calls_of_power stored) (Some reply) was now)
        → Handled next Power old was (Some reply) new now
    started reply fair says =
        let at : (state : State) → Agrees old was state → (reply ≡ reply_to_power state.stored) × Costs (calls_of_power state.stored) (Some reply) was now =
        (λ state agrees. says state.stored (stands_as was.words found state.stored backs agrees.stand.words)) in
        record {
          holds = record { up = λ e. passed.up; words = subst (λ (w : Option (List ℕ)). IfSome w (Backs phase)) (sym same) (backed was.words backs) };
          faults = no_fault (Some reply) was.faults now.faults (λ e. fair cc) passed.faults;
          plan = plan_passed calls was now passed;
          down = λ e. absurd (fair cc);
          step = λ state agrees.
              let after : State = record { on = true; stored = state.stored; keys = no_keys; faults = now.faults } in (
                after,
                acts reply state after fair (refl, (ap Some (at state agrees).0, record { on_is = refl; keys_are = refl; faults_are = passed.faults ∙ sym agrees.stand.faults })),
                record { on_is = sym on; pad_is = refl; stand = record { words = subst (λ (w : Option (List ℕ)). Stands w state.stored) (sym same) agrees.stand.words; faults = refl } },
              );
          calls = λ state agrees. (at state agrees).1;
          kept = λ e. same;
          memory = powers_by reply new fair on refl fits (λ stored fits. (says stored (fits_is stored fits)).0);
        }
      where
        acts : (reply : Reply) (state after : State) → reply ≢ reply_is.Down → (after.stored ≡ state.stored) × ((Some reply ≡ Some (reply_to_power state.stored)) × Goes true no_keys state after)
            → Acts next Power (Some reply) state after
        acts reply_is.Down state after fair does = absurd (fair refl)
        acts _ state after fair does = does

  unmade_says : Passed 3 was now → (stored : Stored) → StandsAs recovered.Unmade stored → (reply_is.Unmade ≡ reply_to_power stored) × Costs (calls_of_power stored) (Some reply_is.Unmade) was now
  unmade_says passed Blank stands_so = (refl, passed.due)
  unmade_says passed (Broken word) stands_so = absurd stands_so
  unmade_says passed (Journal history) stands_so = absurd stands_so

  damaged_says : (word : ℕ) (stored : Stored) → StandsAs (recovered.Damaged word) stored → (reply_is.Damaged word ≡ reply_to_power stored) × Costs (calls_of_power stored) (Some (reply_is.Damaged word)) was now
  damaged_says word Blank stands_so = absurd stands_so
  damaged_says word (Broken place) stands_so = (ap reply_is.Damaged stands_so, tt)
  damaged_says word (Journal history) stands_so = absurd stands_so

  up_says : (journal : JournalView) → Passed 514 was now → (stored : Stored) → StandsAs (recovered.Made journal) stored
      → (greeting_of (Up journal) ≡ reply_to_power stored) × Costs (calls_of_power stored) (Some (greeting_of (Up journal))) was now
  up_says journal passed Blank stands_so = absurd stands_so
  up_says journal passed (Broken word) stands_so = absurd stands_so
  up_says journal passed (Journal history) stands_so = (ap (λ (j : JournalView). greeting_of (Up j)) (journal_is journal history stands_so), passed.due)

  started_here : (phase : Phase) → (stored : Stored) × Fits phase stored → Starts phase was now → Handled next Power old was (Some (greeting_of phase)) (settled (Some (greeting_of phase)) (record { phase = phase; pad = kept_of no_keys })) now
  started_here Off fits starts = off_started starts
  started_here Unmade fits (same, backs, passed) =
      started Unmade recovered.Unmade refl same backs (λ words is. is) (λ stored fits. fits) fits 3 passed reply_is.Unmade (λ e. cc) (unmade_says passed)
  started_here (Damaged word) fits (same, backs, (calls, passed)) =
      started (Damaged word) (recovered.Damaged word) refl same backs (λ words is. is) (λ stored fits. fits) fits calls passed (reply_is.Damaged word) (λ e. cc) (damaged_says word)
  started_here (Up journal) fits (same, backs, passed) =
      started (Up journal) (recovered.Made journal) refl same backs (λ words is. is) (λ stored fits. fits) fits 514 passed (greeting_of (Up journal)) (λ e. cc) (up_says journal passed)

  pub power_handled : (phase : Phase) (reply : Reply) (pad : PadView) → reply ≡ greeting_of phase → pad ≡ kept_of no_keys → (stored : Stored) × Fits phase stored → Starts phase was now
      → Handled next Power old was (Some reply) (settled (Some reply) (record { phase = phase; pad = pad })) now
  power_handled phase reply pad says cleared fits starts =
      subst (λ (r : Reply). Handled next Power old was (Some r) (settled (Some r) (record { phase = phase; pad = pad })) now) (sym says)
      (subst (λ (p : PadView). Handled next Power old was (Some (greeting_of phase)) (settled (Some (greeting_of phase)) (record { phase = phase; pad = p })) now) (sym cleared)
      (started_here phase fits starts))
