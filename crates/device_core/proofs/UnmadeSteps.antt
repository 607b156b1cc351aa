-- A device that is off, isn't made, or is damaged handles an event.
use Rattle.std.proofs.Common.{◌≡◌, ◌≢◌, ℕ, Bool, true, false, List, Option, Some, None, refl, sym, ap, ◌∙◌, subst}
use Rattle.paygo_spec.specs.declared.Config.{Config}
use Rattle.paygo_spec.specs.declared.Event.{Event}
use Rattle.paygo_spec.specs.declared.Event.TheVariants.{Power, Make, Key, Tick, Show, Raise}
use Rattle.paygo_spec.specs.declared.Reply.{Reply}
use Rattle.paygo_spec.specs.declared.Reply.TheVariants as reply_is
use Rattle.paygo_spec.specs.Flash.{FlashView}
use Rattle.paygo_spec.specs.Pad.{Keys, PadView, kept_of}
use Rattle.paygo_spec.specs.Recovery as recovered
use Rattle.paygo_spec.proofs.Plans.{plan_stays}
use Rattle.paygo_spec.specs.Machine.{Stored, Blank, Broken, Journal, StandsAs, State, Acts, ActsIf, Replies, only, keys_after, calls_on, calls_of}
use Rattle.device_core.specs.declared.device.Device.{Device}
use Rattle.device_core.specs.declared.device.Phase.{Phase}
use Rattle.device_core.specs.declared.device.Phase.TheVariants.{Off, Unmade, Damaged}
use Rattle.device_core.specs.Memory.{is_on, Holds, Recalls, Costs}
use Rattle.device_core.specs.Changes.{Handled, settled}
use Rattle.device_core.proofs.Going.{costs_none}
use Rattle.device_core.proofs.Handling.{goes_on, no_fault, settled_other, only_fair}
use Rattle.device_core.proofs.Recalling.{Steps, Reacts, does, recalls, remembers_made, remembers_unmade, handled_on}

abbrev of_phase : Phase → PadView → Device
of_phase phase pad = record { phase = phase; pad = pad }

-- a device that is off answers nothing
off_if : (next : List ℕ → ℕ → ℕ) (event : Event) (state : State) → state.on ≡ false → ActsIf state.on next event None state state
off_if next event state off =
    subst (λ (b : Bool). ActsIf b next event None state state) (sym off) (refl, refl, record { on_is = off; keys_are = refl; faults_are = refl })

off_acts : (next : List ℕ → ℕ → ℕ) (event : Event) (state : State) → event ≢ Power → state.on ≡ false → Acts next event None state state
off_acts next Power state other off = absurd (other refl)
off_acts next (Make config) state other off = off_if next (Make config) state off
off_acts next (Key key) state other off = off_if next (Key key) state off
off_acts next (Tick seconds) state other off = off_if next (Tick seconds) state off
off_acts next Show state other off = off_if next Show state off
off_acts next Raise state other off = off_if next Raise state off

off_calls : (next : List ℕ → ℕ → ℕ) (event : Event) (state : State) → event ≢ Power → state.on ≡ false → calls_of next state event ≡ Some 0
off_calls next Power state other off = absurd (other refl)
off_calls next _ state other off = rw off refl

pub off_handled : (next : List ℕ → ℕ → ℕ) (event : Event) (phase : Phase) (pad : PadView) (was : FlashView) → event ≢ Power → phase ≡ Off → Holds (of_phase phase pad) was
    → Handled next event (of_phase phase pad) was None (of_phase phase pad) was
off_handled next event phase pad was other is holds =
    let off : is_on (of_phase phase pad) ≡ false = ap (λ (p : Phase). is_on (of_phase p pad)) is in
    let steps : Steps next event (of_phase phase pad) was None (of_phase phase pad) was =
    (λ state recalled. (state, off_acts next event state other (recalled.on_is ∙ off), recalled, λ stands. stands)) in
    record {
      holds = holds;
      faults = refl;
      plan = plan_stays was was refl refl;
      down = λ e. cc;
      step = does next event other (of_phase phase pad) was None (of_phase phase pad) was holds steps;
      calls = λ state agrees.
          subst (λ (calls : Option ℕ). Costs calls None was was) (sym (off_calls next event state other (agrees.on_is ∙ off)))
          (costs_none None was was (λ e. cc) refl);
      kept = λ e. absurd (other e);
      memory = remembers_made next event (of_phase phase pad) was None (of_phase phase pad) was other (λ e. let bad : Off ≡ Unmade = sym is ∙ e in cc)
          (recalls next event other (of_phase phase pad) was None (of_phase phase pad) was holds steps);
    }

-- one that isn't made, or is damaged, has one reply
blank_replies : (next : List ℕ → ℕ → ℕ) (event : Event) (keys : Keys) → ((config : Config) → event ≢ Make config) → Replies next Blank keys event (only event reply_is.Unmade) Blank
blank_replies next (Make config) keys other = absurd (other config refl)
blank_replies next _ keys other = (refl, refl)

blank_calls : (next : List ℕ → ℕ → ℕ) (event : Event) (keys : Keys) → ((config : Config) → event ≢ Make config) → calls_on next Blank keys event ≡ 0
blank_calls next (Make config) keys other = absurd (other config refl)
blank_calls next _ keys other = refl

broken_replies : (next : List ℕ → ℕ → ℕ) (event : Event) (keys : Keys) (word place : ℕ) → word ≡ place → Replies next (Broken place) keys event (only event (reply_is.Damaged word)) (Broken place)
broken_replies next event keys word place is = (ap (λ (w : ℕ). only event (reply_is.Damaged w)) is, refl)

broken_keys : (event : Event) (keys : Keys) (word : ℕ) → keys_after Blank event keys ≡ keys_after (Broken word) event keys
broken_keys Power keys word = refl
broken_keys (Make config) keys word = refl
broken_keys (Key key) keys word = refl
broken_keys (Tick seconds) keys word = refl
broken_keys Show keys word = refl
broken_keys Raise keys word = refl

module _ (next : List ℕ → ℕ → ℕ) (event : Event) (other : event ≢ Power) (before : PadView) (was : FlashView) (reply : Option Reply) (after : PadView)
    (told : (keys : Keys) → before ≡ kept_of keys → after ≡ kept_of (keys_after Blank event keys)) where
  -- the device stays what it is
  stays : (phase : Phase) (on : is_on (of_phase phase before) ≡ true) (state : State) → Recalls (of_phase phase before) was state → reply ≢ Some reply_is.Down
      → Replies next state.stored state.keys event reply state.stored → keys_after Blank event state.keys ≡ keys_after state.stored event state.keys
      → Reacts next event state was reply (of_phase phase after) was
  stays phase on state recalled fair replies keys =
      let now : State = record { on = true; stored = state.stored; keys = keys_after state.stored event state.keys; faults = was.faults } in (
        now,
        replies,
        goes_on reply (keys_after state.stored event state.keys) state now fair record { on_is = refl; keys_are = refl; faults_are = sym recalled.faults_are },
        record {
          on_is = sym on;
          pad_is = told state.keys recalled.pad_is ∙ ap kept_of keys;
          fits = recalled.fits;
          faults_are = refl;
        },
        λ stands. stands,
      )

  blank_by : (not_make : (config : Config) → event ≢ Make config) (on : Bool) (stored : Stored) (keys : Keys) (faults : ℕ) → StandsAs recovered.Unmade stored → reply ≡ only event reply_is.Unmade
      → Recalls (of_phase Unmade before) was (record { on = on; stored = stored; keys = keys; faults = faults })
      → Reacts next event (record { on = on; stored = stored; keys = keys; faults = faults }) was reply (of_phase Unmade after) was × Costs (Some (calls_on next stored keys event)) reply was was
  blank_by not_make on Blank keys faults stands_so is recalled =
      let fair : reply ≢ Some reply_is.Down = (λ e. only_fair event reply_is.Unmade (λ d. cc) (sym is ∙ e)) in (
        stays Unmade refl (record { on = on; stored = Blank; keys = keys; faults = faults }) recalled fair
            (subst (λ (r : Option Reply). Replies next Blank keys event r Blank) (sym is) (blank_replies next event keys not_make)) refl,
        subst (λ (n : ℕ). Costs (Some n) reply was was) (sym (blank_calls next event keys not_make)) (costs_none reply was was fair refl),
      )
  blank_by not_make on (Broken word) keys faults stands_so is recalled = absurd stands_so
  blank_by not_make on (Journal history) keys faults stands_so is recalled = absurd stands_so

  broken_by : (word : ℕ) (on : Bool) (stored : Stored) (keys : Keys) (faults : ℕ) → StandsAs (recovered.Damaged word) stored → reply ≡ only event (reply_is.Damaged word)
      → Recalls (of_phase (Damaged word) before) was (record { on = on; stored = stored; keys = keys; faults = faults })
      → Reacts next event (record { on = on; stored = stored; keys = keys; faults = faults }) was reply (of_phase (Damaged word) after) was × Costs (Some (calls_on next stored keys event)) reply was was
  broken_by word on Blank keys faults stands_so is recalled = absurd stands_so
  broken_by word on (Broken place) keys faults stands_so is recalled =
      let fair : reply ≢ Some reply_is.Down = (λ e. only_fair event (reply_is.Damaged word) (λ d. cc) (sym is ∙ e)) in (
        stays (Damaged word) refl (record { on = on; stored = Broken place; keys = keys; faults = faults }) recalled fair
            (subst (λ (r : Option Reply). Replies next (Broken place) keys event r (Broken place)) (sym is) (broken_replies next event keys word place stands_so)) (broken_keys event keys place),
        costs_none reply was was fair refl,
      )
  broken_by word on (Journal history) keys faults stands_so is recalled = absurd stands_so

  blank_here : Holds (of_phase Unmade before) was → ((config : Config) → event ≢ Make config) → reply ≡ only event reply_is.Unmade
      → Handled next event (of_phase Unmade before) was reply (settled reply (of_phase Unmade after)) was
  blank_here holds not_make is =
      let fair : reply ≢ Some reply_is.Down = (λ e. only_fair event reply_is.Unmade (λ d. cc) (sym is ∙ e)) in
      subst (λ (d : Device). Handled next event (of_phase Unmade before) was reply d was) (sym (settled_other reply (of_phase Unmade after) fair))
      (handled_on next event other (of_phase Unmade before) was reply (of_phase Unmade after) was holds refl
      (λ state recalled. blank_by not_make state.on state.stored state.keys state.faults recalled.fits is recalled) record { up = holds.up; words = holds.words }
      (no_fault reply was.faults was.faults fair refl) (plan_stays was was refl refl) (λ e. absurd (fair e))
      (remembers_unmade next event (of_phase Unmade before) was reply (of_phase Unmade after) was other not_make))

  broken_here : (word : ℕ) → Holds (of_phase (Damaged word) before) was → reply ≡ only event (reply_is.Damaged word)
      → Handled next event (of_phase (Damaged word) before) was reply (settled reply (of_phase (Damaged word) after)) was
  broken_here word holds is =
      let fair : reply ≢ Some reply_is.Down = (λ e. only_fair event (reply_is.Damaged word) (λ d. cc) (sym is ∙ e)) in
      subst (λ (d : Device). Handled next event (of_phase (Damaged word) before) was reply d was) (sym (settled_other reply (of_phase (Damaged word) after) fair))
      (handled_on next event other (of_phase (Damaged word) before) was reply (of_phase (Damaged word) after) was holds refl
      (λ state recalled. broken_by word state.on state.stored state.keys state.faults recalled.fits is recalled) record { up = holds.up; words = holds.words }
      (no_fault reply was.faults was.faults fair refl) (plan_stays was was refl refl) (λ e. absurd (fair e))
      (remembers_made next event (of_phase (Damaged word) before) was reply (of_phase (Damaged word) after) was other (λ e. cc)))

  pub blank_handled : (phase : Phase) → phase ≡ Unmade → Holds (of_phase phase before) was → ((config : Config) → event ≢ Make config) → reply ≡ only event reply_is.Unmade
      → Handled next event (of_phase phase before) was reply (settled reply (of_phase phase after)) was
  blank_handled phase is holds not_make says =
      subst (λ (p : Phase). Handled next event (of_phase p before) was reply (settled reply (of_phase p after)) was) (sym is)
      (blank_here (subst (λ (p : Phase). Holds (of_phase p before) was) is holds) not_make says)

  pub broken_handled : (phase : Phase) (word : ℕ) → phase ≡ Damaged word → Holds (of_phase phase before) was → reply ≡ only event (reply_is.Damaged word)
      → Handled next event (of_phase phase before) was reply (settled reply (of_phase (Damaged word) after)) was
  broken_handled phase word is holds says =
      subst (λ (p : Phase). Handled next event (of_phase p before) was reply (settled reply (of_phase (Damaged word) after)) was) (sym is)
      (broken_here word (subst (λ (p : Phase). Holds (of_phase p before) was) is holds) says)
