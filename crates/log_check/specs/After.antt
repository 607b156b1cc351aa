-- What a device may answer to an event and go on to, as a list: at most five pairs, the one without a power cut first.
-- Its states hold the summary of a history in place of the history, so that two histories with one summary are one
-- state.
use Rattle.std.specs.Prelude.{ℕ, Bool, true, false, ◌==◌, List, [], ◌∷◌, map, Option, Some, None, if◌then◌else◌}
use Rattle.paygo_spec.specs.declared.Config.{Config}
use Rattle.paygo_spec.specs.declared.Entry.{Entry}
use Rattle.paygo_spec.specs.declared.Entry.TheVariants.{Raised}
use Rattle.paygo_spec.specs.declared.Event.{Event}
use Rattle.paygo_spec.specs.declared.Event.TheVariants.{Power, Make}
use Rattle.paygo_spec.specs.declared.Reply.{Reply}
use Rattle.paygo_spec.specs.declared.Reply.TheVariants as reply_is
use Rattle.paygo_spec.specs.Faults.{raised}
use Rattle.paygo_spec.specs.Layout.{Position, last_bank, room, further, turned}
use Rattle.paygo_spec.specs.Pad.{Keys, no_keys}
use Rattle.paygo_spec.specs.Snapshot.{snapshot}
use Rattle.paygo_spec.specs.Machine.{State, Stored, Blank, Broken, Journal, History, Effect, Answers, Adds, Raises, new_device, unit_for, clock_at, reply_to_entry, reply_to_power, only, effect_of, keys_after}
use Rattle.device_core.specs.Decided.{forgotten}

-- What a flash stands for, with the history forgotten for its summary.
abbrev pub summed : Stored → Stored
summed (Journal history) = Journal (forgotten history)
summed stored = stored

-- A state of a device, with the history forgotten for its summary.
abbrev pub summed_state : State → State
summed_state state = record state { stored = summed state.stored }

-- A reply, or none, and what the flash stands for then.
pub record Outcome : Type 0 where
  pub reply : Option Reply
  pub stored : Stored

abbrev pub with_reply : Option Reply → Stored → Outcome
with_reply reply stored = record { reply = reply; stored = stored }

-- The summary stays, and the next entry goes to this position.
abbrev pub moved : History → Position → Stored
moved history at = Journal (record history { at = at })

-- The summary takes in one entry more, and the next one goes to this position.
abbrev pub taken : History → Entry → Position → Stored
taken history entry at =
    Journal (record {
      config = history.config;
      start = snapshot (unit_for history) history.start (entry ∷ []);
      entries = [];
      at = at;
    })

-- Where the next entry may go after one that was cut off and doesn't count.
abbrev pub left_at : Position → List Position
left_at at = at ∷ further at ∷ (if at.place == 512 then turned at ∷ [] else [])

-- An entry is added: there is no room for it; or it is answered; or the power is cut, and it counts or not.
abbrev pub adding : History → Entry → List Outcome
adding history entry =
    if room history.at == 0 then with_reply (Some reply_is.Worn) (Journal history) ∷ []
    else with_reply (Some (reply_to_entry entry (clock_at history (entry ∷ []))))
    (taken history entry (further history.at))
    ∷ with_reply (Some reply_is.Down) (taken history entry (further history.at))
    ∷ map (λ at. with_reply (Some reply_is.Down) (moved history at)) (left_at history.at)

-- A device is raised: there is no bank for it; or it is answered; or the power is cut, and the history is as before or
-- raised.
abbrev pub raising : History → List Outcome
raising history =
    if history.at.number == last_bank then with_reply (Some reply_is.Worn) (Journal history) ∷ []
    else with_reply (Some reply_is.Raised) (taken history Raised (turned history.at))
    ∷ with_reply (Some reply_is.Down) (Journal history)
    ∷ with_reply (Some reply_is.Down) (taken history Raised (turned history.at)) ∷ []

-- A device is made: it is up; or the power is cut, and it isn't made or is.
abbrev pub making : Config → List Outcome
making config =
    with_reply (Some (reply_is.Up 0 0 false 0)) (Journal (new_device config))
    ∷ with_reply (Some reply_is.Down) Blank ∷ with_reply (Some reply_is.Down) (Journal (new_device config)) ∷ []

-- An event with this effect on a device that was made. What takes no word of the flash leaves the summary as it is.
abbrev pub by_effect : History → Effect → List Outcome
by_effect history (Answers reply entries) = with_reply reply (Journal history) ∷ []
by_effect history (Adds entry) = adding history entry
by_effect history Raises = raising history

-- An event but Power on a device that is on.
abbrev pub outcomes : (List ℕ → ℕ → ℕ) → Stored → Keys → Event → List Outcome
outcomes next Blank keys (Make config) = making config
outcomes next Blank keys event = with_reply (only event reply_is.Unmade) Blank ∷ []
outcomes next (Broken word) keys event = with_reply (only event (reply_is.Damaged word)) (Broken word) ∷ []
outcomes next (Journal history) keys event = by_effect history (effect_of next history keys event)

-- The power comes.
abbrev pub powering : Stored → List Outcome
powering stored = with_reply (Some (reply_to_power stored)) stored ∷ with_reply (Some reply_is.Down) stored ∷ []

-- What a device is after an outcome: off, with a cleared pad and one fault more, where it answered `down`, and else on.
abbrev pub state_by : Option Reply → Stored → Keys → ℕ → State
state_by (Some reply_is.Down) stored keys faults =
    record { on = false; stored = stored; keys = no_keys; faults = raised faults 1 }
state_by reply stored keys faults = record { on = true; stored = stored; keys = keys; faults = faults }

-- A reply, or none, and the state then.
pub record Choice : Type 0 where
  pub reply : Option Reply
  pub state : State

abbrev pub choice : Option Reply → State → Choice
choice reply state = record { reply = reply; state = state }

abbrev pub choice_of : Keys → ℕ → Outcome → Choice
choice_of keys faults outcome = choice outcome.reply (state_by outcome.reply outcome.stored keys faults)

-- What a device that is on, or off, may answer to an event but Power: one that is off stays as it is.
abbrev pub after_if : Bool → (List ℕ → ℕ → ℕ) → State → Event → List Choice
after_if true next state event =
    map (choice_of (keys_after state.stored event state.keys) state.faults)
    (outcomes next state.stored state.keys event)
after_if false next state event = choice None state ∷ []

-- What a device may answer to an event, or that it answers nothing, and its state then.
abbrev pub after : (List ℕ → ℕ → ℕ) → State → Event → List Choice
after next state Power = map (choice_of no_keys state.faults) (powering state.stored)
after next state event = after_if state.on next state event
