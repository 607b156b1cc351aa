-- A device whose flash tells no words, as a file tells none: what it may reply then, by what it has in memory.
use Rattle.std.specs.Prelude.{◌≡◌, ℕ, ◌+◌, ◌≤◌, ◌⊎◌, Bool, true, false, ◌==◌, List, [], ◌∷◌, ◌++◌, length, take, drop, Option, Some, if◌then◌else◌}
use Rattle.paygo_spec.specs.declared.Event.{Event}
use Rattle.paygo_spec.specs.declared.Event.TheVariants.{Power, Make}
use Rattle.paygo_spec.specs.declared.Reply.{Reply}
use Rattle.paygo_spec.specs.declared.Reply.TheVariants as reply_is
use Rattle.paygo_spec.specs.Lawful.{Lawful}
use Rattle.paygo_spec.specs.Pad.{no_keys}
use Rattle.paygo_spec.specs.Machine.{State, Stored, Blank, Broken, Journal, Acts, Goes, reply_to_power, unit_for}
use Rattle.run_spec.specs.Run.{Step, Act, Answer, Told}

-- A device that isn't made is on, and is asked to be made on a flash that another wrote in the meantime.
pub record IsOnUnmade (state : State) : Type 0 where
  pub on : state.on ≡ true
  pub unmade : state.stored ≡ Blank

-- What a device finds on a flash that isn't seen: when its power comes, whatever stands there, as of which it answers; and
-- where another wrote the flash since, a device that isn't made says at `make` that the flash is damaged, or that a device was
-- made on it, and then it is off.
abbrev pub Finds : Event → Option Reply → State → State → Type 0
Finds Power reply old new = (reply ≡ Some (reply_to_power new.stored)) × Goes true no_keys old new
Finds (Make config) (Some (reply_is.Damaged word)) old new =
    IsOnUnmade old × (new.stored ≡ Broken word) × Goes true old.keys old new
Finds (Make config) (Some (reply_is.Made number)) old new = IsOnUnmade old × Goes false old.keys old new
Finds _ _ old new = ⊥

-- Where a device was made, this is a history that a device can have.
abbrev pub IsLawful : Stored → Type 0
IsLawful (Journal history) = Lawful (unit_for history) history.start history.entries
IsLawful stored = Unit {0}

-- It does what its machine does, or finds what it couldn't know. What it has in memory while it is on, and so what it
-- finds when its power comes, is a history that a device can have.
abbrev pub ActsUnseen : (List ℕ → ℕ → ℕ) → Event → Option Reply → State → State → Type 0
ActsUnseen next event reply old new =
    (Acts next event reply old new ⊎ Finds event reply old new) × (new.on ≡ true → IsLawful new.stored)

-- Whether this answer says that a token of this count is accepted.
abbrev pub is_accepted : ℕ → Option Answer → Bool
is_accepted count (Some (Told (reply_is.Set n value left))) = n == count
is_accepted count (Some (Told (reply_is.Added n value left free))) = n == count
is_accepted count (Some (Told (reply_is.Free n))) = n == count
is_accepted count (Some (Told (reply_is.Synced n))) = n == count
is_accepted count _ = false

-- How many of these answers say so.
abbrev pub acceptances : ℕ → List (Option Answer) → ℕ
acceptances count [] = 0
acceptances count (answer ∷ answers) = (if is_accepted count answer then 1 else 0) + acceptances count answers

-- In none of these steps the power comes.
abbrev pub HasNoPower : List Step → Type 0
HasNoPower [] = Unit {0}
HasNoPower (Act Power ∷ steps) = ⊥
HasNoPower (_ ∷ steps) = HasNoPower steps

-- Between two power-ups each count is accepted once at most: in any steps of a run, one behind the other, in none of
-- which the power comes.
abbrev pub CountsOnce : List Step → List (Option Answer) → Type 0
CountsOnce steps answers =
    (before between behind : List Step) (count : ℕ) → steps ≡ before ++ between ++ behind → HasNoPower between
    → acceptances count (take (length between) (drop (length before) answers)) ≤ 1
