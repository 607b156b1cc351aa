-- What becomes of an entry at the keypad: the order in which it is judged, and what it makes of the history.
use Rattle.std.specs.Prelude.{ℕ, ◌==◌, nat_lt, List, length, Option, Some, None, unwrap_or, if◌then◌else◌}
use Rattle.paygo_spec.specs.declared.Entry.{Entry}
use Rattle.paygo_spec.specs.declared.Entry.TheVariants.{Accept, Bad}
use Rattle.paygo_spec.specs.declared.Form.{Form}
use Rattle.paygo_spec.specs.declared.Found.{Found}
use Rattle.paygo_spec.specs.declared.Found.TheVariants.{Valid, Old, Invalid}
use Rattle.paygo_spec.specs.Clock.{ClockView, clock_of}
use Rattle.paygo_spec.specs.Digits.{digit_count, first_fault, value_of}
use Rattle.paygo_spec.specs.Found.{found}
use Rattle.paygo_spec.specs.History.{Summary}

-- An answer alone, which changes nothing; or an entry of the history.
pub data Typed : Type 0 where
  -- it has another length than the form
  WrongLength : (length : ℕ) → Typed
  -- this place, counted from 1, is the first with no digit of the form
  WrongDigit : (place : ℕ) → Typed
  -- entries are blocked for so many seconds
  Blocked : (block : ℕ) → Typed
  -- it is a token of the device's chain that gives nothing any more, or never did
  OldToken : Typed
  -- it is accepted, or is a bad entry
  Makes : (entry : Entry) → Typed

-- By what the search finds: a valid token is accepted, an old one costs nothing, and any other is a bad entry.
abbrev pub by_found : Found → Typed
by_found (Valid count value) = Makes (Accept count value)
by_found (Old count) = OldToken
by_found Invalid = Makes Bad

-- Before that, a block is told, whatever was typed.
abbrev pub by_clock : ClockView → Found → Typed
by_clock clock answer = if nat_lt 0 clock.block then Blocked clock.block else by_found answer

-- Before that, the first wrong digit is told.
abbrev pub by_digits : ClockView → Found → Option ℕ → Typed
by_digits clock answer (Some place) = WrongDigit place
by_digits clock answer None = by_clock clock answer

-- Before that, a wrong length is told.
abbrev pub by_length : Form → List ℕ → ClockView → Found → Typed
by_length form digits clock answer =
    if length digits == digit_count form then by_digits clock answer (first_fault form digits)
    else WrongLength (length digits)

-- The token that digits say, where they are digits of the form.
abbrev pub token_in : Form → List ℕ → ℕ
token_in form digits = unwrap_or (value_of form digits) 0

-- What becomes of these digits on a device with this history.
abbrev pub typed : (ℕ → ℕ) → ℕ → ℕ → Form → Summary → List Entry → List ℕ → Typed
typed next start unit form origin entries digits =
    by_length form digits (clock_of unit origin entries) (found next start origin entries (token_in form digits))
