-- The pad: what a customer has typed on a device since the pad was last cleared, and what is handed over at `#`.
use Rattle.std.specs.Prelude.{◌≡◌, ℕ, ◌+◌, ◌≤◌, ◌⊎◌, min, ◌==◌, ◌||◌, nat_le, List, [], ◌∷◌, ◌++◌, length, take, replicate, if◌then◌else◌}

-- The digits pressed since the pad was last cleared, the first of them first, and the seconds of ticks since the last
-- key, or since the pad was last cleared.
pub record Keys : Type 0 where
  pub pressed : List ℕ
  pub seconds : ℕ

-- A pad that was just cleared.
abbrev pub no_keys : Keys
no_keys = record { pressed = []; seconds = 0 }

-- The keys of a pad: `0` to `9`, `*` and `#`.
abbrev pub IsKey : ℕ → Type 0
IsKey key = ((48 ≤ key) × (key ≤ 57)) ⊎ ((key ≡ 42) ⊎ (key ≡ 35))

-- One digit more, from which the seconds count anew.
abbrev pub with_digit : ℕ → Keys → Keys
with_digit key keys = record { pressed = keys.pressed ++ key ∷ []; seconds = 0 }

-- The pad after a key: `*` clears it, `#` hands it over and clears it, and a digit is one more.
abbrev pub after_key : ℕ → Keys → Keys
after_key key keys = if key == 42 || key == 35 then no_keys else with_digit key keys

-- The pad after so many seconds more: it clears itself when the seconds since the last key reach 30.
abbrev pub after_seconds : ℕ → Keys → Keys
after_seconds seconds keys =
    if nat_le 30 (keys.seconds + seconds) then no_keys else record keys { seconds = keys.seconds + seconds }

-- How many digits an entry has, which is what its length is tested by: the number stops at 99.
abbrev pub held_of : Keys → ℕ
held_of keys = min (length keys.pressed) 99

-- The digits that an entry hands over: the first fifteen, and bytes 0 behind them where there are fewer.
unfoldable pub handed_over : List ℕ → List ℕ
handed_over pressed = take 15 (pressed ++ replicate 15 0)

-- What a pad keeps: the digits and the length that it would hand over, and the seconds since the last key.
pub record PadView : Type 0 where
  pub digits : List ℕ
  pub held : ℕ
  pub seconds : ℕ

-- What a pad keeps of the keys that were pressed.
abbrev pub kept_of : Keys → PadView
kept_of keys = record { digits = handed_over keys.pressed; held = held_of keys; seconds = keys.seconds }
