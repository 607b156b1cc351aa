-- What the lines of a device ask for.
use Rattle.std.specs.Prelude.{ℕ, Bool, true, ◌==◌, ◌&&◌, ◌||◌, nat_lt, List, [], ◌∷◌, length, codes, Option, Some, None, option_and_then, if◌then◌else◌}
use Rattle.std.specs.Option.{option_map, option_or}
use Rattle.std.specs.Str.{bytes_eq}
use Rattle.paygo_spec.specs.declared.Config.{Config}
use Rattle.paygo_spec.specs.declared.Event.{Event}
use Rattle.paygo_spec.specs.declared.Event.TheVariants.{Power, Make, Key, Tick, Show, Raise}
use Rattle.paygo_spec.specs.declared.Form.{Form}
use Rattle.paygo_spec.specs.declared.Form.TheVariants.{Nine, Fifteen}
use Rattle.paygo_spec.specs.Clock.{divides_day}
use Rattle.paygo_spec.specs.Words.{is_decimal, is_space, decimal_in, after_prefix, first_word, key_in}

-- The number of units in a day that a word of one to three digits says.
abbrev pub divider_in : List ℕ → Option ℕ
divider_in word = option_and_then (λ n. if divides_day n then Some n else None) (decimal_in 3 word)

-- The value that a first word says, and then what is made of it and of what stands behind that word.
abbrev pub field : {A B : Type 0} → (List ℕ → Option A) → List ℕ → (A → List ℕ → Option B) → Option B
field read text next =
    option_and_then (λ parts. option_and_then (λ value. next value parts.1) (read parts.0)) (first_word text)

-- The form that the last word of a configuration says: 9 or 15 digits.
abbrev pub form_in : List ℕ → Option Form
form_in word =
    if bytes_eq word (codes "9") then Some Nine else if bytes_eq word (codes "15") then Some Fifteen else None

-- `KEY START DIVIDER FORM`
abbrev pub config_in : List ℕ → Option Config
config_in text =
    field key_in text (λ key after_key.
    field (decimal_in 9) after_key (λ start after_start.
    field divider_in after_start (λ divider last.
    option_map (λ form. record { key = key; start = start; divider = divider; form = form }) (form_in last))))

-- A byte that the text behind `keys ` may have: a key of the pad, or a space, which is passed over.
abbrev pub is_key_text : ℕ → Bool
is_key_text c = is_space c || (is_decimal c || (c == 42 || c == 35))

-- Whether each of these bytes may stand there.
abbrev pub are_key_text : List ℕ → Bool
are_key_text [] = true
are_key_text (c ∷ cs) = is_key_text c && are_key_text cs

-- The keys that are pressed, one by one.
abbrev pub presses : List ℕ → List Event
presses [] = []
presses (c ∷ cs) = if is_space c then presses cs else Key c ∷ presses cs

-- The event of a line that asks for one.
abbrev pub one : Option Event → Option (List Event)
one event = option_map (λ e. e ∷ []) event

-- `power`, `show` and `raise`
abbrev pub word_in : List ℕ → Event → List ℕ → Option Event
word_in word event line = if bytes_eq line word then Some event else None

-- `make KEY START DIVIDER FORM`
abbrev pub make_in : List ℕ → Option Event
make_in line = option_map Make (option_and_then config_in (after_prefix (codes "make ") line))

-- `tick S`
abbrev pub tick_in : List ℕ → Option Event
tick_in line = option_map Tick (option_and_then (decimal_in 9) (after_prefix (codes "tick ") line))

-- The text of keys, which isn't empty.
abbrev pub pressed_in : List ℕ → Option (List Event)
pressed_in text = if nat_lt 0 (length text) && are_key_text text then Some (presses text) else None

-- `keys TEXT`
abbrev pub keys_in : List ℕ → Option (List Event)
keys_in line = option_and_then pressed_in (after_prefix (codes "keys ") line)

-- The events that a line asks for, where it has one of the six forms.
abbrev pub events_in : List ℕ → Option (List Event)
events_in line =
    option_or (one (word_in (codes "power") Power line))
    (option_or (one (make_in line))
    (option_or (keys_in line)
    (option_or (one (tick_in line))
    (option_or (one (word_in (codes "show") Show line))
    (one (word_in (codes "raise") Raise line))))))
