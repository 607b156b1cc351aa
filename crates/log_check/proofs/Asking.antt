-- Each step of a line may be asked for: its event, or its command, is in range.
use Rattle.std.proofs.Common.{◌≡◌, ℕ, suc, ◌+◌, ◌-◌, ◌*◌, ◌^◌, ◌<◌, ◌≤◌, Bool, true, false, ◌==◌, ◌&&◌, ◌||◌, List, [], ◌∷◌, length, map, Option, Some, None, Result, Ok, Err, refl, sym, ap, subst, ◌∙◌, inl, inr, ⊎_elim, arith}
use Rattle.std.specs.Prelude.{nat_le, nat_lt, IfSome, IfOk, option_and_then, codes, if◌then◌else◌, unwrap_or}
use Rattle.std.specs.Option.{option_map, option_or}
use Rattle.std.specs.List.{list_all}
use Rattle.std.specs.Str.{bytes_eq}
use Rattle.std.proofs.lemmas.Bool.{cases_Bool, and_parts}
use Rattle.std.proofs.lemmas.Bool.Decides.{nat_tests}
use Rattle.std.proofs.Math.Nat.{mul_assoc, pow-succ', pow-le-pow_right}
use Rattle.serde_json.specs.Data.{Data}
use Rattle.paygo_spec.specs.declared.Event.{Event}
use Rattle.paygo_spec.specs.declared.Event.TheVariants.{Power, Make, Tick, Show, Raise}
use Rattle.paygo_spec.specs.declared.TheConstants.{GREAT}
use Rattle.paygo_spec.specs.Clock.{divides_day}
use Rattle.paygo_spec.specs.Machine.{IsConfig, IsEvent}
use Rattle.paygo_spec.specs.Pad.{IsKey}
use Rattle.paygo_spec.specs.Words.{is_decimal, is_space, digits_from, decimal_in, after_prefix, first_word, key_in}
use Rattle.ledger_spec.specs.declared.Command.{Command}
use Rattle.ledger_spec.specs.declared.TextFault.{TextFault}
use Rattle.ledger_spec.specs.declared.Verb.{Verb}
use Rattle.ledger_spec.specs.declared.Verb.TheVariants as verb_is
use Rattle.ledger_spec.specs.Ledger.{IsCommand}
use Rattle.ledger_spec.specs.Names.{name_in, is_name_byte, may_be_name}
use Rattle.ledger_spec.specs.Reading.{text_at, whole_at, passed, number_at, is_within, serial_in, id_in, secret_in, start_in, divider_in as unit_in, form_in as entry_form_in, price_in, total_in, amount_in, units_in, from_in, to_in, verb_in, need, command_of, command_at, command_in, reading}
use Rattle.run_spec.specs.declared.Mode.TheVariants as mode
use Rattle.run_spec.specs.DeviceLines.{divider_in, field, form_in, config_in, is_key_text, are_key_text, presses, one, word_in, make_in, tick_in, pressed_in, keys_in, events_in}
use Rattle.run_spec.specs.Meaning.{trimmed, step_of_reading, steps_of_device, steps_of_ledger, steps_of_text, steps_of_line}
use Rattle.run_spec.specs.Run.{Say, Act}
use Rattle.log_check.proofs.Steps.{AreSteps}

some_if : {A B : Type 0} (P : A → Type 0) (Q : B → Type 0) (f : A → Option B) (o : Option A) → IfSome o P
    → ((a : A) → P a → IfSome (f a) Q) → IfSome (option_and_then f o) Q
some_if P Q f None h k = tt
some_if P Q f (Some a) h k = k a h

map_if : {A B : Type 0} (Q : B → Type 0) (f : A → B) (o : Option A) → IfSome o (λ a. Q (f a))
    → IfSome (option_map f o) Q
map_if Q f None h = tt
map_if Q f (Some a) h = h

test_if : {A : Type 0} (P : A → Type 0) (b : Bool) (x : A) → (b ≡ true → P x) → IfSome (if b then Some x else None) P
test_if P true x h = h refl
test_if P false x h = tt

or_if : {A : Type 0} (P : A → Type 0) (a b : Option A) → IfSome a P → IfSome b P → IfSome (option_or a b) P
or_if P None b h k = k
or_if P (Some a) b h k = h

any : {A : Type 0} (o : Option A) → IfSome o (λ a. Unit {0})
any None = tt
any (Some a) = tt

le_is : (a b : ℕ) → nat_le a b ≡ true → a ≤ b
le_is a b h = grind (arith, nat_tests)

-- a number of so many digits
module _ where
  digit_below : (n c b : ℕ) → n < b → is_decimal c ≡ true → n * 10 + (c - 48) < b * 10
  digit_below n c b l h =
      let d = and_parts (nat_le 48 c) (nat_le c 57) h in
      let low : 48 ≤ c = le_is 48 c d.0 in
      let high : c ≤ 57 = le_is c 57 d.1 in
      omega arith

  digits_below : (cs : List ℕ) (n b : ℕ) → n < b → IfSome (digits_from n cs) (λ x. x < b * 10 ^ length cs)
  digits_below [] n b l = omega arith
  digits_below (c ∷ cs) n b l =
      ⊎_elim
      (λ (t : is_decimal c ≡ true).
      let same : b * 10 * 10 ^ length cs ≡ b * 10 ^ suc (length cs) = mul_assoc b 10 (10 ^ length cs)
      ∙ ap (λ (k : ℕ). b * k) (sym (pow-succ' 10 (length cs))) in
      rw t (subst (λ (k : ℕ). IfSome (digits_from (n * 10 + (c - 48)) cs) (λ x. x < k)) same
      (digits_below cs (n * 10 + (c - 48)) (b * 10) (digit_below n c b l t))))
      (λ (t : is_decimal c ≡ false). rw t tt)
      (cases_Bool (is_decimal c))

weaker : {A : Type 0} (P Q : A → Type 0) (o : Option A) → ((a : A) → P a → Q a) → IfSome o P → IfSome o Q
weaker P Q None k h = tt
weaker P Q (Some a) k h = k a h

power_up : (n : ℕ) → n ≤ 9 → 10 ^ n ≤ 10 ^ 9
power_up n l = pow-le-pow_right (omega arith) l

nine_below : (word : List ℕ) → IfSome (decimal_in 9 word) (λ n. n < 10 ^ 9)
nine_below word =
    ⊎_elim
    (λ (t : (nat_le 1 (length word) && nat_le (length word) 9) ≡ true).
    let most : length word ≤ 9 = le_is (length word) 9
    (and_parts (nat_le 1 (length word)) (nat_le (length word) 9) t).1 in
    let up : 10 ^ length word ≤ 10 ^ 9 = power_up (length word) most in
    rw t (weaker (λ x. x < 1 * 10 ^ length word) (λ x. x < 10 ^ 9) (digits_from 0 word) (λ x l. omega (arith, up))
    (digits_below word 0 1 (omega arith))))
    (λ (t : (nat_le 1 (length word) && nat_le (length word) 9) ≡ false). rw t tt)
    (cases_Bool (nat_le 1 (length word) && nat_le (length word) 9))

divider_good : (word : List ℕ) → IfSome (divider_in word) (λ n. divides_day n ≡ true)
divider_good word = some_if (λ n. Unit {0}) (λ n. divides_day n ≡ true) (λ n. if divides_day n then Some n else None)
    (decimal_in 3 word) (any (decimal_in 3 word))
    (λ n u. test_if (λ n. divides_day n ≡ true) (divides_day n) n (λ e. e))

field_if : {A B : Type 0} (P : A → Type 0) (Q : B → Type 0) (read : List ℕ → Option A) (text : List ℕ) (next : A
    → List ℕ → Option B) → ((word : List ℕ) → IfSome (read word) P)
    → ((a : A) (rest : List ℕ) → P a → IfSome (next a rest) Q)
    → IfSome (field read text next) Q
field_if P Q read text next reads goes =
    some_if (λ p. Unit {0}) Q (λ parts. option_and_then (λ value. next value parts.1) (read parts.0)) (first_word text)
    (any (first_word text))
    (λ parts u. some_if P Q (λ value. next value parts.1) (read parts.0) (reads parts.0) (λ a p. goes a parts.1 p))

config_good : (text : List ℕ) → IfSome (config_in text) IsConfig
config_good text =
    field_if (λ key. Unit {0}) IsConfig key_in text _ (λ word. any (key_in word)) (λ key after_key u.
    field_if (λ n. n < 10 ^ 9) IsConfig (decimal_in 9) after_key _ nine_below (λ start after_start s.
    field_if (λ n. divides_day n ≡ true) IsConfig divider_in after_start _ divider_good (λ divider last d.
    map_if IsConfig (λ form. record { key = key; start = start; divider = divider; form = form }) (form_in last)
    (weaker (λ f. Unit {0}) _ (form_in last) (λ f u. record { start = s; divider = d }) (any (form_in last))))))

-- Each of these events may be asked for.
abbrev AreEvents : List Event → Type 0
AreEvents [] = Unit {0}
AreEvents (event ∷ events) = IsEvent event × AreEvents events

key_is : (c : ℕ) → is_space c ≡ false → is_key_text c ≡ true → IsKey c
key_is c spaced text =
    let q : (is_decimal c || (c == 42 || c == 35)) ≡ true = rw spaced at text in
    ⊎_elim (λ (t : is_decimal c ≡ true). let d = and_parts (nat_le 48 c) (nat_le c 57) t in inl
    (le_is 48 c d.0, le_is c 57 d.1))
    (λ (t : is_decimal c ≡ false). let r : (c == 42 || c == 35) ≡ true = rw t at q in
    ⊎_elim (λ (u : (c == 42) ≡ true). let e : c ≡ 42 = grind (arith, nat_tests) in inr (inl e))
    (λ (u : (c == 42) ≡ false). let v : (c == 35) ≡ true = rw u at r in let e : c ≡ 35 = grind (arith, nat_tests) in inr
    (inr e))
    (cases_Bool (c == 42)))
    (cases_Bool (is_decimal c))

presses_good : (text : List ℕ) → are_key_text text ≡ true → AreEvents (presses text)
presses_good [] h = tt
presses_good (c ∷ cs) h =
    let p = and_parts (is_key_text c) (are_key_text cs) h in
    ⊎_elim (λ (t : is_space c ≡ true). rw t (presses_good cs p.1))
    (λ (t : is_space c ≡ false). rw t (key_is c t p.0, presses_good cs p.1)) (cases_Bool (is_space c))

one_good : (o : Option Event) → IfSome o IsEvent → IfSome (one o) AreEvents
one_good o h = map_if AreEvents (λ e. e ∷ []) o (weaker IsEvent (λ e. AreEvents (e ∷ [])) o (λ e p. (p, tt)) h)

word_good : (word line : List ℕ) (event : Event) → IsEvent event → IfSome (word_in word event line) IsEvent
word_good word line event p = test_if IsEvent (bytes_eq line word) event (λ e. p)

make_good : (line : List ℕ) → IfSome (make_in line) IsEvent
make_good line = map_if IsEvent Make (option_and_then config_in (after_prefix (codes "make ") line))
    (some_if (λ t. Unit {0}) IsConfig config_in (after_prefix (codes "make ") line)
    (any (after_prefix (codes "make ") line)) (λ t u. config_good t))

tick_good : (line : List ℕ) → IfSome (tick_in line) IsEvent
tick_good line =
    map_if IsEvent Tick (option_and_then (decimal_in 9) (after_prefix (codes "tick ") line))
    (weaker (λ n. n < 10 ^ 9) (λ n. n ≤ 999999999) (option_and_then (decimal_in 9) (after_prefix (codes "tick ") line))
    (λ n l. omega arith)
    (some_if (λ t. Unit {0}) (λ n. n < 10 ^ 9) (decimal_in 9) (after_prefix (codes "tick ") line)
    (any (after_prefix (codes "tick ") line)) (λ t u. nine_below t)))

keys_good : (line : List ℕ) → IfSome (keys_in line) AreEvents
keys_good line =
    some_if (λ t. Unit {0}) AreEvents pressed_in (after_prefix (codes "keys ") line)
    (any (after_prefix (codes "keys ") line))
    (λ t u. test_if AreEvents (nat_lt 0 (length t) && are_key_text t) (presses t)
    (λ e. presses_good t (and_parts (nat_lt 0 (length t)) (are_key_text t) e).1))

events_good : (line : List ℕ) → IfSome (events_in line) AreEvents
events_good line =
    or_if AreEvents (one (word_in (codes "power") Power line)) _ (one_good _ (word_good (codes "power") line Power tt))
    (or_if AreEvents (one (make_in line)) _ (one_good _ (make_good line))
    (or_if AreEvents (keys_in line) _ (keys_good line)
    (or_if AreEvents (one (tick_in line)) _ (one_good _ (tick_good line))
    (or_if AreEvents (one (word_in (codes "show") Show line)) _ (one_good _ (word_good (codes "show") line Show tt))
    (one_good _ (word_good (codes "raise") line Raise tt))))))

steps_of_events : (events : List Event) → AreEvents events → AreSteps (map Act events)
steps_of_events [] h = tt
steps_of_events (event ∷ events) h = (h.0, steps_of_events events h.1)

device_good : (o : Option (List Event)) → IfSome o AreEvents
    → AreSteps (unwrap_or (option_map (λ events. map Act events) o) (Say (codes "unread") ∷ []))
device_good None h = (tt, tt)
device_good (Some events) h = steps_of_events events h

-- a command
number_good : (test : ℕ → Bool) (member : List ℕ) (value : Data)
    → IfSome (number_at test member value) (λ n. test n ≡ true)
number_good test member value =
    some_if (λ n. Unit {0}) (λ n. test n ≡ true) (passed test) (whole_at member value) (any (whole_at member value))
    (λ n u. test_if (λ n. test n ≡ true) (test n) n (λ e. e))

within_is : (least most n : ℕ) → is_within least most n ≡ true → (least ≤ n) × (n ≤ most)
within_is least most n h = let p = and_parts (nat_le least n) (nat_le n most) h in (le_is least n p.0, le_is n most p.1)

within_good : (least most : ℕ) (member : List ℕ) (value : Data)
    → IfSome (number_at (is_within least most) member value) (λ n. (least ≤ n) × (n ≤ most))
within_good least most member value =
    weaker (λ n. is_within least most n ≡ true) (λ n. (least ≤ n) × (n ≤ most))
    (number_at (is_within least most) member value) (λ n h. within_is least most n h)
    (number_good (is_within least most) member value)

name_good : (most : ℕ) (bytes : List ℕ) → IfSome (name_in most bytes) (λ name. length name ≤ most)
name_good most bytes =
    test_if (λ name. length name ≤ most) (may_be_name most bytes) bytes
    (λ e. le_is (length bytes) most (and_parts (nat_le (length bytes) most) (list_all is_name_byte bytes)
    (and_parts (nat_le 1 (length bytes)) _ e).1).0)

serial_good : (value : Data) → IfSome (serial_in value) (λ serial. length serial ≤ 16)
serial_good value = some_if (λ t. Unit {0}) (λ serial. length serial ≤ 16) (name_in 16) (text_at (codes "serial") value)
    (any (text_at (codes "serial") value)) (λ t u. name_good 16 t)

abbrev Good : Result Command TextFault → Type 0
Good result = IfOk result IsCommand

need_good : {A : Type 0} (P : A → Type 0) (rule : ℕ) (member : Option A) (next : A → Result Command TextFault)
    → IfSome member P → ((a : A) → P a → Good (next a)) → Good (need rule member next)
need_good P rule None next h k = tt
need_good P rule (Some a) next h k = k a h

-- a member of which nothing is asked
free : {A : Type 0} (rule : ℕ) (member : Option A) (next : A → Result Command TextFault) → ((a : A) → Good (next a))
    → Good (need rule member next)
free rule None next k = tt
free rule (Some a) next k = k a

command_good : (value : Data) (verb : Verb) → Good (command_of value verb)
command_good value verb_is.Enroll =
    need_good (λ serial. length serial ≤ 16) 2 (serial_in value) _ (serial_good value)
    (λ serial a. free 4 (secret_in value) _ (λ key.
    need_good (λ n. (0 ≤ n) × (n ≤ 999999999)) 5 (start_in value) _ (within_good 0 999999999 (codes "start") value)
    (λ start b.
    need_good (λ n. divides_day n ≡ true) 6 (unit_in value) _ (number_good divides_day (codes "divider") value)
    (λ divider c. free 7 (entry_form_in value) _ (λ form.
    need_good (λ n. (1 ≤ n) × (n ≤ 10 ^ 9)) 8 (price_in value) _ (within_good 1 (10 ^ 9) (codes "price") value)
    (λ price d.
    need_good (λ n. (1 ≤ n) × (n ≤ 10 ^ 12)) 9 (total_in value) _ (within_good 1 (10 ^ 12) (codes "total") value)
    (λ total e.
    record { serial = a; start = omega (arith, b.1); divider = c; price = d; total = e })))))))
command_good value verb_is.Pay = free 2 (serial_in value) _
    (λ serial. free 3 (id_in value) _ (λ id. need_good (λ n. (1 ≤ n) × (n ≤ 10 ^ 12)) 10 (amount_in value) _
    (within_good 1 (10 ^ 12) (codes "amount") value) (λ amount a. a)))
command_good value verb_is.Set = free 2 (serial_in value) _
    (λ serial. free 3 (id_in value) _ (λ id. need_good (λ n. (0 ≤ n) × (n ≤ 995)) 11 (units_in value) _
    (within_good 0 995 (codes "units") value) (λ units a. a.1)))
command_good value verb_is.Disable = free 2 (serial_in value) _ (λ serial. free 3 (id_in value) _ (λ id. tt))
command_good value verb_is.Sync = free 2 (serial_in value) _ (λ serial. free 3 (id_in value) _ (λ id. tt))
command_good value verb_is.Order = free 3 (id_in value) _ (λ id. tt)
command_good value verb_is.Show = free 2 (serial_in value) _ (λ serial. tt)
command_good value verb_is.Raise = free 2 (serial_in value) _ (λ serial. tt)
command_good value verb_is.Price =
    free 2 (serial_in value) _ (λ serial. need_good (λ n. (1 ≤ n) × (n ≤ 10 ^ 9)) 8 (price_in value) _
    (within_good 1 (10 ^ 9) (codes "price") value) (λ price a.
    need_good (λ n. (0 ≤ n) × (n ≤ GREAT)) 12 (from_in value) _ (within_good 0 GREAT (codes "from") value)
    (λ from b. record { from = b.1; price = a })))
command_good value verb_is.Quote =
    free 2 (serial_in value) _ (λ serial. need_good (λ n. (1 ≤ n) × (n ≤ 10 ^ 12)) 10 (amount_in value) _
    (within_good 1 (10 ^ 12) (codes "amount") value) (λ amount a. a))
command_good value verb_is.Skip =
    free 2 (serial_in value) _ (λ serial. need_good (λ n. (0 ≤ n) × (n ≤ GREAT)) 13 (to_in value) _
    (within_good 0 GREAT (codes "to") value) (λ to a. a.1))

command_at_good : (value : Option Data) → Good (command_at value)
command_at_good None = tt
command_at_good (Some value) = free 1 (verb_in value) (command_of value) (command_good value)

ledger_good : (result : Result Command TextFault) → Good result → AreSteps (step_of_reading result ∷ [])
ledger_good (Ok command) h = (h, tt)
ledger_good (Err fault) h = (tt, tt)

both_good : (ledger : Bool) (line : List ℕ) → AreSteps (if ledger then steps_of_ledger mode.Both line else
    steps_of_device mode.Both line)
unfolding command_in
both_good true line = ledger_good (command_in line) (command_at_good (reading line))
both_good false line = device_good (events_in line) (events_good line)

text_good : (line : List ℕ) → AreSteps (steps_of_text mode.Both line)
text_good [] = tt
text_good (c ∷ cs) = both_good (c == 123) (c ∷ cs)

line_good : (long : Bool) (line said : List ℕ)
    → AreSteps (if long then Say said ∷ [] else steps_of_text mode.Both (trimmed line))
line_good true line said = (tt, tt)
line_good false line said = text_good (trimmed line)

pub lines_good : (line : List ℕ) → AreSteps (steps_of_line mode.Both line)
lines_good line = line_good (nat_lt 4096 (length line)) line _
