-- The head of a bank that is written: what its numbers say is what was written, and each keeps the rule of its place.
use Rattle.std.proofs.Common.{◌≡◌, ℕ, Bool, true, false, ◌+◌, ◌-◌, ◌*◌, ◌/◌, ◌%◌, ◌^◌, ◌<◌, ◌≤◌, ◌==◌, ◌&&◌, nat_le, nat_lt, if◌then◌else◌, is_some, ◌++◌, List, length, take, drop, get_or, refl, arith, sym, ◌∙◌, ap, ⊎_elim, ◌⊎◌, ◌||◌, inl, inr}
use Rattle.std.specs.Int.{w32, to_be_bytes}
use Rattle.std.proofs.lemmas.Bool.{and_parts, and_from, cases_Bool, cases_lt}
use Rattle.std.proofs.lemmas.Bool.Decides.{nat_tests}
use Rattle.std.proofs.lemmas.List.{get_or_past, get_or-take, get_or-drop, length-take-le, length-drop, take-append-drop, take_all, drop-drop}
use Rattle.std.proofs.lemmas.Nat.{be_bytes_4}
use Rattle.std.proofs.Math.Pow.{pow_mono}
use Rattle.paygo_spec.specs.declared.Config.{Config}
use Rattle.paygo_spec.specs.declared.Form.{Form}
use Rattle.paygo_spec.specs.declared.Form.TheVariants.{Nine, Fifteen}
use Rattle.paygo_spec.specs.Digits.{digit_count, form_of}
use Rattle.paygo_spec.specs.History.{Summary, first_limit, raised_limit, IsLimit}
use Rattle.paygo_spec.specs.Clock.{clock_at_start, most_left, longest_block, is_clock}
use Rattle.paygo_spec.specs.Lawful.{IsSummary}
use Rattle.paygo_spec.specs.Layout.{key_number, format_of, head_number, last_bank}
use Rattle.paygo_spec.specs.Machine.{IsConfig}
use Rattle.paygo_spec.specs.Clock.{divides_day}
use Rattle.paygo_spec.specs.Recovery.{is_format, limit_in, is_state, keeps_rule, config_in_head, summary_in_head}
use Rattle.paygo_spec.proofs.Clocks.{clock_test}
use Rattle.paygo_spec.proofs.WindowTests.{window_test}
use Rattle.journal_laws.specs.Banks.{IsKeyBytes}
use Rattle.journal_laws.proofs.HeadPlaces.{at_each_place}

-- what is written in a head
pub record IsWrittenHead (number : ℕ) (config : Config) (start : Summary) : Type 0 where
  pub counted : number ≤ last_bank
  pub key : IsKeyBytes config.key
  pub made : IsConfig config
  pub begins : IsSummary start

-- four of the bytes
four_bytes : (key : List ℕ) (i : ℕ) → IsKeyBytes key → i < 4 → length (take 4 (drop (4 * i) key)) ≡ 4
four_bytes key i k h =
    let n : length key ≡ 16 = k.count in
    let l : length (drop (4 * i) key) ≡ length key - 4 * i = length-drop (4 * i) key in
    length-take-le 4 (drop (4 * i) key) (omega arith)

each_byte : (key : List ℕ) (i j : ℕ) → IsKeyBytes key → i < 4 → get_or (take 4 (drop (4 * i) key)) j 0 < 256
each_byte key i j k h =
    ⊎_elim
    (λ (l : j < 4). rw (get_or-take 4 (drop (4 * i) key) j 0 l, get_or-drop (4 * i) key j 0) (k.each (4 * i + j)))
    (λ (g : 4 ≤ j). let n : length (take 4 (drop (4 * i) key)) ≡ 4 = four_bytes key i k h in rw (get_or_past (take 4 (drop (4 * i) key)) j 0 (omega arith)) (omega arith))
    (cases_lt j 4)

four_back : (key : List ℕ) (i : ℕ) → IsKeyBytes key → i < 4 → to_be_bytes w32 (key_number key i) ≡ take 4 (drop (4 * i) key)
four_back key i k h = be_bytes_4 (take 4 (drop (4 * i) key)) (key_number key i) (four_bytes key i k h) (λ j. each_byte key i j k h) refl

four_fits : (key : List ℕ) (i : ℕ) → IsKeyBytes key → i < 4 → key_number key i < 2 ^ 32
four_fits key i k h =
    let a = each_byte key i 0 k h in
    let b = each_byte key i 1 k h in
    let c = each_byte key i 2 k h in
    let d = each_byte key i 3 k h in
    omega arith

-- sixteen bytes are four times four
parts_of : (key : List ℕ) → length key ≡ 16 → take 4 (drop 0 key) ++ (take 4 (drop 4 key) ++ (take 4 (drop 8 key) ++ take 4 (drop 12 key))) ≡ key
parts_of key n =
    let l : length (drop 12 key) ≡ length key - 12 = length-drop 12 key in
    let last : take 4 (drop 12 key) ≡ drop 12 key = take_all 4 (drop 12 key) (omega arith) in
    let third : take 4 (drop 8 key) ++ drop 12 key ≡ drop 8 key = ap (λ x. take 4 (drop 8 key) ++ x) (sym (drop-drop 4 8 key)) ∙ take-append-drop 4 (drop 8 key) in
    let second : take 4 (drop 4 key) ++ drop 8 key ≡ drop 4 key = ap (λ x. take 4 (drop 4 key) ++ x) (sym (drop-drop 4 4 key)) ∙ take-append-drop 4 (drop 4 key) in
    rw (last, third, second) (take-append-drop 4 key)

key_back : (key : List ℕ) → IsKeyBytes key → to_be_bytes w32 (key_number key 0) ++ (to_be_bytes w32 (key_number key 1) ++ (to_be_bytes w32 (key_number key 2) ++ to_be_bytes w32 (key_number key 3))) ≡ key
key_back key k =
    let a = four_back key 0 k (omega arith) in
    let b = four_back key 1 k (omega arith) in
    let c = four_back key 2 k (omega arith) in
    let d = four_back key 3 k (omega arith) in
    ap (λ x. x ++ (to_be_bytes w32 (key_number key 1) ++ (to_be_bytes w32 (key_number key 2) ++ to_be_bytes w32 (key_number key 3)))) a
    ∙ ap (λ x. take 4 (drop 0 key) ++ (x ++ (to_be_bytes w32 (key_number key 2) ++ to_be_bytes w32 (key_number key 3)))) b
    ∙ ap (λ x. take 4 (drop 0 key) ++ (take 4 (drop 4 key) ++ (x ++ to_be_bytes w32 (key_number key 3)))) c
    ∙ ap (λ x. take 4 (drop 0 key) ++ (take 4 (drop 4 key) ++ (take 4 (drop 8 key) ++ x))) d
    ∙ parts_of key k.count

-- the format
divider_fits : (divider : ℕ) → divides_day divider ≡ true → divider < 2 ^ 8
divider_fits divider h =
    let within : (nat_lt divider 256 && (86400 % divider == 0)) ≡ true = (and_parts (nat_lt 0 divider) (nat_lt divider 256 && (86400 % divider == 0)) h).1 in
    let below : nat_lt divider 256 ≡ true = (and_parts (nat_lt divider 256) (86400 % divider == 0) within).0 in
    grind (arith, nat_tests)

format_is : (limit : ℕ) → IsLimit limit → (format_of limit ≡ 1) ⊎ (format_of limit ≡ 2)
format_is limit (inl e) = rw e (inl refl)
format_is limit (inr e) = rw e (inr refl)

format_few : (limit : ℕ) → IsLimit limit → format_of limit < 2 ^ 2
format_few limit l = ⊎_elim (λ (e : format_of limit ≡ 1). omega arith) (λ (e : format_of limit ≡ 2). omega arith) (format_is limit l)

count_parts : (v n divider : ℕ) → n < 2 ^ 8 → divider < 2 ^ 8
    → ((v * 2 ^ 24 + n * 2 ^ 8 + divider) / 2 ^ 16 ≡ v * 2 ^ 8) × ((v * 2 ^ 24 + n * 2 ^ 8 + divider) / 2 ^ 8 % 2 ^ 8 ≡ n) × ((v * 2 ^ 24 + n * 2 ^ 8 + divider) % 2 ^ 8 ≡ divider) × ((v * 2 ^ 24 + n * 2 ^ 8 + divider) / 2 ^ 24 ≡ v)
count_parts v n divider a b = (omega arith, omega arith, omega arith, omega arith)

limit_of_format : (limit : ℕ) → IsLimit limit → (if format_of limit == 2 then raised_limit else first_limit) ≡ limit
limit_of_format limit (inl e) = rw e refl
limit_of_format limit (inr e) = rw e refl

limit_back : (limit n divider : ℕ) → IsLimit limit → n < 2 ^ 8 → divider < 2 ^ 8 → limit_in (format_of limit * 2 ^ 24 + n * 2 ^ 8 + divider) ≡ limit
limit_back limit n divider l a b = rw (count_parts (format_of limit) n divider a b).3 (limit_of_format limit l)

count_fits : (form : Form) → digit_count form < 2 ^ 8
count_fits Nine = omega arith
count_fits Fifteen = omega arith

form_found : (form : Form) → is_some (form_of (digit_count form)) ≡ true
form_found Nine = refl
form_found Fifteen = refl

form_back : (form : Form) → (if digit_count form == 15 then Fifteen else Nine) ≡ form
form_back Nine = refl
form_back Fifteen = refl

format_test : (v : ℕ) → (v ≡ 1) ⊎ (v ≡ 2) → (v * 2 ^ 8 == 2 ^ 8 || v * 2 ^ 8 == 2 * 2 ^ 8) ≡ true
format_test v (inl e) = rw e refl
format_test v (inr e) = rw e refl

format_back : (limit : ℕ) (form : Form) (divider : ℕ) → IsLimit limit → divides_day divider ≡ true → is_format (format_of limit * 2 ^ 24 + digit_count form * 2 ^ 8 + divider) ≡ true
format_back limit form divider l h =
    let p = count_parts (format_of limit) (digit_count form) divider (count_fits form) (divider_fits divider h) in
    rw (p.0, p.1, p.2) (and_from _ _ (and_from _ _ (format_test (format_of limit) (format_is limit l)) (form_found form)) h)

-- the state
pub free_back : (free : Bool) (fails : ℕ) → fails ≤ 10 → nat_le (2 ^ 8) ((if free then 2 ^ 8 else 0) + fails) ≡ free
free_back true fails h = grind (arith, nat_tests)
free_back false fails h = grind (arith, nat_tests)

pub fails_back : (free : Bool) (fails : ℕ) → fails ≤ 10 → ((if free then 2 ^ 8 else 0) + fails) % 2 ^ 8 ≡ fails
fails_back true fails h = omega arith
fails_back false fails h = omega arith

state_back : (left : ℕ) (free : Bool) (fails : ℕ) → fails ≤ 10 → (free ≡ true → left ≡ 0) → is_state left ((if free then 2 ^ 8 else 0) + fails) ≡ true
state_back left true fails h z =
    let n : left ≡ 0 = z refl in
    let m : (2 ^ 8 + fails) % 2 ^ 8 ≡ fails = omega arith in
    grind (arith, nat_tests)
state_back left false fails h z =
    let m : (0 + fails) % 2 ^ 8 ≡ fails = omega arith in
    grind (arith, nat_tests)

-- the clock
longest_fits : (fails block : ℕ) → fails ≤ 10 → block ≤ 60 * 2 ^ fails → block < 2 ^ 32
longest_fits fails block few bounded =
    let most : 2 ^ fails ≤ 2 ^ 10 = pow_mono few in
    omega arith

-- each number that is written has 32 bits
pub head_fits : (number : ℕ) (config : Config) (start : Summary) → IsWrittenHead number config start → (place : ℕ) → place < 12 → head_number number config start place < 2 ^ 32
head_fits number config start h =
    let most : number ≤ last_bank = h.counted in
    let code : config.start < 10 ^ 9 = h.made.start in
    let divider : config.divider < 2 ^ 8 = divider_fits config.divider h.made.divider in
    let count : digit_count config.form < 2 ^ 8 = count_fits config.form in
    let format : format_of start.limit < 2 ^ 2 = format_few start.limit h.begins.limited in
    let most_limit : start.limit ≤ raised_limit = ⊎_elim (λ (e : start.limit ≡ first_limit). omega arith) (λ (e : start.limit ≡ raised_limit). omega arith) h.begins.limited in
    let last : start.last ≤ start.limit = h.begins.window.in_range in
    let bits : start.bits < 2 ^ 16 = h.begins.window.fits in
    let left : start.left ≤ most_left = h.begins.clock.within in
    let fails : start.fails ≤ 10 = h.begins.clock.few in
    at_each_place (λ place. head_number number config start place < 2 ^ 32) (record {
      at_0 = omega arith;
      at_1 = four_fits config.key 0 h.key (omega arith);
      at_2 = four_fits config.key 1 h.key (omega arith);
      at_3 = four_fits config.key 2 h.key (omega arith);
      at_4 = four_fits config.key 3 h.key (omega arith);
      at_5 = omega arith;
      at_6 = omega arith;
      at_7 = omega arith;
      at_8 = omega arith;
      at_9 = omega arith;
      at_10 = ⊎_elim (λ (t : start.free ≡ true). rw t (omega arith)) (λ (t : start.free ≡ false). rw t (omega arith)) (cases_Bool start.free);
      at_11 = longest_fits start.fails start.block fails h.begins.clock.bounded;
    })

window_back : (last bits : ℕ) → bits < 2 ^ 16 → ((last * 2 ^ 16 + bits) / 2 ^ 16 ≡ last) × ((last * 2 ^ 16 + bits) % 2 ^ 16 ≡ bits)
window_back last bits h = (omega arith, omega arith)

left_back : (left : ℕ) → left / 2 ^ 32 * 2 ^ 32 + left % 2 ^ 32 ≡ left
left_back left = omega arith

-- each number that is written keeps the rule of its place
pub head_rules : (number : ℕ) (config : Config) (start : Summary) → IsWrittenHead number config start → (place : ℕ) → place < 12 → keeps_rule (head_number number config start) place ≡ true
head_rules number config start h =
    let code : config.start < 10 ^ 9 = h.made.start in
    let limit = limit_back start.limit (digit_count config.form) config.divider h.begins.limited (count_fits config.form) (divider_fits config.divider h.made.divider) in
    let window = window_back start.last start.bits h.begins.window.fits in
    let left : start.left / 2 ^ 32 * 2 ^ 32 + start.left % 2 ^ 32 ≡ start.left = left_back start.left in
    let most : start.left ≤ most_left = h.begins.clock.within in
    let test : is_clock (clock_at_start start) ≡ true = (clock_test (clock_at_start start)).1 h.begins.clock in
    let block : nat_le start.block (longest_block start.fails) ≡ true = (and_parts (nat_le start.left most_left && nat_le start.fails 10 && (if start.free then start.left == 0 else true)) (nat_le start.block (longest_block start.fails)) test).1 in
    let fails : ((if start.free then 2 ^ 8 else 0) + start.fails) % 2 ^ 8 ≡ start.fails = fails_back start.free start.fails h.begins.clock.few in
    at_each_place (λ place. keeps_rule (head_number number config start) place ≡ true) (record {
      at_0 = refl;
      at_1 = refl;
      at_2 = refl;
      at_3 = refl;
      at_4 = refl;
      at_5 = grind (arith, nat_tests);
      at_6 = format_back start.limit config.form config.divider h.begins.limited h.made.divider;
      at_7 = rw (limit, window.0, window.1) ((window_test start.limit start.last start.bits).1 h.begins.window);
      at_8 = refl;
      at_9 = rw left (grind (arith, nat_tests));
      at_10 = rw left (state_back start.left start.free start.fails h.begins.clock.few h.begins.clock.freed);
      at_11 = rw fails block;
    })

-- what the numbers say is what was written
abbrev config_with : List ℕ → ℕ → ℕ → Form → Config
config_with key start divider form = record { key = key; start = start; divider = divider; form = form }

pub config_back : (number : ℕ) (config : Config) (start : Summary) → IsWrittenHead number config start → config_in_head (head_number number config start) ≡ config
config_back number config start h =
    let p = count_parts (format_of start.limit) (digit_count config.form) config.divider (count_fits config.form) (divider_fits config.divider h.made.divider) in
    let form : (if (format_of start.limit * 2 ^ 24 + digit_count config.form * 2 ^ 8 + config.divider) / 2 ^ 8 % 2 ^ 8 == 15 then Fifteen else Nine) ≡ config.form = rw p.1 (form_back config.form) in
    ap (λ x. config_with x config.start ((format_of start.limit * 2 ^ 24 + digit_count config.form * 2 ^ 8 + config.divider) % 2 ^ 8) (if (format_of start.limit * 2 ^ 24 + digit_count config.form * 2 ^ 8 + config.divider) / 2 ^ 8 % 2 ^ 8 == 15 then Fifteen else Nine)) (key_back config.key h.key)
    ∙ ap (λ x. config_with config.key config.start x (if (format_of start.limit * 2 ^ 24 + digit_count config.form * 2 ^ 8 + config.divider) / 2 ^ 8 % 2 ^ 8 == 15 then Fifteen else Nine)) p.2
    ∙ ap (config_with config.key config.start config.divider) form

abbrev summary_with_parts : ℕ → ℕ → ℕ → ℕ → Bool → ℕ → ℕ → Summary
summary_with_parts limit last bits left free fails block = record { limit = limit; last = last; bits = bits; left = left; free = free; fails = fails; block = block }

same_parts : (limit limit' last last' bits bits' left left' : ℕ) (free free' : Bool) (fails fails' block : ℕ) → limit ≡ limit' → last ≡ last' → bits ≡ bits' → left ≡ left' → free ≡ free' → fails ≡ fails' → summary_with_parts limit last bits left free fails block ≡ summary_with_parts limit' last' bits' left' free' fails' block
same_parts limit limit' last last' bits bits' left left' free free' fails fails' block l a b c d e = rw (l, a, b, c, d, e) refl

pub summary_back : (number : ℕ) (config : Config) (start : Summary) → IsWrittenHead number config start → summary_in_head (head_number number config start) ≡ start
summary_back number config start h =
    let limit = limit_back start.limit (digit_count config.form) config.divider h.begins.limited (count_fits config.form) (divider_fits config.divider h.made.divider) in
    let window = window_back start.last start.bits h.begins.window.fits in
    same_parts _ start.limit _ start.last _ start.bits _ start.left _ start.free _ start.fails start.block limit window.0 window.1 (left_back start.left)
    (free_back start.free start.fails h.begins.clock.few) (fails_back start.free start.fails h.begins.clock.few)

-- numbers that are the same at the places of a head say the same
pub config_same : (f g : ℕ → ℕ) → ((place : ℕ) → 1 ≤ place → place < 12 → f place ≡ g place) → config_in_head f ≡ config_in_head g
config_same f g e = rw (e 1 (omega arith) (omega arith), e 2 (omega arith) (omega arith), e 3 (omega arith) (omega arith), e 4 (omega arith) (omega arith), e 5 (omega arith) (omega arith), e 6 (omega arith) (omega arith)) refl

pub summary_same : (f g : ℕ → ℕ) → ((place : ℕ) → 1 ≤ place → place < 12 → f place ≡ g place) → summary_in_head f ≡ summary_in_head g
summary_same f g e = rw (e 6 (omega arith) (omega arith), e 7 (omega arith) (omega arith), e 8 (omega arith) (omega arith), e 9 (omega arith) (omega arith), e 10 (omega arith) (omega arith), e 11 (omega arith) (omega arith)) refl

pub rules_same : (f g : ℕ → ℕ) → ((place : ℕ) → 1 ≤ place → place < 12 → f place ≡ g place) → (place : ℕ) → keeps_rule f place ≡ keeps_rule g place
rules_same f g e place = rw (e 5 (omega arith) (omega arith), e 6 (omega arith) (omega arith), e 7 (omega arith) (omega arith), e 8 (omega arith) (omega arith), e 9 (omega arith) (omega arith), e 10 (omega arith) (omega arith), e 11 (omega arith) (omega arith)) refl
