-- What a device that was made decides: what the code looks at is what the specification decides by.
use Rattle.std.proofs.Common.{◌≡◌, ◌≢◌, ℕ, ◌+◌, ◌-◌, ◌<◌, ◌≤◌, true, false, ◌==◌, nat_lt, List, [], ◌∷◌, ◌++◌, length, take, replicate, if◌then◌else◌, Option, Some, refl, sym, ap, ◌∙◌, arith, subst, lit≤}
use Rattle.std.proofs.lemmas.Bool.Decides.{nat_tests}
use Rattle.std.proofs.Math.Seq.{take-append_seam, take-append-add}
use Rattle.paygo_spec.specs.declared.Config.{Config}
use Rattle.paygo_spec.specs.declared.Form.{Form}
use Rattle.paygo_spec.specs.declared.Form.TheVariants.{Nine, Fifteen}
use Rattle.paygo_spec.specs.declared.Entry.TheVariants.{Accept, Elapsed}
use Rattle.paygo_spec.specs.declared.Event.TheVariants.{Key}
use Rattle.paygo_spec.specs.declared.Found.{Found}
use Rattle.paygo_spec.specs.declared.Reply.TheVariants as reply_is
use Rattle.paygo_spec.specs.Clock.{ClockView, clock_at_start, clock_after, unit_of}
use Rattle.paygo_spec.specs.Digits.{digit_count, first_fault, value_of}
use Rattle.paygo_spec.specs.Found.{found}
use Rattle.paygo_spec.specs.History.{Summary, is_valid}
use Rattle.paygo_spec.specs.Lawful.{follows}
use Rattle.paygo_spec.specs.Machine as machine
use Rattle.paygo_spec.specs.Machine.{Effect, shows_same, reply_to_entry, effect_of_typed, effect_of_seconds, typed_on}
use Rattle.paygo_spec.specs.Pad.{Keys, handed_over, held_of}
use Rattle.paygo_spec.specs.Recovery.{JournalView}
use Rattle.paygo_spec.specs.Typed.{Typed, by_found, by_clock}
use Rattle.paygo_spec.specs.Window.{alone}
use Rattle.digit_set.proofs.Tokens.{value_tells, is_first_fault}
use Rattle.bank_journal.specs.Summary.{summary_of}
use Rattle.bank_journal.specs.declared.summary.Summary.{Summary as Parts}
use Rattle.device_core.specs.Decided.{history_from, decision_of, decided}
use Rattle.device_core.specs.declared.decision.Decision.{Decision}
use Rattle.device_core.specs.declared.decision.Decision.TheVariants.{Answers, Adds}

same_is : (a b : ℕ) → a ≡ b → (a == b) ≡ true
same_is a b e = grind (arith, nat_tests)

-- a form has at most fifteen digits
pub at_most : (form : Form) → digit_count form ≤ 15
at_most Nine = lit≤ tt
at_most Fifteen = lit≤ tt

-- a place in the digits is a byte
pub place_within : (form : Form) (digits : List ℕ) (place : ℕ) → first_fault form digits ≡ Some place → place ≤ length digits
place_within form digits place is = (is_first_fault form digits place is).inside

-- what a pad hands over, where it is as long as a form
entry_is : (pressed : List ℕ) (held : ℕ) → held ≡ length pressed → held ≤ 15 → take held (handed_over pressed) ≡ pressed
unfolding handed_over
entry_is pressed held is most =
    let rest : List ℕ = replicate 15 0 in
    let more : ℕ = 15 - length pressed in
    let all : 15 ≡ length pressed + more = omega arith in
    ap (λ (n : ℕ). take n (take 15 (pressed ++ rest))) is
    ∙ (ap (take (length pressed)) (ap (λ (n : ℕ). take n (pressed ++ rest)) all ∙ take-append-add pressed rest more) ∙ take-append_seam pressed (take more rest))

whole_entry : (keys : Keys) (form : Form) (count : ℕ) → count ≡ held_of keys → count ≡ digit_count form → take count (handed_over keys.pressed) ≡ keys.pressed
whole_entry keys form count held long =
    let most : digit_count form ≤ 15 = at_most form in
    let whole : count ≡ length keys.pressed = omega arith in
    entry_is keys.pressed count whole (omega arith)

other_length : (keys : Keys) (form : Form) → held_of keys ≢ digit_count form → (length keys.pressed == digit_count form) ≡ false
other_length keys form other =
    let most : digit_count form ≤ 15 = at_most form in
    let long : length keys.pressed ≢ digit_count form = (λ e. other (omega arith)) in
    grind (arith, nat_tests)

-- what is read of an entry is what was pressed
pub pressed_is : (journal : JournalView) (keys : Keys) (config : Config) (digits : List ℕ) (count held : ℕ) → config ≡ journal.config → count ≡ held → count ≡ digit_count config.form
    → digits ≡ handed_over keys.pressed → held ≡ held_of keys → (P : Form → List ℕ → Type 0) → P config.form (take count digits) → P journal.config.form keys.pressed
pressed_is journal keys config digits count held same counted long handed held_is P is =
    subst (λ (c : Config). P c.form keys.pressed) same (subst (P config.form) (ap (take count) handed ∙ whole_entry keys config.form count (counted ∙ held_is) long) is)

module _ (next : List ℕ → ℕ → ℕ) (journal : JournalView) (keys : Keys) where
  -- what is decided by what becomes of an entry
  abbrev by_typed : Typed → Option Decision
  by_typed t = decision_of (effect_of_typed (history_from journal) t)

  -- an entry whose length isn't the form's
  pub entry_long : (held : ℕ) → held ≡ held_of keys → held ≢ digit_count journal.config.form → Some (Answers (reply_is.Length held)) ≡ decided next journal keys (Key 35)
  entry_long held is other =
      let wrong : (length keys.pressed == digit_count journal.config.form) ≡ false = other_length keys journal.config.form (λ e. other (is ∙ e)) in
      ap (λ (n : ℕ). Some (Answers (reply_is.Length n))) is ∙ sym (rw wrong refl)

  -- the first digit that is none of the form
  pub entry_wrong : (place : ℕ) → (length keys.pressed ≡ digit_count journal.config.form) × (first_fault journal.config.form keys.pressed ≡ Some place)
      → Some (Answers (reply_is.Digits place)) ≡ decided next journal keys (Key 35)
  entry_wrong place (long, is) = sym (rw (same_is _ _ long, is) refl)

  -- digits that say a token
  token_typed : (token : ℕ) → value_of journal.config.form keys.pressed ≡ Some token
      → typed_on next (history_from journal) keys.pressed ≡ by_clock (clock_at_start journal.summary) (found (next journal.config.key) journal.config.start journal.summary [] token)
  token_typed token says = let told = value_tells journal.config.form keys.pressed token says in rw (same_is _ _ told.0, told.1, told.2) refl

  -- a block is told
  pub token_blocked : (token block : ℕ) → value_of journal.config.form keys.pressed ≡ Some token → block ≡ journal.summary.block → 0 < block
      → Some (Answers (reply_is.Blocked block)) ≡ decided next journal keys (Key 35)
  token_blocked token block says same some =
      let test : nat_lt 0 journal.summary.block ≡ true = grind (arith, nat_tests) in
      ap (λ (n : ℕ). Some (Answers (reply_is.Blocked n))) same ∙ sym (ap by_typed (token_typed token says) ∙ rw test refl)

  -- what the window finds is what the summary says
  pub token_found : (config : Config) (parts : Parts) (token : ℕ) (answer : Found) → journal.summary.block ≡ 0 → config ≡ journal.config → summary_of parts ≡ journal.summary
      → answer ≡ found (next config.key) config.start (alone parts.window.limit parts.window.last parts.window.bits) [] token → value_of journal.config.form keys.pressed ≡ Some token
      → by_typed (by_found answer) ≡ decided next journal keys (Key 35)
  token_found config parts token answer open_ same known is says =
      let at_config : found (next config.key) config.start (summary_of parts) [] token ≡ found (next journal.config.key) journal.config.start (summary_of parts) [] token =
      ap (λ (c : Config). found (next c.key) c.start (summary_of parts) [] token) same in
      let at_summary : found (next journal.config.key) journal.config.start (summary_of parts) [] token ≡ found (next journal.config.key) journal.config.start journal.summary [] token =
      ap (λ (s : Summary). found (next journal.config.key) journal.config.start s [] token) known in
      let test : nat_lt 0 journal.summary.block ≡ false = grind (arith, nat_tests) in
      ap (λ (f : Found). by_typed (by_found f)) (is ∙ at_config ∙ at_summary) ∙ sym (ap by_typed (token_typed token says) ∙ rw test refl)

-- a token that is found may be accepted
pub may_accept : (journal : JournalView) (parts : Parts) (count value : ℕ) → journal.summary.block ≡ 0 → summary_of parts ≡ journal.summary
    → is_valid (alone parts.window.limit parts.window.last parts.window.bits) [] count value ≡ true → follows journal.summary (Accept count value) ≡ true
may_accept journal parts count value open_ known may =
    let valid : is_valid journal.summary [] count value ≡ true = subst (λ (s : Summary). is_valid s [] count value ≡ true) known may in rw (open_, valid) refl

some_second : (clock : ClockView) (unit seconds : ℕ) → shows_same (clock_after unit (Elapsed seconds) clock) clock ≡ false → 1 ≤ seconds
some_second clock unit seconds other = grind (arith, nat_tests)

-- What seconds come to, by the clock after them and the clock before.
abbrev seconds_by : ℕ → ClockView → ClockView → Effect
seconds_by seconds clock before =
    if shows_same clock before then machine.Answers (Some (reply_to_entry (Elapsed seconds) clock)) (Elapsed seconds ∷ []) else machine.Adds (Elapsed seconds)

module _ (journal : JournalView) (parts : Parts) (seconds : ℕ) (clock : ClockView) (known : summary_of parts ≡ journal.summary) (is : clock ≡ clock_after (unit_of journal.config.divider) (Elapsed seconds) parts.clock) where
  seconds_are : decision_of (seconds_by seconds clock parts.clock) ≡ decision_of (effect_of_seconds (history_from journal) seconds)
  seconds_are =
      ap (λ (c : ClockView). decision_of (seconds_by seconds c parts.clock)) is
      ∙ ap (λ (s : Summary). decision_of (seconds_by seconds (clock_after (unit_of journal.config.divider) (Elapsed seconds) (clock_at_start s)) (clock_at_start s))) known

  -- seconds after which the clock shows the same, and others
  pub seconds_same : shows_same clock parts.clock ≡ true → Some (Answers (reply_is.Ticked clock.left clock.free clock.block)) ≡ decision_of (effect_of_seconds (history_from journal) seconds)
  seconds_same test = sym (rw test refl) ∙ seconds_are

  pub seconds_other : shows_same clock parts.clock ≡ false → Some (Adds (Elapsed seconds)) ≡ decision_of (effect_of_seconds (history_from journal) seconds)
  seconds_other test = sym (rw test refl) ∙ seconds_are

  pub seconds_may : shows_same clock parts.clock ≡ false → seconds ≤ 999999999 → follows journal.summary (Elapsed seconds) ≡ true
  seconds_may other most =
      let least : 1 ≤ seconds = some_second parts.clock (unit_of journal.config.divider) seconds (subst (λ (c : ClockView). shows_same c parts.clock ≡ false) is other) in
      grind (arith, nat_tests)
