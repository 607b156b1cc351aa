-- What the code keeps of a device goes on as the specification says.
use Rattle.std.proofs.Common.{◌≡◌, ◌≢◌, ℕ, true, false, ◌==◌, List, [], ◌∷◌, map, Option, Some, Result, Ok, Err, refl, sym, ap, ◌∙◌, arith}
use Rattle.std.specs.Prelude.{IfOk}
use Rattle.std.proofs.lemmas.Bool.Decides.{nat_tests}
use Rattle.paygo_spec.specs.declared.Entry.{Entry}
use Rattle.paygo_spec.specs.declared.Reply.{Reply}
use Rattle.paygo_spec.specs.declared.Reply.TheVariants as reply_is
use Rattle.paygo_spec.specs.Clock.{clock_at_start}
use Rattle.paygo_spec.specs.History.{Summary}
use Rattle.paygo_spec.specs.Layout.{Position, first_position, room, further, turned}
use Rattle.paygo_spec.specs.Snapshot.{snapshot}
use Rattle.paygo_spec.specs.Machine.{History, Stored, Journal, unit_for, clock_at, reply_to_entry}
use Rattle.bank_journal.specs.Summary.{summary_of}
use Rattle.bank_journal.specs.declared.summary.Summary.{Summary as Parts}
use Rattle.log_check.specs.declared.outcomes.Foreseen.{Foreseen}
use Rattle.log_check.specs.declared.standing.Made.{Made as MadeOf}
use Rattle.log_check.specs.declared.standing.Standing.{Standing}
use Rattle.log_check.specs.declared.standing.Standing.TheVariants.{Made}
use Rattle.log_check.specs.After.{Outcome, with_reply, taken, moved, adding}
use Rattle.log_check.specs.Standing.{history_of, outcome_of}

pub ok_if : {A E : Type 0} (P Q : A → Type 0) (r : Result A E) → ((a : A) → P a → Q a) → IfOk r P → IfOk r Q
ok_if P Q (Ok a) k h = k a h
ok_if P Q (Err e) k h = tt

abbrev place_of : Stored → Position
place_of (Journal history) = history.at
place_of _ = first_position

abbrev start_of : Summary → Stored → Summary
start_of other (Journal history) = history.start
start_of other _ = other

abbrev history_with : MadeOf → Summary → Position → Stored
history_with made start at = Journal (record { config = made.config; start = start; entries = []; at = at })

-- a device with one entry more
pub grown : (next made : MadeOf) (parts : Parts) (entry : Entry) (at : Position)
    → Journal (history_of next) ≡ moved (history_of made) at → next.config ≡ made.config
    → summary_of parts ≡ snapshot (unit_for (history_of made)) (summary_of made.summary) (entry ∷ [])
    → Journal (record {
      config = next.config;
      start = summary_of parts;
      entries = [];
      at = record
          { number = next.number; place = next.place };
    }) ≡ taken (history_of made) entry at
grown next made parts entry at stands same sum =
    ap (λ c. Journal (record {
      config = c;
      start = summary_of parts;
      entries = [];
      at = record
          { number = next.number; place = next.place };
    })) same
    ∙ ap (λ p. history_with made (summary_of parts) p) (ap place_of stands) ∙ ap (λ s. history_with made s at) sum

other_test : (a b : ℕ) → a ≢ b → (a == b) ≡ false
other_test a b e = grind (arith, nat_tests)

same_test : (a b : ℕ) → a ≡ b → (a == b) ≡ true
same_test a b e = grind (arith, nat_tests)

abbrev seen : Option Reply → Standing → Foreseen
seen reply standing = record { reply = reply; standing = standing }

module _ (made with passed : MadeOf) (entry : Entry) (answer : Reply) where
  abbrev old : History
  old = history_of made

  -- the reply is that by the clock with the entry
  answer_is : Journal (history_of with) ≡ taken old entry (further old.at)
      → answer ≡ reply_to_entry entry with.summary.clock → answer ≡ reply_to_entry entry (clock_at old (entry ∷ []))
  answer_is stands is = is ∙ ap (λ (s : Summary). reply_to_entry entry (clock_at_start s))
      (ap (start_of (summary_of made.summary)) stands)

  abbrev four : Stored → Reply → Stored → List Outcome → List Outcome
  four with' reply passed' rest =
      with_reply (Some reply) with' ∷ with_reply (Some reply_is.Down) with' ∷ with_reply (Some reply_is.Down)
      (Journal old) ∷ with_reply (Some reply_is.Down) passed' ∷ rest

  four_are : (rest : List Outcome) → Journal (history_of with) ≡ taken old entry (further old.at)
      → Journal (history_of passed) ≡ moved old (further old.at) → answer ≡ reply_to_entry entry with.summary.clock
      → four (Journal (history_of with)) answer (Journal (history_of passed)) rest ≡ four
      (taken old entry (further old.at)) (reply_to_entry entry (clock_at old (entry ∷ [])))
      (moved old (further old.at)) rest
  four_are rest stands passes is =
      ap (λ r. four (Journal (history_of with)) r (Journal (history_of passed)) rest) (answer_is stands is)
      ∙ ap (λ s. four s (reply_to_entry entry (clock_at old (entry ∷ []))) (Journal (history_of passed)) rest) stands
      ∙ ap (λ s. four (taken old entry (further old.at)) (reply_to_entry entry (clock_at old (entry ∷ []))) s rest)
      passes

  pub adds_four : (a b c d : Foreseen) → a ≡ seen (Some answer) (Made with) → b ≡ seen (Some reply_is.Down) (Made with)
      → c ≡ seen (Some reply_is.Down) (Made made) → d ≡ seen (Some reply_is.Down) (Made passed)
      → room old.at ≢ 0 → made.place ≢ 512 → Journal (history_of with) ≡ taken old entry (further old.at)
      → Journal (history_of passed) ≡ moved old (further old.at) → answer ≡ reply_to_entry entry with.summary.clock
      → map outcome_of (a ∷ b ∷ c ∷ d ∷ []) ≡ adding old entry
  adds_four a b c d e f g h free other stands passes is =
      let r : (room old.at == 0) ≡ false = other_test (room old.at) 0 free in
      let p : (made.place == 512) ≡ false = other_test made.place 512 other in
      ap (λ (x : Foreseen). map outcome_of (x ∷ b ∷ c ∷ d ∷ [])) e
      ∙ ap (λ (x : Foreseen). map outcome_of (seen (Some answer) (Made with) ∷ x ∷ c ∷ d ∷ [])) f
      ∙ ap (λ (x : Foreseen). map outcome_of (seen (Some answer) (Made with) ∷ seen (Some reply_is.Down) (Made with) ∷ x
      ∷ d ∷ [])) g
      ∙ ap (λ (x : Foreseen). map outcome_of (seen (Some answer) (Made with) ∷ seen (Some reply_is.Down) (Made with) ∷
      seen (Some reply_is.Down) (Made made) ∷ x ∷ [])) h
      ∙ four_are [] stands passes is ∙ sym (rw (r, p) refl)

  pub adds_five : (next : MadeOf) (a b c d k : Foreseen) → a ≡ seen (Some answer) (Made with)
      → b ≡ seen (Some reply_is.Down) (Made with) → c ≡ seen (Some reply_is.Down) (Made made)
      → d ≡ seen (Some reply_is.Down) (Made passed)
      → k ≡ seen (Some reply_is.Down) (Made next)
      → room old.at ≢ 0 → made.place ≡ 512 → Journal (history_of with) ≡ taken old entry (further old.at)
      → Journal (history_of passed) ≡ moved old (further old.at)
      → Journal (history_of next) ≡ moved old (turned old.at)
      → answer ≡ reply_to_entry entry with.summary.clock
      → map outcome_of (a ∷ b ∷ c ∷ d ∷ k ∷ []) ≡ adding old entry
  adds_five next a b c d k e f g h l free full stands passes turns is =
      let r : (room old.at == 0) ≡ false = other_test (room old.at) 0 free in
      let p : (made.place == 512) ≡ true = same_test made.place 512 full in
      ap (λ (x : Foreseen). map outcome_of (x ∷ b ∷ c ∷ d ∷ k ∷ [])) e
      ∙ ap (λ (x : Foreseen). map outcome_of (seen (Some answer) (Made with) ∷ x ∷ c ∷ d ∷ k ∷ [])) f
      ∙ ap (λ (x : Foreseen). map outcome_of (seen (Some answer) (Made with) ∷ seen (Some reply_is.Down) (Made with) ∷ x
      ∷ d ∷ k ∷ [])) g
      ∙ ap (λ (x : Foreseen). map outcome_of (seen (Some answer) (Made with) ∷ seen (Some reply_is.Down) (Made with) ∷
      seen (Some reply_is.Down) (Made made) ∷ x ∷ k ∷ [])) h
      ∙ ap (λ (x : Foreseen). four (Journal (history_of with)) answer (Journal (history_of passed)) (outcome_of x ∷ []))
      l
      ∙ ap (λ (s : Stored). four (Journal (history_of with)) answer (Journal (history_of passed))
      (with_reply (Some reply_is.Down) s ∷ [])) turns
      ∙ four_are (with_reply (Some reply_is.Down) (moved old (turned old.at)) ∷ []) stands passes is
      ∙ sym (rw (r, p) refl)
