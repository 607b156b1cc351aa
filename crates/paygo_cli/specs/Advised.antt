-- What is written of the way back for a device that fell behind: its advice, or why there is none.
use Rattle.std.specs.Prelude.{◌≡◌, ◌≢◌, ℕ, List, [], ◌∷◌, ◌++◌, length, codes, Option, Some, None, Result, Ok, Err}
use Rattle.std.specs.List.{flat_map}
use Rattle.paygo_spec.specs.declared.Form.{Form}
use Rattle.paygo_spec.specs.Streams.{SinkView}
use Rattle.paygo_spec.specs.Text.{with_number}
use Rattle.ledger_spec.specs.declared.Order.{Order}
use Rattle.ledger_spec.specs.declared.Row.{Row}
use Rattle.ledger_spec.specs.declared.Answer.TheVariants as answer_is
use Rattle.ledger_spec.specs.AnswerText.{number, refused_text, text_of_answer}
use Rattle.run_spec.specs.declared.Status.{Status}
use Rattle.run_spec.specs.declared.Status.TheVariants as status
use Rattle.sync_advice.specs.declared.advice.Advice.{Advice}
use Rattle.sync_advice.specs.declared.advice.Advice.TheVariants as advice
use Rattle.sync_advice.specs.declared.advice.AdviceFault.{AdviceFault}
use Rattle.sync_advice.specs.declared.advice.AdviceFault.TheVariants as fault
use Rattle.sync_advice.specs.Answers.{AnswersAs}
use Rattle.paygo_cli.specs.Ends.{WritesText}

-- The line of an order, as `serve` answers it: the customer types the token that stands in it.
abbrev pub order_line : Form → Order → List ℕ
order_line form order = text_of_answer (answer_is.Order order form) ++ 10 ∷ []

-- The first line of a list: `advise`, and how many orders follow.
abbrev pub advise_line : ℕ → List ℕ
advise_line n = with_number (codes "advise") n ++ 10 ∷ []

-- The text of a list of orders: how many they are, and the line of each, in the order in which they are typed.
unfoldable pub text_of_list : Form → List Order → List ℕ
text_of_list form orders = advise_line (length orders) ++ flat_map (order_line form) orders

-- The line where no list helps: `gap`, and the count from which none of the orders is in reach.
abbrev pub gap_line : ℕ → List ℕ
gap_line count = with_number (codes "gap") count ++ 10 ∷ []

-- The line where the floor is above the newest count, which it tells.
abbrev pub above_line : ℕ → List ℕ
above_line last = refused_text 13 (codes "above") (number (codes "last") last ∷ []) ++ 10 ∷ []

-- The line where no device has the serial.
abbrev pub no_device_line : List ℕ
no_device_line = text_of_answer answer_is.NoDevice ++ 10 ∷ []

-- This text says this advice to a customer who types tokens in this form. Where there was no memory, none does.
abbrev pub Says : Form → Result Advice AdviceFault → List ℕ → Type 0
Says form (Ok (advice.List list)) text = text ≡ text_of_list form list.items
Says form (Ok (advice.Gap count)) text = text ≡ gap_line count
Says form (Err (fault.Above last)) text = text ≡ above_line last
Says form (Err fault.Memory) text = ⊥

-- This text says the advice for a device with these orders and this limit, whose last count is at least the floor.
pub record IsAdvice (orders : List Order) (limit floor : ℕ) (form : Form) (text : List ℕ) : Type 0 where
  pub answer : Result Advice AdviceFault
  pub answers : AnswersAs orders limit floor answer
  pub says : Says form answer text

-- This text is the one to write for a row that was looked for, and the orders of its serial.
abbrev pub IsAdvised : Option Row → List Order → ℕ → List ℕ → Type 0
IsAdvised None orders floor text = text ≡ no_device_line
IsAdvised (Some row) orders floor text = IsAdvice orders row.limit floor row.form text

-- Such a text was written: the whole of it at Ok, and its beginning at Write. At Keep and at Memory nothing was written.
abbrev pub WritesAdvice : Option Row → List Order → ℕ → Status → SinkView → SinkView → Type 0
WritesAdvice row orders floor status.Keep old new = new.written ≡ old.written
WritesAdvice row orders floor status.Memory old new = new.written ≡ old.written
WritesAdvice row orders floor result old new =
    (text : List ℕ) × IsAdvised row orders floor text × WritesText result text old new
