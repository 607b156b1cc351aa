-- An advice that is written.
use Rattle.std.proofs.Common.{◌≡◌, ℕ, List, [], ◌∷◌, ◌++◌, length, Result, Option, Some, None, Ok, Err, refl, sym, subst}
use Rattle.std.specs.List.{flat_map}
use Rattle.paygo_spec.specs.declared.Form.{Form}
use Rattle.paygo_spec.specs.Streams.{SinkView}
use Rattle.ledger_spec.specs.declared.Order.{Order}
use Rattle.ledger_spec.specs.declared.Row.{Row}
use Rattle.paygo_ports.specs.declared.sink.WriteFault.{WriteFault}
use Rattle.sync_advice.specs.declared.advice.Advice.{Advice}
use Rattle.sync_advice.specs.declared.advice.AdviceFault.{AdviceFault}
use Rattle.sync_advice.specs.Answers.{AnswersAs}
use Rattle.line_output.specs.Written.{Wrote}
use Rattle.paygo_cli.specs.Ends.{written_by}
use Rattle.paygo_cli.specs.Advised.{order_line, advise_line, text_of_list, no_device_line, Says, WritesAdvice}
use Rattle.paygo_cli.proofs.Pieces.{behind, cut_short}

-- the text of a list, in two pieces
text_is : (form : Form) (orders : List Order) → advise_line (length orders) ++ flat_map (order_line form) orders ≡ text_of_list form orders
unfolding text_of_list
text_is form orders = refl

pub list_written : (form : Form) (orders : List Order) (result : Result (Unit {0}) WriteFault) (old mid new : SinkView) → Wrote (advise_line (length orders)) (Ok tt) old mid → Wrote (flat_map (order_line form) orders) result mid new → Wrote (text_of_list form orders) result old new
list_written form orders result old mid new first second =
    subst (λ (l : List ℕ). Wrote l result old new) (text_is form orders) (behind (advise_line (length orders)) (flat_map (order_line form) orders) result old mid new first second)

pub list_cut : (form : Form) (orders : List Order) (fault : WriteFault) (old new : SinkView) → Wrote (advise_line (length orders)) (Err fault) old new → Wrote (text_of_list form orders) (Err fault) old new
list_cut form orders fault old new cut =
    subst (λ (l : List ℕ). Wrote l (Err fault) old new) (text_is form orders) (cut_short (advise_line (length orders)) (flat_map (order_line form) orders) fault old new cut)

-- an answer that is said by what was written
pub advice_written : (row : Row) (orders : List Order) (floor : ℕ) (answer : Result Advice AdviceFault) (text : List ℕ) → AnswersAs orders row.limit floor answer → Says row.form answer text
    → (outcome : Result (Unit {0}) WriteFault) (old new : SinkView) → Wrote text outcome old new → WritesAdvice (Some row) orders floor (written_by outcome) old new
advice_written row orders floor answer text answers says (Ok done) old new wrote = (text, record { answer = answer; answers = answers; says = says }, wrote)
advice_written row orders floor answer text answers says (Err fault) old new wrote = (text, record { answer = answer; answers = answers; says = says }, wrote)

pub none_written : (orders : List Order) (floor : ℕ) (outcome : Result (Unit {0}) WriteFault) (old new : SinkView) → Wrote no_device_line outcome old new → WritesAdvice None orders floor (written_by outcome) old new
none_written orders floor (Ok done) old new wrote = (no_device_line, refl, wrote)
none_written orders floor (Err fault) old new wrote = (no_device_line, refl, wrote)
