-- What a shop answers to the lines of its agents: each answer, and what stands behind it.
use Rattle.std.specs.Prelude.{ℕ, zero, suc, ◌+◌, ◌==◌, nat_lt, Bool, true, false, if◌then◌else◌}
use Rattle.std.specs.Prelude.{List, [], ◌∷◌, ◌++◌, length, codes, Option, Some, None, Result, Ok, Err}
use Rattle.std.specs.List.{flat_map}
use Rattle.std.specs.Fmt.{decimal}
use Rattle.ledger_spec.specs.declared.Answer.{Answer}
use Rattle.ledger_spec.specs.declared.Answer.TheVariants as answer_is
use Rattle.ledger_spec.specs.declared.Command.{Command}
use Rattle.ledger_spec.specs.declared.Command.TheVariants as command_is
use Rattle.ledger_spec.specs.declared.Order.{Order}
use Rattle.ledger_spec.specs.declared.TextFault.{TextFault}
use Rattle.ledger_spec.specs.AnswerText.{text_of_answer, text_of_fault}
use Rattle.ledger_spec.specs.Ledger.{done}
use Rattle.ledger_spec.specs.Tables.{Tables, order_of}
use Rattle.run_spec.specs.Meaning.{trimmed}
use Rattle.sheet_book.specs.declared.sales.Sale.{Sale}
use Rattle.sheet_book.specs.Reports.{Report, key_at, report_of, sales_of, least, lesser, totals_of}
use Rattle.sheet_text.specs.declared.asks.Ask.{Ask}
use Rattle.sheet_text.specs.declared.asks.Ask.TheVariants as ask_is
use Rattle.sheet_text.specs.declared.asks.Sheet.{Sheet}
use Rattle.sheet_text.specs.declared.asks.Sold.{Sold}
use Rattle.sheet_text.specs.Asks.{ask_in}
use Rattle.sheet_text.specs.Ids.{id_of}
use Rattle.sheet_text.specs.Texts.{sold_text, sales_text}

-- What a shop with agents has: its tables, and the reports of sales that it answered, the newest first.
pub record Office : Type 0 where
  pub tables : Tables
  pub reports : List Report

-- An answer: its line without the end, and what stands once it is given.
pub record Answered : Type 0 where
  pub text : List ℕ
  pub office : Office

-- A text is answered, and nothing changes.
abbrev pub says : List ℕ → Office → List Answered
says text office = record { text = text; office = office } ∷ []

-- A command is given to the ledger, and its answer is written as `serve` writes it.
abbrev pub served : (List ℕ → ℕ → ℕ) → Command → Office → Answered
served next command office =
    let did = done next office.tables command in
    record { text = text_of_answer did.answer; office = record { tables = did.tables; reports = office.reports } }

-- The payment for the token at a place of a sheet.
abbrev pub payment : Sheet → ℕ → Command
payment sheet place = command_is.Pay (id_of sheet.sheet place) sheet.serial sheet.amount

-- Whether an answer is an order, a new one or the kept one. Every other answer to a payment refuses it.
abbrev pub holds_order : Answer → Bool
holds_order (answer_is.Order order form) = true
holds_order _ = false

-- The payments for the tokens of a sheet from a place on, so many of them: one after the other, up to the first one
-- that is refused.
abbrev pub payments : (List ℕ → ℕ → ℕ) → Sheet → (place left : ℕ) → Office → List Answered
payments next sheet place zero office = []
payments next sheet place (suc left) office =
    let one = served next (payment sheet place) office in
    if holds_order (done next office.tables (payment sheet place)).answer
    then one ∷ payments next sheet (place + 1) left one.office
    else one ∷ []

-- The sale that an agent reports.
abbrev pub sale_in : Sold → Sale
sale_in sold = record { name = sold.sale; money = sold.money }

-- The sale that counts once this one is reported: the least one that was reported of its place, this one among them.
abbrev pub counted : Sold → List Report → Sale
counted sold reports = lesser (sale_in sold) (least (sales_of (key_at sold.sheet sold.place) reports))

-- A report of a token that the shop issued is kept, and answered by the sale that counts.
abbrev pub kept : Sold → Office → Answered
kept sold office =
    let sale = counted sold office.reports in
    record {
      text = sold_text sold.sheet sold.place sale.name sale.money;
      office = record {
        tables = office.tables;
        reports = report_of sold.sheet sold.place sold.sale sold.money ∷ office.reports;
      };
    }

-- A sale is reported of the token whose order this is. Where the shop has no such order, the report is refused, and
-- isn't kept.
abbrev pub reported : Sold → Option Order → Office → List Answered
reported sold None office = says (text_of_answer answer_is.NoOrder) office
reported sold (Some order) office = kept sold office ∷ []

-- The answers to what a line asks for.
abbrev pub answers_of_ask : (List ℕ → ℕ → ℕ) → Ask → Office → List Answered
answers_of_ask next (ask_is.Sheet sheet) office = payments next sheet 1 sheet.tokens office
answers_of_ask next (ask_is.Sold sold) office =
    reported sold (order_of office.tables (id_of sold.sheet sold.place)) office

-- The answers to a line of JSON: where it asks for nothing, the one that says why.
abbrev pub answers_of_reading : (List ℕ → ℕ → ℕ) → Result Ask TextFault → Office → List Answered
answers_of_reading next (Ok ask) office = answers_of_ask next ask office
answers_of_reading next (Err fault) office = says (text_of_fault fault) office

-- The answers to a line's text: none to an empty one. A line that doesn't begin with `{` is one of a device, and there
-- is none here.
abbrev pub answers_of_text : (List ℕ → ℕ → ℕ) → List ℕ → Office → List Answered
answers_of_text next [] office = []
answers_of_text next (c ∷ cs) office =
    if c == 123 then answers_of_reading next (ask_in (c ∷ cs)) office else says (codes "no device here") office

-- The answers to a line: one to a line above 4,096 bytes, and else those to its text.
abbrev pub answers_of_line : (List ℕ → ℕ → ℕ) → List ℕ → Office → List Answered
answers_of_line next line office =
    if nat_lt 4096 (length line)
    then says (codes "long " ++ decimal (length line)) office
    else answers_of_text next (trimmed line) office

-- What stands behind these answers.
abbrev pub behind : Office → List Answered → Office
behind office [] = office
behind office (answer ∷ answers) = behind answer.office answers

-- The answers to these lines, one line after the other.
abbrev pub answers_to : (List ℕ → ℕ → ℕ) → List (List ℕ) → Office → List Answered
answers_to next [] office = []
answers_to next (line ∷ lines) office =
    let own = answers_of_line next line office in own ++ answers_to next lines (behind office own)

-- The last word: what all reports come to.
abbrev pub last_word : Office → Answered
last_word office =
    let totals = totals_of office.reports in
    record { text = sales_text totals.tokens totals.money totals.disputes; office = office }

-- The line of an answer.
abbrev pub line_of : Answered → List ℕ
line_of answer = answer.text ++ 10 ∷ []

-- All that is written for these answers.
abbrev pub text_of : List Answered → List ℕ
text_of answers = flat_map line_of answers

-- All answers to the lines of an input that has ended: the last word stands behind them.
abbrev pub answers_with_last : (List ℕ → ℕ → ℕ) → List (List ℕ) → Office → List Answered
answers_with_last next lines office =
    let given = answers_to next lines office in given ++ last_word (behind office given) ∷ []
