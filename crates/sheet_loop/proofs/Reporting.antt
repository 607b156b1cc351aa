-- A report of a sale.
use Rattle.std.proofs.Common.{◌≡◌, ◌⊎◌, inl, inr, ℕ, true, false, List, [], ◌∷◌, ◌++◌, Option, Some, None, Result, Ok, Err, refl, sym, ap, ◌∙◌, subst, cond}
use Rattle.std.specs.Option.{option_map}
use Rattle.paygo_spec.specs.Streams.{SinkView}
use Rattle.ledger_spec.specs.declared.Answer.{Answer}
use Rattle.ledger_spec.specs.declared.Answer.TheVariants as answer_is
use Rattle.ledger_spec.specs.declared.Command.TheVariants as command_is
use Rattle.ledger_spec.specs.declared.LedgerFault.{LedgerFault}
use Rattle.ledger_spec.specs.declared.LedgerFault.TheVariants as ledger
use Rattle.ledger_spec.specs.declared.Order.{Order}
use Rattle.ledger_spec.specs.AnswerText.{text_of_answer}
use Rattle.ledger_spec.specs.Applied.{Applies}
use Rattle.ledger_spec.specs.Keeper.{KeeperView}
use Rattle.ledger_spec.specs.Ledger.{done, told_order}
use Rattle.ledger_spec.specs.Tables.{Tables, order_of}
use Rattle.paygo_ports.specs.declared.sink.WriteFault.{WriteFault}
use Rattle.line_loop.specs.declared.handler.LineFault.TheVariants as fault
use Rattle.line_loop.specs.declared.handler.LineFault.{LineFault}
use Rattle.line_loop.specs.Handling.{of_line}
use Rattle.line_output.specs.Written.{Wrote}
use Rattle.bench_run.proofs.Answering.{applied_ok}
use Rattle.sheet_book.specs.declared.book.Book.{Book}
use Rattle.sheet_book.specs.declared.sales.Sale.{Sale}
use Rattle.sheet_book.specs.Books.{StandsFor}
use Rattle.sheet_book.specs.Reports.{Report, key_at, report_of, sales_of, least}
use Rattle.sheet_book.proofs.Sums.{key_self}
use Rattle.sheet_text.specs.declared.asks.Ask.TheVariants as ask_is
use Rattle.sheet_text.specs.declared.asks.Sold.{Sold}
use Rattle.sheet_text.specs.Ids.{id_of}
use Rattle.sheet_text.specs.Texts.{sold_text}
use Rattle.sheet_loop.specs.Office.{Office, Answered, answers_of_ask, counted, holds_order, kept, reported, sale_in}
use Rattle.sheet_loop.specs.Served.{StandsAs, Gave, Gives, fault_of}
use Rattle.sheet_loop.proofs.Giving.{gave_one, gave_text, gave_unmade, gave_doubt}

-- the sale that counts is the least of the reports with the new one
counts : (sold : Sold) (reports : List Report) (sale : Sale)
    → least (sales_of (key_at sold.sheet sold.place) (report_of sold.sheet sold.place sold.sale sold.money ∷ reports)) ≡ Some sale → counted sold reports ≡ sale
counts sold reports sale is =
    let key = key_at sold.sheet sold.place in
    let sales = sales_of key reports in
    let with_new : sales_of key (report_of sold.sheet sold.place sold.sale sold.money ∷ reports) ≡ sale_in sold ∷ sales =
    ap (λ b. cond b (sale_in sold ∷ sales) sales) (key_self key) in
    let both : Some (counted sold reports) ≡ Some sale = sym (ap least with_new) ∙ is in
    cc

-- a report is kept, and answered
pub kept_one : (sold : Sold) (name : List ℕ) (money : ℕ) (result : Result (Unit {0}) WriteFault) (keeper : KeeperView) (old new : Book) (sink sink' : SinkView)
    → ((reports : List Report) → StandsFor old reports → StandsFor new (report_of sold.sheet sold.place sold.sale sold.money ∷ reports))
    → ((reports : List Report) → StandsFor new reports → least (sales_of (key_at sold.sheet sold.place) reports) ≡ Some (record { name = name; money = money }))
    → Wrote (sold_text sold.sheet sold.place name money ++ 10 ∷ []) result sink sink'
    → Gives (λ office. kept sold office ∷ []) (of_line result) keeper old sink keeper new sink'
kept_one sold name money result keeper old new sink sink' stands least_is wrote office is =
    let report = report_of sold.sheet sold.place sold.sale sold.money in
    let now = stands office.reports is.reports in
    let sale = counts sold office.reports (record { name = name; money = money }) (least_is (report ∷ office.reports) now) in
    gave_one (kept sold office) result office sink keeper new sink' (record { tables = is.tables; reports = now })
    (subst (λ (s : Sale). Wrote (sold_text sold.sheet sold.place s.name s.money ++ 10 ∷ []) result sink sink') (sym sale) wrote)

module _ (next : List ℕ → ℕ → ℕ) (sold : Sold) (was now : KeeperView) (book : Book) where
  abbrev answers : Office → List Answered
  answers office = answers_of_ask next (ask_is.Sold sold) office

  -- the shop has an order of the token
  has_order : (answer : Answer) → Applies (λ t. done next t (command_is.Order (id_of sold.sheet sold.place))) (Ok answer) was now → (office : Office) → StandsAs was book office
      → (answer ≡ told_order office.tables (order_of office.tables (id_of sold.sheet sold.place))) × (now.tables ≡ Some office.tables)
  has_order answer applies office stands =
      applied_ok (λ t. done next t (command_is.Order (id_of sold.sheet sold.place))) answer was.tables now.tables office.tables stands.tables applies.tables

  -- and the report was kept
  pub report_kept : (answer : Answer) → holds_order answer ≡ true
      → Applies (λ t. done next t (command_is.Order (id_of sold.sheet sold.place))) (Ok answer) was now
      → (outcome : Result (Unit {0}) LineFault) (book' : Book) (sink sink' : SinkView) → Gives (λ office. kept sold office ∷ []) outcome now book sink now book' sink'
      → Gives answers outcome was book sink now book' sink'
  report_kept answer order applies outcome book' sink sink' gives office stands =
      let did = has_order answer applies office stands in
      by_found (order_of office.tables (id_of sold.sheet sold.place)) refl (ap holds_order (sym did.0) ∙ order) (gives office (record { tables = did.1; reports = stands.reports }))
    where
      by_found : (found : Option Order) → order_of office.tables (id_of sold.sheet sold.place) ≡ found → holds_order (told_order office.tables found) ≡ true
          → Gave (kept sold office ∷ []) outcome office sink now book' sink' → Gave (answers office) outcome office sink now book' sink'
      by_found None found told gave = cc
      by_found (Some kept_order) found told gave =
          subst (λ (o : Option Order). Gave (reported sold o office) outcome office sink now book' sink') (sym found) gave

  -- or it has none, which is answered
  pub report_refused : (answer : Answer) → holds_order answer ≡ false
      → Applies (λ t. done next t (command_is.Order (id_of sold.sheet sold.place))) (Ok answer) was now
      → (result : Result (Unit {0}) WriteFault) (sink sink' : SinkView) → Wrote (text_of_answer answer ++ 10 ∷ []) result sink sink'
      → Gives answers (of_line result) was book sink now book sink'
  report_refused answer other applies result sink sink' wrote office stands =
      let did = has_order answer applies office stands in
      by_found (order_of office.tables (id_of sold.sheet sold.place)) refl did.0 (record { tables = did.1; reports = stands.reports })
    where
      by_found : (found : Option Order) → order_of office.tables (id_of sold.sheet sold.place) ≡ found → answer ≡ told_order office.tables found
          → StandsAs now book office → Gave (answers office) (of_line result) office sink now book sink'
      by_found None found told still =
          subst (λ (o : Option Order). Gave (reported sold o office) (of_line result) office sink now book sink') (sym found)
          (gave_text (text_of_answer answer_is.NoOrder) result now book sink sink'
          (subst (λ (a : Answer). Wrote (text_of_answer a ++ 10 ∷ []) result sink sink') told wrote) office still)
      by_found (Some order) found told still = absurd (let both : true ≡ false = ap holds_order (sym told) ∙ other in cc)

  -- the keeper failed when it was asked, or there was no memory
  pub report_failed : (failed : LedgerFault) (sink : SinkView) → Applies (λ t. done next t (command_is.Order (id_of sold.sheet sold.place))) (Err failed) was now
      → Gives answers (Err (fault_of failed)) was book sink now book sink
  report_failed ledger.Memory sink applies office stands = gave_unmade answers was now book book sink applies.tables office stands
  report_failed ledger.Keeper sink applies office stands =
      by_found (order_of office.tables (id_of sold.sheet sold.place)) refl (stays applies.tables)
    where
      stays : (now.tables ≡ was.tables) ⊎ (now.tables ≡ option_map (λ (t : Tables). t) was.tables) → now.tables ≡ Some office.tables
      stays (inl same) = same ∙ stands.tables
      stays (inr same) = same ∙ ap (option_map (λ (t : Tables). t)) stands.tables

      by_found : (found : Option Order) → order_of office.tables (id_of sold.sheet sold.place) ≡ found → now.tables ≡ Some office.tables
          → Gave (answers office) (Err fault.Keep) office sink now book sink
      by_found None found still =
          subst (λ (o : Option Order). Gave (reported sold o office) (Err fault.Keep) office sink now book sink) (sym found)
          (gave_doubt record { text = text_of_answer answer_is.NoOrder; office = office } office now book sink (inl still))
      by_found (Some order) found still =
          subst (λ (o : Option Order). Gave (reported sold o office) (Err fault.Keep) office sink now book sink) (sym found)
          (gave_doubt (kept sold office) office now book sink (inl still))
