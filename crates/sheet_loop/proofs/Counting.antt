-- What the last word counts: whatever order the reports come in, and each token once.
use Rattle.std.proofs.Common.{◌≡◌, ◌⊎◌, inl, inr, ⊎_elim, ℕ, zero, suc, ◌+◌, ◌≤◌, Bool, true, false, List, [], ◌∷◌, ◌++◌, length, Option, Some, None, Result, Ok, Err, if◌then◌else◌, refl, sym, ap, ◌∙◌, subst, arith, cond}
use Rattle.std.specs.Prelude.{◌==◌, nat_lt, IsSome, is_some}
use Rattle.std.proofs.lemmas.Bool.Decides.{nat_tests}
use Rattle.ledger_spec.specs.declared.Answer.{Answer}
use Rattle.ledger_spec.specs.declared.Ask.{Ask as Bought}
use Rattle.ledger_spec.specs.declared.Ask.TheVariants as bought
use Rattle.ledger_spec.specs.declared.Issue.{Issue}
use Rattle.ledger_spec.specs.declared.Order.{Order}
use Rattle.ledger_spec.specs.declared.Row.{Row}
use Rattle.ledger_spec.specs.declared.TextFault.{TextFault}
use Rattle.ledger_spec.specs.Issuing.{pick}
use Rattle.ledger_spec.specs.Ledger.{done, asked, asked_of, issued, issued_at, offered}
use Rattle.ledger_spec.specs.Tables.{Tables, order_of, order_in, has_id, row_of}
use Rattle.run_spec.specs.Meaning.{trimmed, is_ledger_text}
use Rattle.sheet_book.specs.declared.places.Key.{Key}
use Rattle.sheet_book.specs.declared.sales.Totals.{Totals}
use Rattle.sheet_book.specs.Reports.{Report, IsAmong, IsReported, keys_of, report_of, totals_of}
use Rattle.sheet_book.proofs.Counting.{each_once, totals_same}
use Rattle.sheet_text.specs.declared.asks.Ask.{Ask}
use Rattle.sheet_text.specs.declared.asks.Ask.TheVariants as ask_is
use Rattle.sheet_text.specs.declared.asks.Sheet.{Sheet}
use Rattle.sheet_text.specs.declared.asks.Sold.{Sold}
use Rattle.sheet_text.specs.Asks.{ask_in}
use Rattle.sheet_text.specs.Ids.{id_of}
use Rattle.sheet_text.specs.Texts.{sales_text}
use Rattle.sheet_text.proofs.IdLemmas.{id_tells}
use Rattle.sheet_loop.specs.Office.{Office, Answered, answers_of_line, answers_of_reading, answers_of_text, answers_to, behind, holds_order, payment, payments, reported, served}
use Rattle.sheet_loop.specs.Sheets.{opened}
use Rattle.sheet_loop.specs.Counting.{CountsTokens, IsIn, Reports, ReportSales, SameLines, last_behind}
use Rattle.sheet_loop.proofs.Giving.{behind-append}

module _ (next : List ℕ → ℕ → ℕ) where
  -- what stands behind some lines and others
  behind_lines : (first more : List (List ℕ)) (office : Office)
      → behind office (answers_to next (first ++ more) office) ≡ behind (behind office (answers_to next first office)) (answers_to next more (behind office (answers_to next first office)))
  behind_lines [] more office = refl
  behind_lines (line ∷ first) more office =
      let own = answers_of_line next line office in
      let here = behind office own in
      behind-append office own (answers_to next (first ++ more) here) ∙ behind_lines first more here
      ∙ ap (λ (o : Office). behind o (answers_to next more o)) (sym (behind-append office own (answers_to next first here)))

  -- the answer to a line that reports a sale
  reports_line : (line : List ℕ) (sold : Sold) (office : Office) → Reports line sold
      → answers_of_line next line office ≡ reported sold (order_of office.tables (id_of sold.sheet sold.place)) office
  reports_line line sold office is =
      let short : length line ≤ 4096 = is.short in
      let test : nat_lt 4096 (length line) ≡ false = grind (arith, nat_tests) in
      rw test (by_text (trimmed line) is.begins is.asks)
    where
      by_text : (text : List ℕ) → is_ledger_text text ≡ true → ask_in text ≡ Ok (ask_is.Sold sold)
          → answers_of_text next text office ≡ reported sold (order_of office.tables (id_of sold.sheet sold.place)) office
      by_text [] begins asks = cc
      by_text (c ∷ cs) begins asks = rw begins (ap (λ r. answers_of_reading next r office) asks)

  -- A line adds this report, over these tables.
  abbrev Adds : Tables → List ℕ → Report → Type 0
  Adds tables line report =
      (sold : Sold) × Reports line sold × IsSome (order_of tables (id_of sold.sheet sold.place))
      × (report ≡ report_of sold.sheet sold.place sold.sale sold.money)

  -- the reports behind one line
  record AddsOne (line : List ℕ) (office now : Office) : Type 0 where
    tables : now.tables ≡ office.tables
    only : (report : Report) → IsAmong report now.reports → Adds office.tables line report ⊎ IsAmong report office.reports
    added : (report : Report) → Adds office.tables line report → IsAmong report now.reports
    still : (report : Report) → IsAmong report office.reports → IsAmong report now.reports

  same_sold : (line : List ℕ) (a b : Sold) → Reports line a → Reports line b → a ≡ b
  same_sold line a b one two = let both : Ok (ask_is.Sold a) ≡ Ok (ask_is.Sold b) = sym one.asks ∙ two.asks in cc

  adds_by : (line : List ℕ) (sold : Sold) (office : Office) → Reports line sold → (found : Option Order)
      → order_of office.tables (id_of sold.sheet sold.place) ≡ found → AddsOne line office (behind office (reported sold found office))
  adds_by line sold office is None found = record {
    tables = refl;
    only = λ report among. inr among;
    added = λ report adds. absurd (let other = same_sold line adds.0 sold adds.1 is in
        let none : is_some (order_of office.tables (id_of sold.sheet sold.place)) ≡ true = subst (λ (s : Sold). IsSome (order_of office.tables (id_of s.sheet s.place))) other adds.2 in
        let not : is_some (order_of office.tables (id_of sold.sheet sold.place)) ≡ false = ap is_some found in cc);
    still = λ report among. among;
  }
  adds_by line sold office is (Some order) found = record {
    tables = refl;
    only = λ report among. ⊎_elim
        (λ (new : report ≡ report_of sold.sheet sold.place sold.sale sold.money). inl (sold, is, ap is_some found, new))
        (λ (old : IsAmong report office.reports). inr old)
        among;
    added = λ report adds. inl (adds.3 ∙ ap (λ (s : Sold). report_of s.sheet s.place s.sale s.money) (same_sold line adds.0 sold adds.1 is));
    still = λ report among. inr among;
  }

  adds_one : (line : List ℕ) (sold : Sold) (office : Office) → Reports line sold → AddsOne line office (behind office (answers_of_line next line office))
  adds_one line sold office is =
      subst (λ (l : List Answered). AddsOne line office (behind office l)) (sym (reports_line line sold office is))
      (adds_by line sold office is (order_of office.tables (id_of sold.sheet sold.place)) refl)

  -- One of these lines adds this report.
  abbrev AddsAmong : Tables → List (List ℕ) → Report → Type 0
  AddsAmong tables lines report = (line : List ℕ) × IsIn line lines × Adds tables line report

  -- the reports behind lines that report sales
  record AddsAll (lines : List (List ℕ)) (office now : Office) : Type 0 where
    tables : now.tables ≡ office.tables
    only : (report : Report) → IsAmong report now.reports → AddsAmong office.tables lines report ⊎ IsAmong report office.reports
    added : (report : Report) → AddsAmong office.tables lines report → IsAmong report now.reports
    still : (report : Report) → IsAmong report office.reports → IsAmong report now.reports

  adds_then : (line : List ℕ) (lines : List (List ℕ)) (office mid now : Office) → AddsOne line office mid → AddsAll lines mid now → AddsAll (line ∷ lines) office now
  adds_then line lines office mid now one more = record {
    tables = more.tables ∙ one.tables;
    only = λ report among. ⊎_elim
        (λ (later : AddsAmong mid.tables lines report). inl (later.0, inr later.1, subst (λ (t : Tables). Adds t later.0 report) one.tables later.2))
        (λ (before : IsAmong report mid.reports). ⊎_elim
        (λ (own : Adds office.tables line report). inl (line, inl refl, own))
        (λ (old : IsAmong report office.reports). inr old)
        (one.only report before))
        (more.only report among);
    added = λ report adds. ⊎_elim
        (λ (first : adds.0 ≡ line). more.still report (one.added report (subst (λ (l : List ℕ). Adds office.tables l report) first adds.2)))
        (λ (later : IsIn adds.0 lines). more.added report (adds.0, later, subst (λ (t : Tables). Adds t adds.0 report) (sym one.tables) adds.2))
        adds.1;
    still = λ report among. more.still report (one.still report among);
  }

  adds_all : (lines : List (List ℕ)) (office : Office) → ReportSales lines → AddsAll lines office (behind office (answers_to next lines office))
  adds_all [] office all = record {
    tables = refl;
    only = λ report among. inr among;
    added = λ report adds. absurd adds.1;
    still = λ report among. among;
  }
  adds_all (line ∷ lines) office all =
      let own = answers_of_line next line office in
      let here = behind office own in
      subst (λ (o : Office). AddsAll (line ∷ lines) office o) (sym (behind-append office own (answers_to next lines here)))
      (adds_then line lines office here (behind here (answers_to next lines here)) (adds_one line all.0.0 office all.0.1) (adds_all lines here all.1))

  half : (xs ys : List (List ℕ)) (office nx ny : Office) → ((line : List ℕ) → IsIn line xs → IsIn line ys) → AddsAll xs office nx → AddsAll ys office ny
      → (report : Report) → IsAmong report nx.reports → IsAmong report ny.reports
  half xs ys office nx ny goes x y report among =
      ⊎_elim
      (λ (adds : AddsAmong office.tables xs report). y.added report (adds.0, goes adds.0 adds.1, adds.2))
      (λ (old : IsAmong report office.reports). y.still report old)
      (x.only report among)

  -- two inputs that report the same sales have the same last word
  pub any_order : (office : Office) (first xs ys : List (List ℕ)) → ReportSales xs → ReportSales ys → SameLines xs ys
      → last_behind next (first ++ xs) office ≡ last_behind next (first ++ ys) office
  any_order office first xs ys all_x all_y same =
      let here = behind office (answers_to next first office) in
      let nx = behind here (answers_to next xs here) in
      let ny = behind here (answers_to next ys here) in
      let x = adds_all xs here all_x in
      let y = adds_all ys here all_y in
      let sums : totals_of nx.reports ≡ totals_of ny.reports =
      totals_same nx.reports ny.reports (λ report. (half xs ys here nx ny (λ line. (same line).0) x y report, half ys xs here ny nx (λ line. (same line).1) y x report)) in
      ap (λ (o : Office). sales_text (totals_of o.reports).tokens (totals_of o.reports).money (totals_of o.reports).disputes) (behind_lines first xs office)
      ∙ ap (λ (t : Totals). sales_text t.tokens t.money t.disputes) sums
      ∙ sym (ap (λ (o : Office). sales_text (totals_of o.reports).tokens (totals_of o.reports).money (totals_of o.reports).disputes) (behind_lines first ys office))

  -- an order stays where others are added
  order_stays : (id : List ℕ) (order : Order) (orders : List Order) → IsSome (order_in orders id) → IsSome (order_in (order ∷ orders) id)
  order_stays id order orders is =
      elim (has_id id order) as (λ b. is_some (cond b (Some order) (order_in orders id)) ≡ true) [
        | true ↦ refl
        | false ↦ is
      ]

  issued_at_keeps : (t : Tables) (id : List ℕ) (ask : Bought) (issue : Issue) (count : Option ℕ) (other : List ℕ)
      → IsSome (order_of t other) → IsSome (order_of (issued_at next t id ask issue count).tables other)
  issued_at_keeps t id ask issue None other is = is
  issued_at_keeps t id ask issue (Some count) other is = order_stays other _ t.orders is

  issued_keeps : (t : Tables) (id : List ℕ) (ask : Bought) (what : Result Issue Answer) (other : List ℕ)
      → IsSome (order_of t other) → IsSome (order_of (issued next t id ask what).tables other)
  issued_keeps t id ask (Err refusal) other is = is
  issued_keeps t id ask (Ok issue) other is =
      issued_at_keeps t id ask issue (pick (next issue.row.key) issue.row.start issue.row.limit issue.row.last issue.kind issue.value) other is

  asked_of_keeps : (t : Tables) (id serial : List ℕ) (ask : Bought) (row : Row) (found : Option Order) (other : List ℕ)
      → IsSome (order_of t other) → IsSome (order_of (asked_of next t id serial ask row found).tables other)
  asked_of_keeps t id serial ask row (Some order) other is = is
  asked_of_keeps t id serial ask row None other is = issued_keeps t id ask (offered t row ask) other is

  asked_keeps : (t : Tables) (id serial : List ℕ) (ask : Bought) (row : Option Row) (other : List ℕ)
      → IsSome (order_of t other) → IsSome (order_of (asked next t id serial ask row).tables other)
  asked_keeps t id serial ask None other is = is
  asked_keeps t id serial ask (Some row) other is = asked_of_keeps t id serial ask row (order_of t id) other is

  -- Each place of which a sale was reported has an order.
  abbrev HasOrders : Office → Type 0
  HasOrders office = (place : Key) → IsReported place office.reports → IsSome (order_of office.tables (id_of place.sheet place.place))

  served_has : (sheet : Sheet) (place : ℕ) (office : Office) → HasOrders office → HasOrders (served next (payment sheet place) office).office
  served_has sheet place office has key is = asked_keeps office.tables (id_of sheet.sheet place) sheet.serial (bought.Pay sheet.amount) (row_of office.tables sheet.serial) (id_of key.sheet key.place) (has key is)

  payments_have : (sheet : Sheet) (place left : ℕ) (office : Office) → HasOrders office → HasOrders (behind office (payments next sheet place left office))
  payments_have sheet place zero office has = has
  payments_have sheet place (suc left) office has =
      let one = served next (payment sheet place) office in
      let first = served_has sheet place office has in
      by_order (holds_order (done next office.tables (payment sheet place)).answer) one first (payments_have sheet (place + 1) left one.office first)
    where
      by_order : (order : Bool) (one : Answered) → HasOrders one.office → HasOrders (behind one.office (payments next sheet (place + 1) left one.office))
          → HasOrders (behind office (if order then one ∷ payments next sheet (place + 1) left one.office else one ∷ []))
      by_order true one first more = more
      by_order false one first more = first

  reported_has : (sold : Sold) (found : Option Order) (office : Office) → order_of office.tables (id_of sold.sheet sold.place) ≡ found → HasOrders office
      → HasOrders (behind office (reported sold found office))
  reported_has sold None office found has place is = has place is
  reported_has sold (Some order) office found has place (sale, among) =
      ⊎_elim
      (λ (new : record { key = place; sale = sale } ≡ report_of sold.sheet sold.place sold.sale sold.money).
      let same : place ≡ record { sheet = sold.sheet; place = sold.place } = ap (λ (r : Report). r.key) new in
      subst (λ (k : Key). IsSome (order_of office.tables (id_of k.sheet k.place))) (sym same) (ap is_some found))
      (λ (old : IsAmong (record { key = place; sale = sale }) office.reports). has place (sale, old))
      among

  reading_has : (reading : Result Ask TextFault) (office : Office) → HasOrders office → HasOrders (behind office (answers_of_reading next reading office))
  reading_has (Err fault) office has = has
  reading_has (Ok (ask_is.Sheet sheet)) office has = payments_have sheet 1 sheet.tokens office has
  reading_has (Ok (ask_is.Sold sold)) office has = reported_has sold (order_of office.tables (id_of sold.sheet sold.place)) office refl has

  if_has : (test : Bool) (a b : List Answered) (office : Office) → HasOrders (behind office a) → HasOrders (behind office b) → HasOrders (behind office (if test then a else b))
  if_has true a b office first second = first
  if_has false a b office first second = second

  text_has : (text : List ℕ) (office : Office) → HasOrders office → HasOrders (behind office (answers_of_text next text office))
  text_has [] office has = has
  text_has (c ∷ cs) office has = if_has (c == 123) (answers_of_reading next (ask_in (c ∷ cs)) office) _ office (reading_has (ask_in (c ∷ cs)) office has) has

  line_has : (line : List ℕ) (office : Office) → HasOrders office → HasOrders (behind office (answers_of_line next line office))
  line_has line office has = if_has (nat_lt 4096 (length line)) _ (answers_of_text next (trimmed line) office) office has (text_has (trimmed line) office has)

  lines_have : (lines : List (List ℕ)) (office : Office) → HasOrders office → HasOrders (behind office (answers_to next lines office))
  lines_have [] office has = has
  lines_have (line ∷ lines) office has =
      let own = answers_of_line next line office in
      let here = behind office own in
      subst HasOrders (sym (behind-append office own (answers_to next lines here))) (lines_have lines here (line_has line office has))

  place_is : (a b : Key) → id_of a.sheet a.place ≡ id_of b.sheet b.place → a ≡ b
  place_is a b is =
      let same = id_tells a.sheet b.sheet a.place b.place is in
      ap (λ x. record { sheet = x; place = a.place }) same.0 ∙ ap (λ x. record { sheet = b.sheet; place = x }) same.1

  -- no token is counted twice
  pub counts_tokens : (tables : Tables) (lines : List (List ℕ)) → CountsTokens (behind (opened tables) (answers_to next lines (opened tables)))
  counts_tokens tables lines =
      let office = behind (opened tables) (answers_to next lines (opened tables)) in
      let once = each_once office.reports in
      record {
        places = keys_of office.reports;
        once = once;
        counted = refl;
        sold = λ place has. lines_have lines (opened tables) (λ key none. absurd none.1) place ((once.reported place).0 has);
        differ = place_is;
      }
