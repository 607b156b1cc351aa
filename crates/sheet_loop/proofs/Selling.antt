-- The payments for the tokens of a sheet, one after another.
use Rattle.std.proofs.Common.{◌≡◌, ℕ, suc, ◌+◌, ◌-◌, ◌<◌, ◌≤◌, Bool, true, false, List, [], ◌∷◌, ◌++◌, Result, Ok, Err, if◌then◌else◌, refl, sym, ap, ◌∙◌, subst, arith, append-nil, append_assoc, cond}
use Rattle.paygo_spec.specs.Streams.{SinkView}
use Rattle.ledger_spec.specs.declared.Answer.{Answer}
use Rattle.ledger_spec.specs.declared.Command.{Command}
use Rattle.ledger_spec.specs.declared.LedgerFault.{LedgerFault}
use Rattle.ledger_spec.specs.declared.LedgerFault.TheVariants as ledger
use Rattle.ledger_spec.specs.AnswerText.{text_of_answer}
use Rattle.ledger_spec.specs.Applied.{Applies}
use Rattle.ledger_spec.specs.Keeper.{KeeperView}
use Rattle.ledger_spec.specs.Ledger.{done}
use Rattle.paygo_ports.specs.declared.sink.WriteFault.{WriteFault}
use Rattle.line_loop.specs.declared.handler.LineFault.{LineFault}
use Rattle.line_loop.specs.Handling.{of_line}
use Rattle.line_output.specs.Written.{Wrote}
use Rattle.bench_run.proofs.Answering.{applied_ok, either_way}
use Rattle.sheet_book.specs.declared.book.Book.{Book}
use Rattle.sheet_text.specs.declared.asks.Sheet.{Sheet}
use Rattle.sheet_loop.specs.Office.{Office, Answered, behind, holds_order, payment, payments, served}
use Rattle.sheet_loop.specs.Served.{StandsAs, GaveAll, Gave, Gives, fault_of}
use Rattle.sheet_loop.proofs.Giving.{all_given, gave_front, gave_more, none_given, gave_one, gave_doubt, gave_unmade, behind-append}

module _ (next : List ℕ → ℕ → ℕ) (command : Command) (was now : KeeperView) (book : Book) where
  -- a command that was answered
  pub served_one : (answer : Answer) (result : Result (Unit {0}) WriteFault) (old new : SinkView)
      → Applies (λ t. done next t command) (Ok answer) was now → Wrote (text_of_answer answer ++ 10 ∷ []) result old new
      → Gives (λ office. served next command office ∷ []) (of_line result) was book old now book new
  served_one answer result old new applies wrote office stands =
      let applied = applied_ok (λ t. done next t command) answer was.tables now.tables office.tables stands.tables applies.tables in
      gave_one (served next command office) result office old now book new (record { tables = applied.1; reports = stands.reports })
      (subst (λ (a : Answer). Wrote (text_of_answer a ++ 10 ∷ []) result old new) applied.0 wrote)

  -- a command that failed
  pub served_none : (failed : LedgerFault) (sink : SinkView) → Applies (λ t. done next t command) (Err failed) was now
      → Gives (λ office. served next command office ∷ []) (Err (fault_of failed)) was book sink now book sink
  served_none ledger.Keeper sink applies office stands =
      gave_doubt (served next command office) office now book sink
      (either_way (λ t. done next t command) was.tables now.tables office.tables stands.tables applies.tables)
  served_none ledger.Memory sink applies office stands =
      gave_unmade (λ office. served next command office ∷ []) was now book book sink applies.tables office stands

  -- whether it was answered by an order
  pub order_served : (answer : Answer) → Applies (λ t. done next t command) (Ok answer) was now → (order : Bool) → order ≡ holds_order answer
      → (office : Office) → StandsAs was book office → order ≡ holds_order (done next office.tables command).answer
  order_served answer applies order is office stands =
      let applied = applied_ok (λ t. done next t command) answer was.tables now.tables office.tables stands.tables applies.tables in
      is ∙ ap holds_order applied.0

-- The payments up to a place were made, and the others of the sheet are still to be made.
pub record PaidTo (next : List ℕ → ℕ → ℕ) (sheet : Sheet) (i : ℕ) (office : Office) (old : SinkView) (keeper : KeeperView)
    (book : Book) (new : SinkView) : Type 0 where
  pub given : List Answered
  pub rest : payments next sheet 1 sheet.tokens office ≡ given ++ payments next sheet (i + 1) (sheet.tokens - i) (behind office given)
  pub gave : GaveAll office given [] old keeper book new

abbrev pub PaysTo : (List ℕ → ℕ → ℕ) → Sheet → ℕ → (keeper : KeeperView) (book : Book) (old : SinkView) → (keeper' : KeeperView)
    (book' : Book) (new : SinkView) → Type 0
PaysTo next sheet i keeper book old keeper' book' new =
    (office : Office) → StandsAs keeper book office → PaidTo next sheet i office old keeper' book' new

all_of : (n : ℕ) → n - 0 ≡ n
all_of n = omega arith

-- none was made yet
pub none_paid : (next : List ℕ → ℕ → ℕ) (sheet : Sheet) (keeper : KeeperView) (book : Book) (sink : SinkView)
    → PaysTo next sheet 0 keeper book sink keeper book sink
none_paid next sheet keeper book sink office stands = record {
  given = [];
  rest = ap (λ n. payments next sheet 1 n office) (sym (all_of sheet.tokens));
  gave = none_given office sink keeper book stands;
}

-- all were made
pub all_paid : (next : List ℕ → ℕ → ℕ) (sheet : Sheet) (i : ℕ) (keeper : KeeperView) (book : Book) (old : SinkView) (keeper' : KeeperView) (book' : Book) (new : SinkView)
    → sheet.tokens ≤ i → PaysTo next sheet i keeper book old keeper' book' new → Gives (payments next sheet 1 sheet.tokens) (Ok tt) keeper book old keeper' book' new
all_paid next sheet i keeper book old keeper' book' new all pays office stands =
    let paid = pays office stands in
    let none : sheet.tokens - i ≡ 0 = omega (arith, all) in
    record {
      given = paid.given;
      left = [];
      split = paid.rest ∙ ap (λ n. paid.given ++ payments next sheet (i + 1) n (behind office paid.given)) none;
      by = paid.gave;
    }

module _ (next : List ℕ → ℕ → ℕ) (sheet : Sheet) (i : ℕ) (keeper : KeeperView) (book : Book) (old : SinkView) (keeper' : KeeperView) (book' : Book) (mid : SinkView)
    (keeper'' : KeeperView) (book'' : Book) (new : SinkView) (more : i < sheet.tokens) (pays : PaysTo next sheet i keeper book old keeper' book' mid) where
  -- the payments from here on
  from_here : (office : Office) → payments next sheet (i + 1) (sheet.tokens - i) office
      ≡ (if holds_order (done next office.tables (payment sheet (i + 1))).answer
      then served next (payment sheet (i + 1)) office ∷ payments next sheet (i + 1 + 1) (sheet.tokens - (i + 1)) (served next (payment sheet (i + 1)) office).office
      else served next (payment sheet (i + 1)) office ∷ [])
  from_here office =
      let one : sheet.tokens - i ≡ suc (sheet.tokens - (i + 1)) = omega (arith, more) in
      ap (λ n. payments next sheet (i + 1) n office) one

  -- what became of one more payment
  module _ (office : Office) (stands : StandsAs keeper book office) where
    abbrev paid : PaidTo next sheet i office old keeper' book' mid
    paid = pays office stands

    abbrev here : Office
    here = behind office paid.given

    abbrev one : Answered
    one = served next (payment sheet (i + 1)) here

    further : (outcome : Result (Unit {0}) LineFault) → Gives (λ o. served next (payment sheet (i + 1)) o ∷ []) outcome keeper' book' mid keeper'' book'' new
        → Gave (paid.given ++ one ∷ []) outcome office old keeper'' book'' new
    further outcome gives =
        gave_more office paid.given old mid new keeper'' paid.gave.leaves.written outcome (one ∷ []) book'' (gives here paid.gave.stands)

    split : (all rest : List Answered) → all ≡ payments next sheet 1 sheet.tokens office → payments next sheet (i + 1) (sheet.tokens - i) here ≡ one ∷ rest
        → all ≡ (paid.given ++ one ∷ []) ++ rest
    split all rest is here_is =
        is ∙ paid.rest ∙ ap (λ l. paid.given ++ l) here_is ∙ sym (append_assoc paid.given (one ∷ []) rest)

  -- it was answered by an order, and the next one may be made
  pub one_paid : Gives (λ o. served next (payment sheet (i + 1)) o ∷ []) (Ok tt) keeper' book' mid keeper'' book'' new
      → ((office : Office) → StandsAs keeper' book' office → true ≡ holds_order (done next office.tables (payment sheet (i + 1))).answer)
      → PaysTo next sheet (i + 1) keeper book old keeper'' book'' new
  one_paid gives order office stands =
      let paid = pays office stands in
      let here = behind office paid.given in
      let one = served next (payment sheet (i + 1)) here in
      let rest = payments next sheet (i + 1 + 1) (sheet.tokens - (i + 1)) one.office in
      let goes_on : payments next sheet (i + 1) (sheet.tokens - i) here ≡ one ∷ rest =
      from_here here ∙ ap (λ b. cond b (one ∷ rest) (one ∷ [])) (sym (order here paid.gave.stands)) in
      let is = split office stands (payments next sheet 1 sheet.tokens office) rest refl goes_on in
      record {
        given = paid.given ++ one ∷ [];
        rest = is ∙ ap (λ (o : Office). (paid.given ++ one ∷ []) ++ payments next sheet (i + 1 + 1) (sheet.tokens - (i + 1)) o)
            (sym (behind-append office paid.given (one ∷ [])));
        gave = all_given (paid.given ++ one ∷ []) office old keeper'' book'' new (further office stands (Ok tt) gives);
      }

  -- it was refused, and the line ends
  pub one_refused : Gives (λ o. served next (payment sheet (i + 1)) o ∷ []) (Ok tt) keeper' book' mid keeper'' book'' new
      → ((office : Office) → StandsAs keeper' book' office → false ≡ holds_order (done next office.tables (payment sheet (i + 1))).answer)
      → Gives (payments next sheet 1 sheet.tokens) (Ok tt) keeper book old keeper'' book'' new
  one_refused gives order office stands =
      let paid = pays office stands in
      let here = behind office paid.given in
      let one = served next (payment sheet (i + 1)) here in
      let rest = payments next sheet (i + 1 + 1) (sheet.tokens - (i + 1)) one.office in
      let ends : payments next sheet (i + 1) (sheet.tokens - i) here ≡ one ∷ [] =
      from_here here ∙ ap (λ b. cond b (one ∷ rest) (one ∷ [])) (sym (order here paid.gave.stands)) in
      let is = split office stands (payments next sheet 1 sheet.tokens office) [] refl ends ∙ append-nil (paid.given ++ one ∷ []) in
      subst (λ (l : List Answered). Gave l (Ok tt) office old keeper'' book'' new) (sym is) (further office stands (Ok tt) gives)

  -- it failed
  module _ (failed : LineFault) (gives : Gives (λ o. served next (payment sheet (i + 1)) o ∷ []) (Err failed) keeper' book' mid keeper'' book'' new)
      (office : Office) (stands : StandsAs keeper book office) where
    with_rest : (rest : List Answered) → payments next sheet (i + 1) (sheet.tokens - i) (here office stands) ≡ one office stands ∷ rest
        → Gave (payments next sheet 1 sheet.tokens office) (Err failed) office old keeper'' book'' new
    with_rest rest is =
        let front = (paid office stands).given ++ one office stands ∷ [] in
        subst (λ (l : List Answered). Gave l (Err failed) office old keeper'' book'' new)
        (sym (split office stands (payments next sheet 1 sheet.tokens office) rest refl is))
        (gave_front front rest failed office old keeper'' book'' new (further office stands (Err failed) gives))

    either : (order : Bool) → holds_order (done next (here office stands).tables (payment sheet (i + 1))).answer ≡ order
        → Gave (payments next sheet 1 sheet.tokens office) (Err failed) office old keeper'' book'' new
    either true is =
        let rest = payments next sheet (i + 1 + 1) (sheet.tokens - (i + 1)) (one office stands).office in
        with_rest rest (from_here (here office stands) ∙ ap (λ b. cond b (one office stands ∷ rest) (one office stands ∷ [])) is)
    either false is =
        let rest = payments next sheet (i + 1 + 1) (sheet.tokens - (i + 1)) (one office stands).office in
        with_rest [] (from_here (here office stands) ∙ ap (λ b. cond b (one office stands ∷ rest) (one office stands ∷ [])) is)

    pub one_failed : Gave (payments next sheet 1 sheet.tokens office) (Err failed) office old keeper'' book'' new
    one_failed = either (holds_order (done next (here office stands).tables (payment sheet (i + 1))).answer) refl
