-- Answers that are given, one after another.
use Rattle.std.proofs.Common.{◌≡◌, ◌⊎◌, inl, inr, ⊎_elim, ℕ, List, [], ◌∷◌, ◌++◌, take, Some, Result, Ok, Err, refl, sym, ap, ◌∙◌, append_assoc, append-nil, subst}
use Rattle.paygo_spec.specs.Streams.{SinkView}
use Rattle.ledger_spec.specs.Keeper.{KeeperView}
use Rattle.paygo_ports.specs.declared.sink.WriteFault.{WriteFault}
use Rattle.line_loop.specs.declared.handler.LineFault.{LineFault}
use Rattle.line_loop.specs.declared.handler.LineFault.TheVariants as fault
use Rattle.line_loop.specs.Handling.{of_line}
use Rattle.line_output.specs.Written.{Wrote}
use Rattle.sheet_book.specs.declared.book.Book.{Book}
use Rattle.sheet_loop.specs.Office.{Office, Answered, says, behind, line_of, text_of}
use Rattle.sheet_loop.specs.Sheets.{LeavesWhole, LeavesCut, LeavesDoubt}
use Rattle.sheet_loop.specs.Served.{StandsAs, GaveAll, GaveBy, Gave, Gives}

-- what stands behind one list of answers after another
pub behind-append : (office : Office) (given more : List Answered) → behind office (given ++ more) ≡ behind (behind office given) more
behind-append office [] more = refl
behind-append office (answer ∷ given) more = behind-append answer.office given more

-- the text of one list of answers after another
pub text-append : (given more : List Answered) → text_of (given ++ more) ≡ text_of given ++ text_of more
text-append [] more = refl
text-append (answer ∷ given) more =
    ap (λ l. line_of answer ++ l) (text-append given more) ∙ sym (append_assoc (line_of answer) (text_of given) (text_of more))

-- what was written behind answers that were written whole
pub written_behind : (before mid new : List ℕ) (given : List Answered) (more : List ℕ) → mid ≡ before ++ text_of given → new ≡ mid ++ more
    → new ≡ before ++ (text_of given ++ more)
written_behind before mid new given more first second =
    second ∙ ap (λ l. l ++ more) first ∙ append_assoc before (text_of given) more

written_more : (before mid new : List ℕ) (given more : List Answered) → mid ≡ before ++ text_of given → new ≡ mid ++ text_of more
    → new ≡ before ++ text_of (given ++ more)
written_more before mid new given more first second =
    written_behind before mid new given (text_of more) first second ∙ ap (λ l. before ++ l) (sym (text-append given more))

module _ (start : Office) (given : List Answered) (old mid new : SinkView) (keeper : KeeperView) (first : mid.written ≡ old.written ++ text_of given) where
  -- answers behind others that were given
  pub whole_more : (more : List Answered) → LeavesWhole (behind start given) more mid keeper new → LeavesWhole start (given ++ more) old keeper new
  whole_more more leaves = record {
    tables = leaves.tables ∙ ap (λ (o : Office). Some o.tables) (sym (behind-append start given more));
    written = written_more old.written mid.written new.written given more first leaves.written;
  }

  pub cut_more : (more left : List Answered) → LeavesCut more left mid keeper new → LeavesCut (given ++ more) left old keeper new
  cut_more more left leaves = record {
    failed = leaves.failed;
    later = leaves.later;
    left_are = leaves.left_are;
    tables = leaves.tables;
    more = leaves.more;
    fewer = leaves.fewer;
    written = written_behind old.written mid.written new.written given (text_of more ++ take leaves.more (line_of leaves.failed)) first leaves.written
        ∙ ap (λ l. old.written ++ l) (sym (append_assoc (text_of given) (text_of more) (take leaves.more (line_of leaves.failed)))
        ∙ ap (λ l. l ++ take leaves.more (line_of leaves.failed)) (sym (text-append given more)));
  }

  pub doubt_more : (more left : List Answered) → LeavesDoubt (behind start given) more left mid keeper new → LeavesDoubt start (given ++ more) left old keeper new
  doubt_more more left leaves = record {
    failed = leaves.failed;
    later = leaves.later;
    left_are = leaves.left_are;
    tables = ⊎_elim
        (λ (same : keeper.tables ≡ Some (behind (behind start given) more).tables). inl (same ∙ ap (λ (o : Office). Some o.tables) (sym (behind-append start given more))))
        (λ (whole : keeper.tables ≡ Some leaves.failed.office.tables). inr whole)
        leaves.tables;
    written = written_more old.written mid.written new.written given more first leaves.written;
  }

  by_more : (outcome : Result (Unit {0}) LineFault) (more left : List Answered) (book : Book) → GaveBy outcome (behind start given) more left mid keeper book new
      → GaveBy outcome start (given ++ more) left old keeper book new
  by_more (Ok done) more left book gave = record {
    all = gave.all;
    stands = subst (λ (o : Office). StandsAs keeper book o) (sym (behind-append start given more)) gave.stands;
    leaves = whole_more more gave.leaves;
  }
  by_more (Err fault.Write) more left book gave = cut_more more left gave
  by_more (Err fault.Keep) more left book gave = doubt_more more left gave
  by_more (Err fault.Memory) more left book gave = whole_more more gave

  -- what became of answers is what became of them behind those that were given
  pub gave_more : (outcome : Result (Unit {0}) LineFault) (answers : List Answered) (book : Book) → Gave answers outcome (behind start given) mid keeper book new
      → Gave (given ++ answers) outcome start old keeper book new
  gave_more outcome answers book gave = record {
    given = given ++ gave.given;
    left = gave.left;
    split = ap (λ l. given ++ l) gave.split ∙ sym (append_assoc given gave.given gave.left);
    by = by_more outcome gave.given gave.left book gave.by;
  }

-- what was given is all there was
pub all_given : (answers : List Answered) (start : Office) (old : SinkView) (keeper : KeeperView) (book : Book) (new : SinkView)
    → Gave answers (Ok tt) start old keeper book new → GaveAll start answers [] old keeper book new
all_given answers start old keeper book new gave =
    let all : answers ≡ gave.given = gave.split ∙ ap (λ l. gave.given ++ l) gave.by.all ∙ append-nil gave.given in
    record {
      all = refl;
      stands = subst (λ (l : List Answered). StandsAs keeper book (behind start l)) (sym all) gave.by.stands;
      leaves = subst (λ (l : List Answered). LeavesWhole start l old keeper new) (sym all) gave.by.leaves;
    }

-- nothing was to be answered
pub none_given : (start : Office) (sink : SinkView) (keeper : KeeperView) (book : Book) → StandsAs keeper book start → GaveAll start [] [] sink keeper book sink
none_given start sink keeper book stands =
    record { all = refl; stands = stands; leaves = record { tables = stands.tables; written = sym (append-nil sink.written) } }

pub gave_none : (start : Office) (sink : SinkView) (keeper : KeeperView) (book : Book) → StandsAs keeper book start → Gave [] (Ok tt) start sink keeper book sink
gave_none start sink keeper book stands = record {
  given = [];
  left = [];
  split = refl;
  by = none_given start sink keeper book stands;
}

-- one answer, whose command was done, is written
pub gave_one : (answer : Answered) (result : Result (Unit {0}) WriteFault) (start : Office) (old : SinkView) (keeper : KeeperView) (book : Book) (new : SinkView)
    → StandsAs keeper book answer.office → Wrote (line_of answer) result old new → Gave (answer ∷ []) (of_line result) start old keeper book new
gave_one answer (Ok done) start old keeper book new stands wrote = record {
  given = answer ∷ [];
  left = [];
  split = refl;
  by = record {
    all = refl;
    stands = stands;
    leaves = record { tables = stands.tables; written = wrote ∙ ap (λ l. old.written ++ l) (sym (append-nil (line_of answer))) };
  };
}
gave_one answer (Err failed) start old keeper book new stands wrote = record {
  given = [];
  left = answer ∷ [];
  split = refl;
  by = record {
    failed = answer;
    later = [];
    left_are = refl;
    tables = stands.tables;
    more = wrote.0;
    fewer = wrote.1;
    written = wrote.2;
  };
}

-- a text is said
pub gave_text : (text : List ℕ) (result : Result (Unit {0}) WriteFault) (keeper : KeeperView) (book : Book) (old new : SinkView)
    → Wrote (text ++ 10 ∷ []) result old new → Gives (says text) (of_line result) keeper book old keeper book new
gave_text text result keeper book old new wrote office stands =
    gave_one record { text = text; office = office } result office old keeper book new stands wrote

-- there was no memory for an answer, and nothing was done
pub gave_unmade : (answers : Office → List Answered) (was keeper : KeeperView) (book book' : Book) (sink : SinkView) → keeper.tables ≡ was.tables
    → Gives answers (Err fault.Memory) was book sink keeper book' sink
gave_unmade answers was keeper book book' sink same office stands = record {
  given = [];
  left = answers office;
  split = refl;
  by = record { tables = same ∙ stands.tables; written = sym (append-nil sink.written) };
}

-- the keeper failed at an answer
pub gave_doubt : (answer : Answered) (start : Office) (keeper : KeeperView) (book : Book) (sink : SinkView)
    → (keeper.tables ≡ Some start.tables) ⊎ (keeper.tables ≡ Some answer.office.tables) → Gave (answer ∷ []) (Err fault.Keep) start sink keeper book sink
gave_doubt answer start keeper book sink either = record {
  given = [];
  left = answer ∷ [];
  split = refl;
  by = record {
    failed = answer;
    later = [];
    left_are = refl;
    tables = either;
    written = sym (append-nil sink.written);
  };
}

-- answers that aren't come to leave nothing else open behind a fault
pub gave_front : (answers more : List Answered) (failed : LineFault) (start : Office) (old : SinkView) (keeper : KeeperView) (book : Book) (new : SinkView)
    → Gave answers (Err failed) start old keeper book new → Gave (answers ++ more) (Err failed) start old keeper book new
gave_front answers more failed start old keeper book new gave = record {
  given = gave.given;
  left = gave.left ++ more;
  split = ap (λ l. l ++ more) gave.split ∙ append_assoc gave.given gave.left more;
  by = front failed gave.by;
}
  where
    front : (failed : LineFault) → GaveBy (Err failed) start gave.given gave.left old keeper book new → GaveBy (Err failed) start gave.given (gave.left ++ more) old keeper book new
    front fault.Write leaves = record {
      failed = leaves.failed;
      later = leaves.later ++ more;
      left_are = ap (λ l. l ++ more) leaves.left_are;
      tables = leaves.tables;
      more = leaves.more;
      fewer = leaves.fewer;
      written = leaves.written;
    }
    front fault.Keep leaves = record {
      failed = leaves.failed;
      later = leaves.later ++ more;
      left_are = ap (λ l. l ++ more) leaves.left_are;
      tables = leaves.tables;
      written = leaves.written;
    }
    front fault.Memory leaves = leaves
