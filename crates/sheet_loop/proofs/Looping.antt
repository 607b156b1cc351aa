-- A whole run over the lines of agents: all lines that were handled are answered, and what became of the one that failed.
use Rattle.std.proofs.Common.{◌≡◌, inl, inr, ℕ, true, List, [], ◌∷◌, ◌++◌, Result, Ok, Err, refl, sym, ap, ◌∙◌, subst, append-nil}
use Rattle.paygo_spec.specs.Streams.{SourceView, SinkView}
use Rattle.run_spec.specs.declared.Status.{Status}
use Rattle.run_spec.specs.declared.Status.TheVariants as status
use Rattle.run_spec.specs.Lines.{whole_lines, all_lines}
use Rattle.paygo_ports.specs.declared.sink.WriteFault.{WriteFault}
use Rattle.line_loop.specs.declared.handler.LineFault.{LineFault}
use Rattle.line_loop.specs.declared.handler.LineFault.TheVariants as fault
use Rattle.line_loop.specs.Handling.{Desk, Handled, FailsAt, Concludes, EndsWith, Loops}
use Rattle.line_loop.specs.Outside.{outside}
use Rattle.line_output.specs.Written.{Wrote}
use Rattle.sheet_book.specs.declared.book.Book.{Book}
use Rattle.sheet_book.specs.Books.{StandsFor}
use Rattle.sheet_loop.specs.Office.{Office, Answered, answers_of_line, answers_to, answers_with_last, behind, last_word, line_of}
use Rattle.sheet_loop.specs.Sheets.{opened, BreaksOff, LeavesWhole, DidSheets, RunsSheets}
use Rattle.sheet_loop.specs.Served.{StandsAs, GaveAll, Gave, Gives}
use Rattle.sheet_loop.proofs.Giving.{all_given, cut_more, doubt_more, none_given, gave_more, whole_more, written_behind}

module _ {H : Type 0} (next : List ℕ → ℕ → ℕ) (book : H → Book) where
  -- what becomes of a line
  abbrev pub gives_line : List ℕ → Result (Unit {0}) LineFault → Desk H → Desk H → Type 0
  gives_line line outcome old new =
      Gives (answers_of_line next line) outcome old.keeper (book old.handler) old.sink new.keeper (book new.handler) new.sink

  -- what is said at the end
  abbrev pub says_last : H → Result (Unit {0}) WriteFault → SinkView → SinkView → Type 0
  says_last handler outcome old new = (office : Office) → StandsFor (book handler) office.reports → Wrote (line_of (last_word office)) outcome old new

  -- all lines that were handled are answered
  all_answered : (lines : List (List ℕ)) (first new : Desk H) (start : Office) → StandsAs first.keeper (book first.handler) start
      → Handled gives_line lines first new → GaveAll start (answers_to next lines start) [] first.sink new.keeper (book new.handler) new.sink
  all_answered [] first new start stands same =
      subst (λ (d : Desk H). GaveAll start [] [] first.sink d.keeper (book d.handler) d.sink) (sym same)
      (none_given start first.sink first.keeper (book first.handler) stands)
  all_answered (line ∷ lines) first new start stands (mid, one, rest) =
      let own = answers_of_line next line start in
      let here = all_given own start first.sink mid.keeper (book mid.handler) mid.sink (one start stands) in
      let more = all_answered lines mid new (behind start own) here.stands rest in
      all_given (own ++ answers_to next lines (behind start own)) start first.sink new.keeper (book new.handler) new.sink
      (gave_more start own first.sink mid.sink new.sink new.keeper here.leaves.written (Ok tt) (answers_to next lines (behind start own)) (book new.handler)
      record {
        given = answers_to next lines (behind start own);
        left = [];
        split = sym (append-nil (answers_to next lines (behind start own)));
        by = more;
      })

  module _ (was now : SourceView) (first new : Desk H) (start : Office) (stands : StandsAs first.keeper (book first.handler) start)
      (taken : List ℕ) (handed : now.given ≡ was.given ++ taken) where
    abbrev did : Status → Type 0
    did result = DidSheets next result start (outside was first.sink first.keeper first.flash) (outside now new.sink new.keeper new.flash)

    -- no line failed, and no last word was said
    whole : (lines : List (List ℕ)) → Handled gives_line lines first new → LeavesWhole start (answers_to next lines start) first.sink new.keeper new.sink
    whole lines handled = (all_answered lines first new start stands handled).leaves

    module _ (failed : LineFault) (fails : FailsAt gives_line failed now.ended taken first new) where
      abbrev earlier : List Answered
      earlier = answers_to next fails.earlier start

      so_far : GaveAll start earlier [] first.sink fails.mid.keeper (book fails.mid.handler) fails.mid.sink
      so_far = all_answered fails.earlier first fails.mid start stands fails.handled

      -- what became of the line that failed
      own : Gave (answers_of_line next fails.line (behind start earlier)) (Err failed) (behind start earlier) fails.mid.sink new.keeper (book new.handler) new.sink
      own = fails.fails (behind start earlier) so_far.stands

      breaks_off : BreaksOff next now.ended taken start (earlier ++ own.given) own.left
      breaks_off = record {
        earlier = fails.earlier;
        line = fails.line;
        place = fails.place;
        own = own.given;
        given_are = refl;
        line_has = own.split;
      }

    line_cut : FailsAt gives_line fault.Write now.ended taken first new → did status.Write
    line_cut fails = record {
      taken = taken;
      handed = handed;
      given = earlier fault.Write fails ++ (own fault.Write fails).given;
      left = (own fault.Write fails).left;
      ends = inl (breaks_off fault.Write fails);
      leaves = cut_more start (earlier fault.Write fails) first.sink fails.mid.sink new.sink new.keeper (so_far fault.Write fails).leaves.written
          (own fault.Write fails).given (own fault.Write fails).left (own fault.Write fails).by;
    }

    line_doubted : FailsAt gives_line fault.Keep now.ended taken first new → did status.Keep
    line_doubted fails = record {
      taken = taken;
      handed = handed;
      given = earlier fault.Keep fails ++ (own fault.Keep fails).given;
      left = (own fault.Keep fails).left;
      ends = breaks_off fault.Keep fails;
      leaves = doubt_more start (earlier fault.Keep fails) first.sink fails.mid.sink new.sink new.keeper (so_far fault.Keep fails).leaves.written
          (own fault.Keep fails).given (own fault.Keep fails).left (own fault.Keep fails).by;
    }

    line_unmade : FailsAt gives_line fault.Memory now.ended taken first new → did status.Memory
    line_unmade fails = record {
      taken = taken;
      handed = handed;
      given = earlier fault.Memory fails ++ (own fault.Memory fails).given;
      left = (own fault.Memory fails).left;
      ends = breaks_off fault.Memory fails;
      leaves = whole_more start (earlier fault.Memory fails) first.sink fails.mid.sink new.sink new.keeper (so_far fault.Memory fails).leaves.written
          (own fault.Memory fails).given (own fault.Memory fails).by;
    }

    -- the last word behind all lines, written or cut
    module _ (outcome : Result (Unit {0}) WriteFault) (ends : Concludes gives_line says_last outcome taken first new) where
      abbrev lines : List Answered
      lines = answers_to next (all_lines taken) start

      abbrev last : Answered
      last = last_word (behind start lines)

      answered : GaveAll start lines [] first.sink ends.mid.keeper (book ends.mid.handler) ends.mid.sink
      answered = all_answered (all_lines taken) first ends.mid start stands ends.handled

      said : Wrote (line_of last) outcome ends.mid.sink new.sink
      said = ends.last (behind start lines) answered.stands.reports

      keeper_is : new.keeper ≡ ends.mid.keeper
      keeper_is = ap (λ (d : Desk H). d.keeper) ends.same

    concluded : (ends : Concludes gives_line says_last (Ok tt) taken first new) → did status.Ok
    concluded ends = record {
      taken = taken;
      handed = handed;
      given = answers_with_last next (all_lines taken) start;
      left = [];
      ends = (refl, refl);
      leaves = whole_more start (lines (Ok tt) ends) first.sink ends.mid.sink new.sink new.keeper (answered (Ok tt) ends).leaves.written
          (last (Ok tt) ends ∷ [])
          record {
            tables = ap (λ k. k.tables) (keeper_is (Ok tt) ends) ∙ (answered (Ok tt) ends).stands.tables;
            written = said (Ok tt) ends ∙ ap (λ l. ends.mid.sink.written ++ l) (sym (append-nil (line_of (last (Ok tt) ends))));
          };
    }

    last_cut : (failed : WriteFault) → now.ended ≡ true → (ends : Concludes gives_line says_last (Err failed) taken first new) → did status.Write
    last_cut failed told ends = record {
      taken = taken;
      handed = handed;
      given = lines (Err failed) ends;
      left = last (Err failed) ends ∷ [];
      ends = inr (record { told = told; given_are = refl; left_is = refl });
      leaves = record {
        failed = last (Err failed) ends;
        later = [];
        left_are = refl;
        tables = ap (λ k. k.tables) (keeper_is (Err failed) ends) ∙ (answered (Err failed) ends).stands.tables;
        more = (said (Err failed) ends).0;
        fewer = (said (Err failed) ends).1;
        written = written_behind first.sink.written ends.mid.sink.written new.sink.written (lines (Err failed) ends) _
            (answered (Err failed) ends).leaves.written (said (Err failed) ends).2;
      };
    }

  -- what a run did
  pub did_sheets : (result : Status) (was now : SourceView) (first new : Desk H) (start : Office) → StandsAs first.keeper (book first.handler) start
      → Loops gives_line says_last result was now first new
      → DidSheets next result start (outside was first.sink first.keeper first.flash) (outside now new.sink new.keeper new.flash)
  did_sheets status.Ok was now first new start stands loops = concluded was now first new start stands loops.taken loops.given loops.ends
  did_sheets status.Usage was now first new start stands loops = absurd loops.ends
  did_sheets status.Read was now first new start stands loops = record {
    taken = loops.taken;
    handed = loops.given;
    given = answers_to next (whole_lines loops.taken) start;
    left = [];
    ends = (refl, refl);
    leaves = whole was now first new start stands loops.taken loops.given (whole_lines loops.taken) loops.ends;
  }
  did_sheets status.Long was now first new start stands loops = record {
    taken = loops.taken;
    handed = loops.given;
    given = answers_to next (whole_lines loops.taken) start;
    left = [];
    ends = (refl, refl);
    leaves = whole was now first new start stands loops.taken loops.given (whole_lines loops.taken) loops.ends;
  }
  did_sheets status.Write was now first new start stands loops = cut_or_not loops.ends
    where
      cut_or_not : EndsWith gives_line says_last status.Write now.ended loops.taken first new
          → DidSheets next status.Write start (outside was first.sink first.keeper first.flash) (outside now new.sink new.keeper new.flash)
      cut_or_not (inl fails) = line_cut was now first new start stands loops.taken loops.given fails
      cut_or_not (inr (told, (failed, ends))) = last_cut was now first new start stands loops.taken loops.given failed told ends
  did_sheets status.Keep was now first new start stands loops = line_doubted was now first new start stands loops.taken loops.given loops.ends
  did_sheets status.Memory was now first new start stands loops = line_unmade was now first new start stands loops.taken loops.given loops.ends

  -- from whatever tables the keeper tells, and a book without a report
  pub runs_sheets : (result : Status) (was now : SourceView) (first new : Desk H) → StandsFor (book first.handler) []
      → Loops gives_line says_last result was now first new
      → RunsSheets next result (outside was first.sink first.keeper first.flash) (outside now new.sink new.keeper new.flash)
  runs_sheets result was now first new none loops tables told =
      did_sheets result was now first new (opened tables) (record { tables = told; reports = none }) loops
