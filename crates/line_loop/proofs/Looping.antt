-- A whole run over lines, turn by turn: where it is in the bytes, and what it did up to there.
use Rattle.std.proofs.Common.{◌≡◌, ◌≢◌, ◌⊎◌, inl, inr, ℕ, suc, ◌<◌, ◌==◌, Bool, true, false, List, [], ◌∷◌, ◌++◌, length, Some, Result, Ok, Err, refl, sym, ap, ◌∙◌, append_assoc, append-nil, subst, arith, if◌then◌else◌}
use Rattle.std.proofs.lemmas.List.{nil_from_length}
use Rattle.paygo_spec.specs.Streams.{SinkView}
use Rattle.run_spec.specs.declared.Status.{Status}
use Rattle.run_spec.specs.declared.Status.TheVariants as status
use Rattle.run_spec.specs.Lines.{lines_from, rest_from, whole_lines, last_line, all_lines, behind}
use Rattle.run_spec.specs.Ran.{lines_taken, IsAmong}
use Rattle.paygo_ports.specs.declared.sink.WriteFault.{WriteFault}
use Rattle.line_loop.specs.declared.handler.LineFault.{LineFault}
use Rattle.line_loop.specs.declared.handler.LineFault.TheVariants as fault
use Rattle.line_loop.specs.Handling.{Desk, Handled, FailsAt, Concludes, EndsWith}
use Rattle.line_loop.specs.Reader.{LinesView, Came, IsLine}
use Rattle.line_loop.specs.Turn.{Parts, TakesEnd, TakesNone, Turns}
use Rattle.line_loop.proofs.Cuts.{lines-append, rest-append, rest_whole, line-append, rest-line}

-- behind the end of a line the lines begin anew
lines_behind : (gone more : List ℕ) → rest_from [] gone ≡ [] → whole_lines (gone ++ more) ≡ whole_lines gone ++ whole_lines more
lines_behind gone more end = lines-append [] gone more ∙ ap (λ part. whole_lines gone ++ lines_from part more) end

rest_behind : (gone more : List ℕ) → rest_from [] gone ≡ [] → rest_from [] (gone ++ more) ≡ rest_from [] more
rest_behind gone more end = rest-append [] gone more ∙ ap (λ part. rest_from part more) end

all_behind : (gone more : List ℕ) → rest_from [] gone ≡ [] → all_lines (gone ++ more) ≡ whole_lines gone ++ all_lines more
all_behind gone more end =
    ap (λ ls. ls ++ last_line (rest_from [] (gone ++ more))) (lines_behind gone more end)
    ∙ ap (λ part. (whole_lines gone ++ whole_lines more) ++ last_line part) (rest_behind gone more end)
    ∙ append_assoc (whole_lines gone) (whole_lines more) (last_line (rest_from [] more))

last_some : (line : List ℕ) → line ≢ [] → last_line line ≡ line ∷ []
last_some [] some = absurd (some refl)
last_some (c ∷ cs) some = refl

all_last : (line : List ℕ) → whole_lines line ≡ [] → line ≢ [] → all_lines line ≡ line ∷ []
all_last line none some = ap (λ ls. ls ++ last_line (rest_from [] line)) none ∙ ap last_line (rest_whole [] line none) ∙ last_some line some

all_line : (line more : List ℕ) → whole_lines line ≡ [] → all_lines (line ++ 10 ∷ more) ≡ line ∷ all_lines more
all_line line more none = ap (λ ls. ls ++ last_line (rest_from [] (line ++ 10 ∷ more))) (line-append line more none) ∙ ap (λ part. line ∷ (whole_lines more ++ last_line part)) (rest-line line more)

-- what stands behind the end of the line that follows some bytes
behind_next : (part gone more : List ℕ) → behind (suc (length (lines_from part gone))) (gone ++ more) ≡ behind 1 more
behind_next part [] more = refl
behind_next part (x ∷ xs) more =
    elim (x == 10) as (λ b. (if b then behind (length (if b then part ∷ lines_from [] xs else lines_from (part ++ x ∷ []) xs)) (xs ++ more)
    else behind (suc (length (if b then part ∷ lines_from [] xs else lines_from (part ++ x ∷ []) xs))) (xs ++ more)) ≡ behind 1 more) [
      | true ↦ behind_next [] xs more
      | false ↦ behind_next (part ++ x ∷ []) xs more
    ]

behind_end : (part line more : List ℕ) → lines_from part line ≡ [] → behind 1 (line ++ 10 ∷ more) ≡ more
behind_end part [] more none = refl
behind_end part (x ∷ xs) more none =
    (elim (x == 10) as (λ b. (if b then part ∷ lines_from [] xs else lines_from (part ++ x ∷ []) xs) ≡ []
    → (if b then behind 0 (xs ++ 10 ∷ more) else behind 1 (xs ++ 10 ∷ more)) ≡ more) [
      | true ↦ λ e. cc
      | false ↦ λ e. behind_end (part ++ x ∷ []) xs more e
    ]) none

behind_last : (part line : List ℕ) → lines_from part line ≡ [] → behind 1 line ≡ []
behind_last part [] none = refl
behind_last part (x ∷ xs) none =
    (elim (x == 10) as (λ b. (if b then part ∷ lines_from [] xs else lines_from (part ++ x ∷ []) xs) ≡ []
    → (if b then behind 0 xs else behind 1 xs) ≡ []) [
      | true ↦ λ e. cc
      | false ↦ λ e. behind_last (part ++ x ∷ []) xs e
    ]) none

-- Where a run is in its bytes: at the end of a line, with all whole lines before it; or behind the last piece of an input that
-- ended.
abbrev pub Place : List (List ℕ) → List ℕ → LinesView → Type 0
Place lines gone reader =
    ((rest_from [] gone ≡ []) × (lines ≡ whole_lines gone))
    ⊎ ((reader.ended ≡ true) × (reader.held ≡ []) × (lines ≡ all_lines gone))

-- A line further.
pub record Advanced (lines : List (List ℕ)) (gone line bytes : List ℕ) (new : LinesView) : Type 0 where
  pub now : List ℕ
  pub split : gone ++ bytes ≡ now ++ new.held
  pub place : Place (lines ++ line ∷ []) now new
  pub among : (ended : Bool) → (new.ended ≡ true → ended ≡ true) → IsAmong ended (gone ++ bytes) lines line

module _ (lines : List (List ℕ)) (gone line bytes : List ℕ) (new : LinesView) (end : rest_from [] gone ≡ [])
    (is : lines ≡ whole_lines gone) (none : whole_lines line ≡ []) (ahead : length new.held < 8192) where
  -- fewer bytes than a block were taken behind the line
  ahead_of : (more : List ℕ) → length more < 8192
      → behind (suc (length (whole_lines gone))) (gone ++ bytes) ≡ more → length (behind (suc (length lines)) (gone ++ bytes)) < 8192
  ahead_of more few same = subst (λ (ls : List (List ℕ)). length (behind (suc (length ls)) (gone ++ bytes)) < 8192) (sym is)
      (omega (arith, few, ap length same))

  split_of : (ended : Bool) (later : List (List ℕ)) → lines_taken ended (gone ++ bytes) ≡ whole_lines gone ++ line ∷ later
      → lines_taken ended (gone ++ bytes) ≡ lines ++ line ∷ later
  split_of ended later e = e ∙ ap (λ ls. ls ++ line ∷ later) (sym is)

  all_with_end : bytes ≡ line ++ 10 ∷ new.held → (ended : Bool) → IsAmong ended (gone ++ bytes) lines line
  all_with_end e true = record {
    later = all_lines new.held;
    split = split_of true (all_lines new.held) (ap (λ l. all_lines (gone ++ l)) e ∙ all_behind gone (line ++ 10 ∷ new.held) end
        ∙ ap (λ ls. whole_lines gone ++ ls) (all_line line new.held none));
    ahead = ahead_of new.held ahead (behind_next [] gone bytes ∙ ap (behind 1) e ∙ behind_end [] line new.held none);
  }
  all_with_end e false = record {
    later = whole_lines new.held;
    split = split_of false (whole_lines new.held) (ap (λ l. whole_lines (gone ++ l)) e ∙ lines_behind gone (line ++ 10 ∷ new.held) end
        ∙ ap (λ ls. whole_lines gone ++ ls) (line-append line new.held none));
    ahead = ahead_of new.held ahead (behind_next [] gone bytes ∙ ap (behind 1) e ∙ behind_end [] line new.held none);
  }

  with_end : bytes ≡ line ++ 10 ∷ new.held → Advanced lines gone line bytes new
  with_end e =
      let whole : whole_lines (line ++ 10 ∷ []) ≡ line ∷ [] = line-append line [] none in
      record {
        now = gone ++ (line ++ 10 ∷ []);
        split = ap (λ l. gone ++ l) (e ∙ sym (append_assoc line (10 ∷ []) new.held))
            ∙ sym (append_assoc gone (line ++ 10 ∷ []) new.held);
        place = inl (
          rest_behind gone (line ++ 10 ∷ []) end ∙ rest-line line [],
          ap (λ ls. ls ++ line ∷ []) is
              ∙ sym (lines_behind gone (line ++ 10 ∷ []) end ∙ ap (λ ls. whole_lines gone ++ ls) whole),
        );
        among = λ ended told. all_with_end e ended;
      }

  all_without_end : bytes ≡ line → new.ended ≡ true → line ≢ [] → (ended : Bool) → (new.ended ≡ true → ended ≡ true)
      → IsAmong ended (gone ++ bytes) lines line
  all_without_end e was some true told = record {
    later = [];
    split = split_of true [] (ap (λ l. all_lines (gone ++ l)) e ∙ all_behind gone line end
        ∙ ap (λ ls. whole_lines gone ++ ls) (all_last line none some));
    ahead = ahead_of [] (omega arith) (behind_next [] gone bytes ∙ ap (behind 1) e ∙ behind_last [] line none);
  }
  all_without_end e was some false told = absurd (let both : false ≡ true = told was in cc)

  without_end : bytes ≡ line → new.held ≡ [] → new.ended ≡ true → line ≢ [] → Advanced lines gone line bytes new
  without_end e held ended some =
      let all : all_lines (gone ++ line) ≡ lines ++ line ∷ [] =
      all_behind gone line end ∙ ap (λ ls. whole_lines gone ++ ls) (all_last line none some)
      ∙ ap (λ ls. ls ++ line ∷ []) (sym is) in
      record {
        now = gone ++ line;
        split = ap (λ l. gone ++ l) e ∙ sym (append-nil (gone ++ line)) ∙ ap (λ l. (gone ++ line) ++ l) (sym held);
        place = inr (ended, held, sym all);
        among = all_without_end e ended some;
      }

no_byte : (line rest : List ℕ) → [] ≡ line ++ 10 ∷ rest → ⊥
no_byte [] rest e = cc
no_byte (c ∷ cs) rest e = cc

nothing_left : (held came : List ℕ) → held ≡ [] → length came ≡ 0 → held ++ came ≡ []
nothing_left held came none quiet = ap (λ l. l ++ came) none ∙ nil_from_length came quiet

pub advance : (lines : List (List ℕ)) (gone line came : List ℕ) (old new : LinesView) → Place lines gone old
    → (old.ended ≡ true → length came ≡ 0) → IsLine (old.held ++ came) line new → length new.held < 8192
    → Advanced lines gone line (old.held ++ came) new
advance lines gone line came old new (inl (end, is)) quiet (none, inl e) ahead =
    with_end lines gone line (old.held ++ came) new end is none ahead e
advance lines gone line came old new (inl (end, is)) quiet (none, inr (e, held, ended, some)) ahead =
    without_end lines gone line (old.held ++ came) new end is none ahead e held ended some
advance lines gone line came old new (inr (ended, held, is)) quiet (none, inl e) ahead =
    absurd (no_byte line new.held (sym (nothing_left old.held came held (quiet ended)) ∙ e))
advance lines gone line came old new (inr (ended, held, is)) quiet (none, inr (e, none_held, was, some)) ahead =
    absurd (some (sym e ∙ nothing_left old.held came held (quiet ended)))

-- What a run did up to here: the bytes of the lines that were taken, behind those that were handed out before.
pub record SoFar {H : Type 0} (handles : List ℕ → Result (Unit {0}) LineFault → Desk H → Desk H → Type 0) (given : List ℕ)
    (first : Desk H) (now : Parts H) : Type 0 where
  pub gone : List ℕ
  pub given_are : now.source.given ≡ given ++ (gone ++ now.lines.held)
  pub lines : List (List ℕ)
  pub handled : Handled handles lines first now.desk
  pub place : Place lines gone now.lines

-- What a run did when it ended: the bytes that were taken, and what became of their lines.
pub record Ended {H : Type 0} (handles : List ℕ → Result (Unit {0}) LineFault → Desk H → Desk H → Type 0)
    (concludes : H → Result (Unit {0}) WriteFault → SinkView → SinkView → Type 0) (result : Status) (given : List ℕ)
    (first : Desk H) (now : Parts H) : Type 0 where
  pub taken : List ℕ
  pub given_are : now.source.given ≡ given ++ taken
  pub ends : EndsWith handles concludes result now.source.ended taken first now.desk

module _ {H : Type 0} (handles : List ℕ → Result (Unit {0}) LineFault → Desk H → Desk H → Type 0)
    (concludes : H → Result (Unit {0}) WriteFault → SinkView → SinkView → Type 0) where
  -- one line more is handled
  pub handled_more : (lines : List (List ℕ)) (line : List ℕ) (first old new : Desk H) → Handled handles lines first old
      → handles line (Ok tt) old new → Handled handles (lines ++ line ∷ []) first new
  handled_more [] line first old new same one =
      (new, subst (λ (d : Desk H). handles line (Ok tt) d new) same one, refl)
  handled_more (other ∷ lines) line first old new (mid, was, rest) one =
      (mid, was, handled_more lines line mid old new rest one)

  module _ (given : List ℕ) (first : Desk H) (old new : Parts H) (so_far : SoFar handles given first old) (came : List ℕ)
      (counts : Came came old.lines new.lines old.source new.source) where
    -- the bytes taken up to now
    abbrev taken_now : List ℕ
    taken_now = so_far.gone ++ (old.lines.held ++ came)

    given_now : new.source.given ≡ given ++ taken_now
    given_now = counts.given ∙ ap (λ l. l ++ came) so_far.given_are ∙ append_assoc given (so_far.gone ++ old.lines.held) came
        ∙ ap (λ l. given ++ l) (append_assoc so_far.gone old.lines.held came)

    module _ (line : List ℕ) (is : IsLine (old.lines.held ++ came) line new.lines) (ahead : length new.lines.held < 8192) where
      further : Advanced so_far.lines so_far.gone line (old.lines.held ++ came) new.lines
      further = advance so_far.lines so_far.gone line came old.lines new.lines so_far.place counts.quiet is ahead

      pub went_on : handles line (Ok tt) old.desk new.desk → SoFar handles given first new
      went_on one = record {
        gone = further.now;
        given_are = given_now ∙ ap (λ l. given ++ l) further.split;
        lines = so_far.lines ++ line ∷ [];
        handled = handled_more so_far.lines line first old.desk new.desk so_far.handled one;
        place = further.place;
      }

      pub failed_at : (failed : LineFault) → (new.lines.ended ≡ true → new.source.ended ≡ true) → handles line (Err failed) old.desk new.desk
          → FailsAt handles failed new.source.ended taken_now first new.desk
      failed_at failed told one = record {
        earlier = so_far.lines;
        line = line;
        place = further.among new.source.ended told;
        mid = old.desk;
        handled = so_far.handled;
        fails = one;
      }

    all_done : old.lines.held ++ came ≡ [] → Place so_far.lines so_far.gone old.lines → so_far.lines ≡ all_lines taken_now
    all_done none (inl (end, is)) =
        is ∙ sym (append-nil (whole_lines so_far.gone)) ∙ ap (λ part. whole_lines so_far.gone ++ last_line part) (sym end)
        ∙ ap all_lines (sym (append-nil so_far.gone) ∙ ap (λ l. so_far.gone ++ l) (sym none))
    all_done none (inr (ended, held, is)) =
        is ∙ ap all_lines (sym (append-nil so_far.gone) ∙ ap (λ l. so_far.gone ++ l) (sym none))

    whole_done : whole_lines (old.lines.held ++ came) ≡ [] → new.lines.ended ≡ false → Place so_far.lines so_far.gone old.lines
        → so_far.lines ≡ whole_lines taken_now
    whole_done none un (inl (end, is)) =
        is ∙ sym (append-nil (whole_lines so_far.gone)) ∙ ap (λ ls. whole_lines so_far.gone ++ ls) (sym none)
        ∙ sym (lines_behind so_far.gone (old.lines.held ++ came) end)
    whole_done none un (inr (ended, held, is)) = absurd (let both : true ≡ false = sym (counts.once ended) ∙ un in cc)

    -- the input has ended
    concluded_now : (outcome : Result (Unit {0}) WriteFault) → TakesEnd concludes outcome came old new
        → Concludes handles concludes outcome taken_now first new.desk
    concluded_now outcome takes = record {
      mid = old.desk;
      handled = subst (λ (ls : List (List ℕ)). Handled handles ls first old.desk) (all_done takes.all so_far.place) so_far.handled;
      last = takes.last;
      same = takes.same;
    }

    -- no whole line is left
    none_now : TakesNone came old new → Handled handles (whole_lines taken_now) first new.desk
    none_now takes =
        subst (λ (d : Desk H). Handled handles (whole_lines taken_now) first d) (sym takes.same)
        (subst (λ (ls : List (List ℕ)). Handled handles ls first old.desk) (whole_done takes.none takes.unended so_far.place)
        so_far.handled)

    ended_with : (result : Status) → EndsWith handles concludes result new.source.ended taken_now first new.desk
        → Ended handles concludes result given first new
    ended_with result ends = record { taken = taken_now; given_are = given_now; ends = ends }

    -- how a run ends
    pub run_ends : (new.lines.ended ≡ true → new.source.ended ≡ true) → (result : Status)
        → Turns handles concludes (Some result) came old new → Ended handles concludes result given first new
    run_ends told status.Ok turns = ended_with status.Ok (concluded_now (Ok tt) turns)
    run_ends told status.Usage turns = absurd turns
    run_ends told status.Read turns = ended_with status.Read (none_now turns.0)
    run_ends told status.Write (inl takes) =
        ended_with status.Write (inl (failed_at takes.line takes.is_line takes.ahead fault.Write told takes.handled))
    run_ends told status.Write (inr (failed, takes)) =
        ended_with status.Write (inr (told takes.ended, (failed, concluded_now (Err failed) takes)))
    run_ends told status.Keep turns = ended_with status.Keep (failed_at turns.line turns.is_line turns.ahead fault.Keep told turns.handled)
    run_ends told status.Memory turns =
        ended_with status.Memory (failed_at turns.line turns.is_line turns.ahead fault.Memory told turns.handled)
    run_ends told status.Long turns = ended_with status.Long (none_now turns.0)
