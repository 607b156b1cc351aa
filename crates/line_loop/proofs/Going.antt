-- A whole run: what stays true from turn to turn, and what follows at its end.
use Rattle.std.proofs.Common.{◌≡◌, ◌≢◌, ◌⊎◌, inl, inr, ℕ, ◌+◌, ◌-◌, ◌^◌, ◌<◌, ◌≤◌, Bool, true, false, List, [], ◌∷◌, ◌++◌, length, Some, None, Result, refl, sym, ap, ◌∙◌, arith, append_assoc, append-nil, length-append, subst}
use Rattle.std.proofs.lemmas.Bool.{cases_eq}
use Rattle.std.specs.Io.KnownBytes.{prepend_known, IsAtEnd}
use Rattle.paygo_spec.specs.Streams.{SourceView, SinkView}
use Rattle.run_spec.specs.declared.Status.{Status}
use Rattle.run_spec.specs.declared.Status.TheVariants as status
use Rattle.paygo_ports.specs.declared.sink.WriteFault.{WriteFault}
use Rattle.line_loop.specs.declared.handler.LineFault.{LineFault}
use Rattle.line_loop.specs.Handling.{Desk, Loops}
use Rattle.line_loop.specs.Outside.{Outside, outside, Causes, IsLong, Reads}
use Rattle.line_loop.specs.Reader.{LinesView, Came, IsLine}
use Rattle.line_loop.specs.Turn.{Parts, Turns, Turned}
use Rattle.line_loop.proofs.Gathering.{nothing-more, prepend-append}
use Rattle.line_loop.proofs.Looping.{SoFar, went_on, run_ends}
use Rattle.line_loop.proofs.Turning.{calm, causes_then}

-- what is seen of the outside
abbrev pub out : {H : Type 0} → Parts H → Outside
out parts = outside parts.source parts.desk.sink parts.desk.keeper parts.desk.flash

-- What was handed out up to here.
pub record SoRead (lines : LinesView) (old now : SourceView) : Type 0 where
  pub taken : List ℕ
  pub given : now.given ≡ old.given ++ taken
  pub left : old.left ≡ prepend_known taken now.left
  pub counted : length taken ≡ lines.taken

-- What stays true from turn to turn.
pub record Going {H : Type 0} (handles : List ℕ → Result (Unit {0}) LineFault → Desk H → Desk H → Type 0) (old now : Parts H) : Type 0 where
  pub budget : now.lines.budget ≡ 2 ^ 40
  pub most : now.lines.taken ≤ now.lines.budget
  pub unended : now.lines.ended ≡ false → 0 < now.lines.taken → now.source.ended ≡ false
  pub ended : now.lines.ended ≡ true → (now.source.ended ≡ true) × IsAtEnd now.source.left
  pub so_read : SoRead now.lines old.source now.source
  pub causes : Causes None (out old) (out now)
  pub so_far : SoFar handles old.source.given old.desk now

-- before the first turn
pub begins : {H : Type 0} (handles : List ℕ → Result (Unit {0}) LineFault → Desk H → Desk H → Type 0) (old : Parts H)
    → old.lines ≡ record { budget = 2 ^ 40; taken = 0; held = []; ended = false } → Going handles old old
begins handles old lines = record {
  budget = ap (λ (l : LinesView). l.budget) lines;
  most = omega (arith, ap (λ (l : LinesView). l.budget) lines, ap (λ (l : LinesView). l.taken) lines);
  unended = λ e some. absurd (omega (arith, some, ap (λ (l : LinesView). l.taken) lines));
  ended = λ e. absurd (let both : false ≡ true = sym (ap (λ (l : LinesView). l.ended) lines) ∙ e in cc);
  so_read = record { taken = []; given = sym (append-nil old.source.given); left = nothing-more old.source.left; counted = sym (ap (λ (l : LinesView). l.taken) lines) };
  causes = calm (out old);
  so_far = record {
    gone = [];
    given_are = sym (append-nil old.source.given) ∙ ap (λ (l : LinesView). old.source.given ++ l.held) (sym lines);
    lines = [];
    handled = refl;
    place = inl (refl, refl);
  };
}

module _ {H : Type 0} (handles : List ℕ → Result (Unit {0}) LineFault → Desk H → Desk H → Type 0)
    (concludes : H → Result (Unit {0}) WriteFault → SinkView → SinkView → Type 0) (first old new : Parts H)
    (going : Going handles first old) (came : List ℕ) (counts : Came came old.lines new.lines old.source new.source) where
  still_unended : old.lines.ended ≡ false → new.lines.ended ≡ false → 0 < new.lines.taken → (length came ≡ 0) ⊎ (length came ≢ 0) → new.source.ended ≡ false
  still_unended was un some (inl none) = counts.same un none ∙ going.unended was (omega (arith, some, counts.counted, none))
  still_unended was un some (inr more) = counts.unended un more

  not_yet : (was : Bool) → old.lines.ended ≡ was → new.lines.ended ≡ false → old.lines.ended ≡ false
  not_yet true e un = absurd (let both : true ≡ false = sym (counts.once e) ∙ un in cc)
  not_yet false e un = e

  pub unended_now : new.lines.ended ≡ false → 0 < new.lines.taken → new.source.ended ≡ false
  unended_now un some = still_unended (not_yet old.lines.ended refl un) un some (cases_eq (length came) 0)

  told_by : (was : Bool) → old.lines.ended ≡ was → new.lines.ended ≡ true → (new.source.ended ≡ true) × IsAtEnd new.source.left
  told_by false e told = counts.told e told
  told_by true e told = subst (λ (s : SourceView). (s.ended ≡ true) × IsAtEnd s.left) (sym (counts.unread e)) (going.ended e)

  -- the bytes handed out up to now
  read_now : SoRead new.lines first.source new.source
  read_now =
      let was = going.so_read in
      record {
        taken = was.taken ++ came;
        given = counts.given ∙ ap (λ l. l ++ came) was.given ∙ append_assoc first.source.given was.taken came;
        left = was.left ∙ ap (prepend_known was.taken) counts.left ∙ prepend-append was.taken came new.source.left;
        counted = length-append was.taken came ∙ ap (λ n. n + length came) was.counted ∙ sym counts.counted;
      }

  -- so many more than before
  length_now : length new.source.given ≡ length first.source.given + new.lines.taken
  length_now = ap length read_now.given ∙ length-append first.source.given read_now.taken ∙ ap (λ n. length first.source.given + n) read_now.counted

  -- a turn that goes on
  pub keeps_going : Causes None (out old) (out new) → Turns handles concludes None came old new → Going handles first new
  keeps_going causes turns = record {
    budget = counts.budget ∙ going.budget;
    most = counts.most;
    unended = unended_now;
    ended = told_by old.lines.ended refl;
    so_read = read_now;
    causes = causes_then None (out first) (out old) (out new) going.causes causes;
    so_far = went_on handles concludes first.source.given first.desk old new going.so_far came counts turns.line turns.is_line turns.ahead turns.handled;
  }

  pub told_now : new.lines.ended ≡ true → new.source.ended ≡ true
  told_now told = (told_by old.lines.ended refl told).0

  -- where it ends well, the source has told its end
  pub told_end : (result : Status) → Turns handles concludes (Some result) came old new → result ≡ status.Ok → new.source.ended ≡ true
  told_end status.Ok turns is = told_now turns.ended
  told_end _ turns is = cc

  forty : new.lines.budget ≡ 2 ^ 40
  forty = counts.budget ∙ going.budget

  full_only : new.lines.taken ≡ new.lines.budget → new.lines.ended ≡ false → (new.source.ended ≡ false) × (length new.source.given ≡ length first.source.given + 2 ^ 40)
  full_only full un = (unended_now un (omega (arith, full, forty)), length_now ∙ ap (λ n. length first.source.given + n) (full ∙ forty))

  not_full : new.lines.taken < new.lines.budget → length new.source.given ≡ length first.source.given + 2 ^ 40 → ⊥
  not_full less all = omega (arith, less, forty, length_now, all)

  pub is_long : (result : Status) → Turns handles concludes (Some result) came old new → IsLong result first.source new.source
  is_long status.Ok turns = record {
    only = λ e. cc;
    always = λ un all other. absurd (let both : true ≡ false = sym (told_now turns.ended) ∙ un in cc);
  }
  is_long status.Usage turns = absurd turns
  is_long status.Read turns = record { only = λ e. cc; always = λ un all other. absurd (not_full turns.1 all) }
  is_long status.Write turns = record { only = λ e. cc; always = λ un all other. absurd (other tt) }
  is_long status.Keep turns = record { only = λ e. cc; always = λ un all other. absurd (other tt) }
  is_long status.Memory turns = record { only = λ e. cc; always = λ un all other. absurd (other tt) }
  is_long status.Long turns = record { only = λ e. full_only turns.1 turns.0.unended; always = λ un all other. refl }

  -- what was read where the run ends
  at_most : new.lines.taken ≤ 2 ^ 40
  at_most = omega (arith, counts.most, forty)

  reads_of : (result : Status) → (result ≡ status.Ok → IsAtEnd new.source.left) → (result ≡ status.Long → length read_now.taken ≡ 2 ^ 40) → Reads result first.source new.source
  reads_of result ok long =
      record { taken = read_now.taken; given = read_now.given; left = read_now.left; most = omega (arith, at_most, read_now.counted); ok = ok; long = long }

  pub reads : (result : Status) → Turns handles concludes (Some result) came old new → Reads result first.source new.source
  reads status.Ok turns = reads_of status.Ok (λ e. (told_by old.lines.ended refl turns.ended).1) (λ e. cc)
  reads status.Usage turns = absurd turns
  reads status.Long turns = reads_of status.Long (λ e. cc) (λ e. read_now.counted ∙ turns.1 ∙ forty)
  reads status.Read turns = reads_of status.Read (λ e. cc) (λ e. cc)
  reads status.Write turns = reads_of status.Write (λ e. cc) (λ e. cc)
  reads status.Keep turns = reads_of status.Keep (λ e. cc) (λ e. cc)
  reads status.Memory turns = reads_of status.Memory (λ e. cc) (λ e. cc)

  -- what became of the lines
  pub loops : (result : Status) → Turns handles concludes (Some result) came old new → Loops handles concludes result first.source new.source first.desk new.desk
  loops result turns =
      let ends = run_ends handles concludes first.source.given first.desk old new going.so_far came counts told_now result turns in
      record { taken = ends.taken; given = ends.given_are; ends = ends.ends }

-- What is promised of a whole run, where it ends with this status.
pub record Promised {H : Type 0} (handles : List ℕ → Result (Unit {0}) LineFault → Desk H → Desk H → Type 0)
    (concludes : H → Result (Unit {0}) WriteFault → SinkView → SinkView → Type 0) (result : Status) (first new : Parts H) : Type 0 where
  pub usage : result ≢ status.Usage
  pub told : result ≡ status.Ok → new.source.ended ≡ true
  pub causes : Causes (Some result) (out first) (out new)
  pub long : IsLong result first.source new.source
  pub read : Reads result first.source new.source
  pub loops_so : Loops handles concludes result first.source new.source first.desk new.desk

module _ {H : Type 0} (handles : List ℕ → Result (Unit {0}) LineFault → Desk H → Desk H → Type 0)
    (concludes : H → Result (Unit {0}) WriteFault → SinkView → SinkView → Type 0) where
  not_usage : (came : List ℕ) (old new : Parts H) (result : Status) → Turns handles concludes (Some result) came old new → result ≢ status.Usage
  not_usage came old new status.Usage turns = absurd turns
  not_usage came old new _ turns = λ e. cc

  pub ends : (first old new : Parts H) (result : Status) → Going handles first old → Turned handles concludes (Some result) old new
      → Causes (Some result) (out old) (out new) → Promised handles concludes result first new
  ends first old new result going turned blames = record {
    usage = not_usage turned.came old new result turned.turns;
    told = told_end handles concludes first old new going turned.came turned.counts result turned.turns;
    causes = causes_then (Some result) (out first) (out old) (out new) going.causes blames;
    long = is_long handles concludes first old new going turned.came turned.counts result turned.turns;
    read = reads handles concludes first old new going turned.came turned.counts result turned.turns;
    loops_so = loops handles concludes first old new going turned.came turned.counts result turned.turns;
  }

-- a turn that took a line brings the run nearer to its end
nearer_line : (old new : LinesView) (came line : List ℕ) → new.taken ≡ old.taken + length came → new.budget ≡ old.budget → new.taken ≤ new.budget → IsLine (old.held ++ came) line new
    → new.budget - new.taken + length new.held < old.budget - old.taken + length old.held
nearer_line old new came line counted budget most (none, inl e) =
    omega (arith, counted, budget, most, ap length e, length-append old.held came, length-append line (10 ∷ new.held))
nearer_line old new came line counted budget most (none, inr (e, held, ended, some)) =
    omega (arith, counted, budget, most, ap length e, ap length held, length-append old.held came, some_length line some)
  where
    some_length : (line : List ℕ) → line ≢ [] → 0 < length line
    some_length [] some = absurd (some refl)
    some_length (c ∷ cs) some = omega arith

pub nearer : {H : Type 0} (handles : List ℕ → Result (Unit {0}) LineFault → Desk H → Desk H → Type 0)
    (concludes : H → Result (Unit {0}) WriteFault → SinkView → SinkView → Type 0) (old new : Parts H) (came : List ℕ)
    → Came came old.lines new.lines old.source new.source → Turns handles concludes None came old new
    → new.lines.budget - new.lines.taken + length new.lines.held < old.lines.budget - old.lines.taken + length old.lines.held
nearer handles concludes old new came counts turns = nearer_line old.lines new.lines came turns.line counts.counted counts.budget counts.most turns.is_line
