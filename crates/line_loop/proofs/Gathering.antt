-- A line that is gathered out of one block after another.
use Rattle.std.proofs.Common.{◌≡◌, ◌≢◌, ◌⊎◌, inl, inr, ℕ, suc, ◌+◌, ◌-◌, ◌≤◌, ◌<◌, ◌^◌, Bool, true, false, ◌==◌, nat_le, List, [], ◌∷◌, ◌++◌, length, take, drop, Option, Some, None, Ok, Err, refl, sym, ap, ◌∙◌, arith, append_assoc, append-nil, length-append, if◌then◌else◌, subst}
use Rattle.std.proofs.lemmas.List.{take_all, nil_from_length, length-take}
use Rattle.std.proofs.lemmas.Bool.{cases_lt, cases_eq}
use Rattle.std.proofs.lemmas.Bool.Decides.{nat_tests}
use Rattle.std.specs.Io.KnownBytes.{prepend_known}
use Rattle.paygo_spec.specs.Streams.{SourceView}
use Rattle.paygo_spec.specs.Faults.{Rose}
use Rattle.run_spec.specs.Lines.{whole_lines}
use Rattle.line_loop.specs.declared.lines.Next.TheVariants.{Line, Long, End}
use Rattle.line_loop.specs.declared.lines.LinesFault.{LinesFault}
use Rattle.line_loop.specs.declared.lines.LinesFault.TheVariants as fault
use Rattle.line_loop.specs.Reader.{LinesView, Came, IsLine, HandsOut, ReadsBy, Hands}
use Rattle.line_loop.specs.Gather.{handed_of, IsFront, IsPiece, Fills}
use Rattle.line_loop.proofs.Cuts.{none-append, none-front}

-- What was gathered so far: the bytes of the line up to here, in whose front the buffer is, out of those held at first
-- and those that came.
pub record Gathered (old self : LinesView) (was now : SourceView) (buffer : List ℕ) (size : ℕ) : Type 0 where
  pub text : List ℕ
  pub came : List ℕ
  pub counts : Came came old self was now
  pub bytes : old.held ++ came ≡ text ++ self.held
  pub unended : whole_lines text ≡ []
  pub front : IsFront buffer text size
  pub needed : (now ≡ was) ⊎ (whole_lines old.held ≡ [])
  pub faults : now.faults ≡ was.faults
  pub fits : length old.held ≤ old.taken
  pub small : old.budget < 2 ^ 64

-- no bytes that came
pub nothing-more : (known : Option (List ℕ)) → known ≡ prepend_known [] known
nothing-more None = refl
nothing-more (Some xs) = refl

-- two lots of bytes that came, one after the other
pub prepend-append : (a b : List ℕ) (known : Option (List ℕ)) → prepend_known a (prepend_known b known) ≡ prepend_known (a ++ b) known
prepend-append a b None = refl
prepend-append a b (Some xs) = ap Some (sym (append_assoc a b xs))

unended_two : (a b : ℕ) (was now after : Bool) → (a ≢ 0 → now ≡ false) → (b ≢ 0 → after ≡ false) → (b ≡ 0 → after ≡ now) → a + b ≢ 0 → (b ≡ 0) ⊎ (b ≢ 0) → after ≡ false
unended_two a b was now after first second same some (inl none) = same none ∙ first (λ z. some (omega (arith, none, z)))
unended_two a b was now after first second same some (inr more) = second more

pub came_two : (a b : List ℕ) (old mid new : LinesView) (was now after : SourceView) → mid.ended ≡ false → Came a old mid was now → Came b mid new now after → Came (a ++ b) old new was after
came_two a b old mid new was now after un first second = record {
  given = second.given ∙ ap (λ l. l ++ b) first.given ∙ append_assoc was.given a b;
  left = first.left ∙ ap (prepend_known a) second.left ∙ prepend-append a b after.left;
  counted = omega (arith, first.counted, second.counted, length-append a b);
  budget = second.budget ∙ first.budget;
  most = second.most;
  unread = λ e. absurd (let both : true ≡ false = sym (first.once e) ∙ un in cc);
  quiet = λ e. absurd (let both : true ≡ false = sym (first.once e) ∙ un in cc);
  once = λ e. second.once (first.once e);
  told = λ e t. second.told un t;
  unended = λ e some. unended_two (length a) (length b) was.ended now.ended after.ended (first.unended un) (second.unended e) (second.same e) (λ z. some (length-append a b ∙ z)) (cases_eq (length b) 0);
  same = λ e none. second.same e (omega (arith, none, length-append a b)) ∙ first.same un (omega (arith, none, length-append a b));
}

came_same : (a : List ℕ) (old self new : LinesView) (was now : SourceView) → new.budget ≡ self.budget → new.taken ≡ self.taken → new.ended ≡ self.ended → Came a old self was now → Came a old new was now
came_same a old self new was now b t e came = record {
  given = came.given;
  left = came.left;
  counted = t ∙ came.counted;
  budget = b ∙ came.budget;
  most = omega (arith, b, t, came.most);
  unread = came.unread;
  quiet = came.quiet;
  once = λ h. e ∙ came.once h;
  told = λ h n. came.told h (sym e ∙ n);
  unended = λ n some. came.unended (sym e ∙ n) some;
  same = λ n none. came.same (sym e ∙ n) none;
}

-- a line of this length, as it is handed out
handed_line : (size : ℕ) (bytes buffer text : List ℕ) (new : LinesView) → IsFront buffer text size → size ≤ length bytes → IsLine bytes text new
    → (size ≤ 4096) ⊎ (4096 < size) → HandsOut (Ok (handed_of size)) bytes buffer new
handed_line size bytes buffer text new front fits line (inl short) =
    let test : nat_le size 4096 ≡ true = grind (arith, nat_tests) in
    let same : take size buffer ≡ text = front.same ∙ take_all 4096 text (omega (arith, short, front.size_is)) in
    rw test (short, fits, rw same line)
handed_line size bytes buffer text new front fits line (inr long) =
    let test : nat_le size 4096 ≡ false = grind (arith, nat_tests) in
    rw test (text, sym front.size_is, long, line)

le_or : (n k : ℕ) → (n < suc k) ⊎ (suc k ≤ n) → (n ≤ k) ⊎ (k < n)
le_or n k (inl h) = inl (omega (arith, h))
le_or n k (inr h) = inr (omega (arith, h))

-- a line is handed out, or the end is told, where no read failed
reads_well : (before now size : ℕ) → now ≡ before → ReadsBy (Ok (handed_of size)) before now
reads_well before now size same = elim (nat_le size 4096) as (λ b. ReadsBy (Ok (if b then Line size else Long size)) before now) [
  | true ↦ same
  | false ↦ same
]

ends_well : (before now size : ℕ) → now ≡ before → ReadsBy (Ok (if size == 0 then End else handed_of size)) before now
ends_well before now size same = elim (size == 0) as (λ b. ReadsBy (Ok (if b then End else handed_of size)) before now) [
  | true ↦ same
  | false ↦ reads_well before now size same
]

module _ (old self : LinesView) (was now : SourceView) (buffer : List ℕ) (size : ℕ) (so_far : Gathered old self was now buffer size) where
  -- a piece without an end goes on with the line
  pub goes_on : (size' : ℕ) (buffer' : List ℕ) (new : LinesView) → IsPiece size' false size buffer buffer' self new → Gathered old new was now buffer' size'
  goes_on size' buffer' new piece = record {
    text = so_far.text ++ piece.piece;
    came = so_far.came;
    counts = came_same so_far.came old self new was now piece.budget piece.taken piece.ended so_far.counts;
    bytes = so_far.bytes ∙ ap (λ l. so_far.text ++ l) piece.held ∙ sym (append-nil (so_far.text ++ piece.piece)) ∙ ap (λ l. (so_far.text ++ piece.piece) ++ l) (sym (piece.none refl));
    unended = none-append so_far.text piece.piece so_far.unended piece.unended;
    front = piece.front so_far.text so_far.front;
    needed = so_far.needed;
    faults = so_far.faults;
    fits = so_far.fits;
    small = so_far.small;
  }

  -- a piece with its end makes the line whole
  pub whole_line : (size' : ℕ) (buffer' : List ℕ) (new : LinesView) → IsPiece size' true size buffer buffer' self new → Hands (Ok (handed_of size')) buffer' old new was now
  whole_line size' buffer' new piece =
      let text = so_far.text ++ piece.piece in
      let bytes : old.held ++ so_far.came ≡ text ++ 10 ∷ new.held = so_far.bytes ∙ ap (λ l. so_far.text ++ l) piece.held ∙ sym (append_assoc so_far.text piece.piece (10 ∷ new.held)) in
      let front = piece.front so_far.text so_far.front in
      record {
        came = so_far.came;
        counts = came_same so_far.came old self new was now piece.budget piece.taken piece.ended so_far.counts;
        answer = handed_line size' (old.held ++ so_far.came) buffer' text new front (omega (arith, ap length bytes, length-append text (10 ∷ new.held), front.size_is))
            (none-append so_far.text piece.piece so_far.unended piece.unended, inl bytes) (le_or size' 4096 (cases_lt size' 4097));
        faults = reads_well was.faults now.faults size' so_far.faults;
        needed = so_far.needed;
        ahead = piece.ahead;
      }

  -- at the end of the input
  ended_line : self.held ≡ [] → self.ended ≡ true → (size ≡ 0) ⊎ (size ≢ 0) → HandsOut (Ok (if size == 0 then End else handed_of size)) (old.held ++ so_far.came) buffer self
  ended_line none end (inl zero_size) =
      let empty : so_far.text ≡ [] = nil_from_length so_far.text (sym so_far.front.size_is ∙ zero_size) in
      let test : (size == 0) ≡ true = grind (arith, nat_tests) in
      rw test (so_far.bytes ∙ ap (λ l. l ++ self.held) empty ∙ none, none, end)
  ended_line none end (inr some) =
      let test : (size == 0) ≡ false = grind (arith, nat_tests) in
      let bytes : old.held ++ so_far.came ≡ so_far.text = so_far.bytes ∙ ap (λ l. so_far.text ++ l) none ∙ append-nil so_far.text in
      rw test (handed_line size (old.held ++ so_far.came) buffer so_far.text self so_far.front (omega (arith, ap length bytes, so_far.front.size_is))
      (so_far.unended, inr (bytes, none, end, λ e. some (so_far.front.size_is ∙ ap length e))) (le_or size 4096 (cases_lt size 4097)))

  pub at_end : self.held ≡ [] → self.ended ≡ true → Hands (Ok (if size == 0 then End else handed_of size)) buffer old self was now
  at_end none end = record {
    came = so_far.came;
    counts = so_far.counts;
    answer = ended_line none end (cases_eq size 0);
    faults = ends_well was.faults now.faults size so_far.faults;
    needed = so_far.needed;
    ahead = omega (arith, ap length none);
  }

  -- all that was held is of the line, which has no end yet
  none_held : self.held ≡ [] → whole_lines old.held ≡ []
  none_held none =
      let bytes : old.held ++ so_far.came ≡ so_far.text = so_far.bytes ∙ ap (λ l. so_far.text ++ l) none ∙ append-nil so_far.text in
      none-front old.held so_far.came (ap whole_lines bytes ∙ so_far.unended)

  -- another block
  pub filled : (done : Unit {0}) (new : LinesView) (after : SourceView) → self.held ≡ [] → self.ended ≡ false → Fills (Ok done) self new now after → Gathered old new was after buffer size
  filled done new after none un fills =
      record {
        text = so_far.text;
        came = so_far.came ++ fills.0;
        counts = came_two so_far.came fills.0 old self new was now after un so_far.counts fills.1;
        bytes = sym (append_assoc old.held so_far.came fills.0) ∙ ap (λ l. l ++ fills.0) (so_far.bytes ∙ ap (λ l. so_far.text ++ l) none ∙ append-nil so_far.text) ∙ ap (λ l. so_far.text ++ l) (sym fills.2);
        unended = so_far.unended;
        front = so_far.front;
        needed = inr (none_held none);
        faults = fills.4 ∙ so_far.faults;
        fits = so_far.fits;
        small = so_far.small;
      }

  no_line : self.held ≡ [] → (more : List ℕ) → more ≡ [] → whole_lines (old.held ++ (so_far.came ++ more)) ≡ []
  no_line none more empty =
      let bytes : old.held ++ (so_far.came ++ more) ≡ so_far.text = ap (λ l. old.held ++ (so_far.came ++ l)) empty ∙ ap (λ l. old.held ++ l) (append-nil so_far.came) ∙ so_far.bytes ∙ ap (λ l. so_far.text ++ l) none ∙ append-nil so_far.text in
      ap whole_lines bytes ∙ so_far.unended

  -- the source failed, or no more may be taken
  pub not_filled : (e : LinesFault) (new : LinesView) (after : SourceView) → self.held ≡ [] → self.ended ≡ false → Fills (Err e) self new now after → Hands (Err e) buffer old new was after
  not_filled fault.Read new after none un fills = record {
    came = so_far.came ++ [];
    counts = came_two so_far.came [] old self new was now after un so_far.counts fills.0;
    answer = (no_line none [] refl, fills.2, fills.1);
    faults = subst (λ (n : ℕ). Rose n after.faults) so_far.faults fills.3;
    needed = inr (none_held none);
    ahead = tt;
  }
  not_filled fault.Budget new after none un fills =
      subst (λ (v : SourceView). Hands (Err fault.Budget) buffer old new was v) (sym fills.0)
      (subst (λ (v : LinesView). Hands (Err fault.Budget) buffer old v was now) (sym fills.1) record {
        came = so_far.came;
        counts = so_far.counts;
        answer = (ap (λ l. whole_lines (old.held ++ l)) (sym (append-nil so_far.came)) ∙ no_line none [] refl, fills.2, un);
        faults = so_far.faults;
        needed = so_far.needed;
        ahead = tt;
      })

-- before the first piece
pub begun : (old : LinesView) (was : SourceView) (buffer : List ℕ) → length old.held ≤ old.taken → old.taken ≤ old.budget → old.budget < 2 ^ 64 → Gathered old old was was buffer 0
begun old was buffer fits most small = record {
  text = [];
  came = [];
  counts = record {
    given = sym (append-nil was.given);
    left = nothing-more was.left;
    counted = omega arith;
    budget = refl;
    most = most;
    unread = λ e. refl;
    quiet = λ e. refl;
    once = λ e. e;
    told = λ un e. absurd (let both : true ≡ false = sym e ∙ un in cc);
    unended = λ un some. absurd (some refl);
    same = λ un none. refl;
  };
  bytes = append-nil old.held;
  unended = refl;
  front = record { size_is = refl; same = refl };
  needed = inl refl;
  faults = refl;
  fits = fits;
  small = small;
}

-- the bytes gathered and held are no more than those taken
pub gathered_fits : (old self : LinesView) (was now : SourceView) (buffer : List ℕ) (size : ℕ) → Gathered old self was now buffer size → size + length self.held < 2 ^ 64
gathered_fits old self was now buffer size so_far =
    omega (
      arith,
      so_far.fits,
      so_far.small,
      so_far.front.size_is,
      so_far.counts.counted,
      so_far.counts.budget,
      so_far.counts.most,
      ap length so_far.bytes,
      length-append old.held so_far.came,
      length-append so_far.text self.held,
    )

-- a reader whose fields are these, before the first piece
pub begun_with : (block : List ℕ) (start end budget taken : ℕ) (ended : Bool) (old : LinesView) (was : SourceView) (buffer : List ℕ)
    → record { budget = budget; taken = taken; held = take (end - start) (drop start block); ended = ended } ≡ old
    → end - start ≤ taken → taken ≤ budget → budget < 2 ^ 64 → Gathered old old was was buffer 0
begun_with block start end budget taken ended old was buffer is fits most small =
    subst (λ (v : LinesView). Gathered v v was was buffer 0) is
    (begun (record { budget = budget; taken = taken; held = take (end - start) (drop start block); ended = ended }) was buffer
    (omega (arith, fits, length-take (end - start) (drop start block))) most small)
