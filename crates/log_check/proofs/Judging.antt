-- The verdict means what it says.
use Rattle.std.proofs.Common.{◌≡◌, ℕ, ◌+◌, ◌<◌, ◌≤◌, true, false, List, [], ◌∷◌, ◌++◌, length, append_assoc, append-nil, length-append, Option, Some, None, refl, sym, ap, subst, ◌∙◌, inl, inr, ◌⊎◌, ⊎_elim, arith}
use Rattle.std.specs.Prelude.{nat_lt, unwrap_or, if◌then◌else◌}
use Rattle.std.specs.List.{Contains}
use Rattle.std.proofs.lemmas.Bool.{cases_Bool}
use Rattle.std.proofs.lemmas.Bool.Decides.{nat_tests}
use Rattle.paygo_spec.specs.Machine.{State, Blank, starting}
use Rattle.run_spec.specs.Run.{Step}
use Rattle.log_check.specs.declared.Verdict.{Verdict}
use Rattle.log_check.specs.declared.Verdict.TheVariants.{No, Wide, Unread}
use Rattle.log_check.specs.Fits.{Marked, Typed, Told, Unmarked, Fit, first_fit, after_line, after_lines, fits}
use Rattle.log_check.specs.Logs.{IsLog, BeginsLog, MayAllCome}
use Rattle.log_check.specs.declared.Verdict.TheVariants.{Yes}
use Rattle.log_check.specs.Verdicts.{NeverWide, counted, ended_at, at_end, judged, verdict_on, IsLine, Means}
use Rattle.log_check.proofs.Alike.{heads, tails}
use Rattle.log_check.proofs.Members.{none_in, first_in}
use Rattle.log_check.proofs.Completing.{begun_fits, whole_fits, whole_begins}
use Rattle.log_check.proofs.Sounding.{fits_begin, fits_whole}
use Rattle.log_check.proofs.Totals.{Some_in}

after_snoc : (next : List ℕ → ℕ → ℕ) (before : List Marked) (old : Fit) (line : Marked)
    → after_lines next old (before ++ line ∷ []) ≡ after_line next (after_lines next old before) line
after_snoc next [] old line = refl
after_snoc next (x ∷ before) old line = after_snoc next before (after_line next old x) line

below : (a b : ℕ) → nat_lt a b ≡ true → a < b
below a b h = grind (arith, nat_tests)

not_below : (a b : ℕ) → nat_lt a b ≡ false → b ≤ a
not_below a b h = grind (arith, nat_tests)

no_more : {A : Type 0} (xs : List A) (y : A) (ys : List A) → (xs ++ y ∷ ys) ≡ [] → ⊥
no_more [] y ys e = cc
no_more (x ∷ xs) y ys e = cc

is_some_in : (states : List State) → (states ≡ [] → ⊥) → Some_in states
is_some_in [] h = absurd (h refl)
is_some_in (x ∷ states) h = (x, first_in x states)

module _ (next : List ℕ → ℕ → ℕ) where
  -- at every line up to here at most 64 states fit
  abbrev Narrow : List Marked → Type 0
  Narrow before = (earlier later : List Marked) → earlier ++ later ≡ before → length (fits next earlier).states ≤ 64

  narrow_none : Narrow []
  narrow_none [] later e = omega arith
  narrow_none (x ∷ earlier) later e = absurd cc

  one_only : (x : Marked) (earlier later : List Marked) (line : Marked) → x ∷ (earlier ++ later) ≡ line ∷ []
      → x ∷ earlier ≡ line ∷ []
  one_only x [] later line e = ap (λ (z : Marked). z ∷ []) (heads x line later [] e)
  one_only x (y ∷ earlier) later line e = absurd
      (no_more [] y (earlier ++ later) (tails x line (y ∷ (earlier ++ later)) [] e))

  front : (earlier later before : List Marked) (line : Marked) → earlier ++ later ≡ before ++ line ∷ []
      → ((rest : List Marked) × (earlier ++ rest ≡ before)) ⊎ (earlier ≡ before ++ line ∷ [])
  front [] later before line e = inl (before, refl)
  front (x ∷ earlier) later [] line e = inr (one_only x earlier later line e)
  front (x ∷ earlier) later (y ∷ before) line e =
      let same : x ≡ y = heads x y (earlier ++ later) (before ++ line ∷ []) e in
      ⊎_elim
      (λ (r : (rest : List Marked) × (earlier ++ rest ≡ before)). inl
      (r.0, ap (λ (z : Marked). z ∷ (earlier ++ r.0)) same ∙ ap (λ (l : List Marked). y ∷ l) r.1))
      (λ (r : earlier ≡ before ++ line ∷ []). inr
      (ap (λ (z : Marked). z ∷ earlier) same ∙ ap (λ (l : List Marked). y ∷ l) r))
      (front earlier later before line (tails x y (earlier ++ later) (before ++ line ∷ []) e))

  narrow_more : (before : List Marked) (line : Marked) → Narrow before
      → length (fits next (before ++ line ∷ [])).states ≤ 64 → Narrow (before ++ line ∷ [])
  narrow_more before line narrow most earlier later e =
      ⊎_elim (λ (r : (rest : List Marked) × (earlier ++ rest ≡ before)). narrow earlier r.0 r.1)
      (λ (r : earlier ≡ before ++ line ∷ []). subst (λ (l : List Marked). length (fits next l).states ≤ 64) (sym r)
      most) (front earlier later before line e)

  -- What is known of the lines so far, which this many are.
  record Known (before : List Marked) (n : ℕ) : Type 0 where
    pub number : n ≡ length before
    pub some : Some_in (fits next before).states
    pub narrow : Narrow before

  counted_is : (before : List Marked) (n : ℕ) → n ≡ length before → counted (n + 1) ≡ counted (length before + 1)
  counted_is before n e = ap (λ (k : ℕ). counted (k + 1)) e

  begins : (before : List Marked) → Some_in (fits next before).states → BeginsLog next before
  begins before some = fits_begin next before some.0 some.1

  end_means : (before : List Marked) (n : ℕ) (waiting : List Step) → Known before n
      → (fits next before).waiting ≡ waiting → Means next before (at_end n waiting)
  end_means before n [] k w = (ap counted k.number, fits_whole next before k.some.0 k.some.1 w, k.narrow)
  end_means before n (step ∷ waiting) k w =
      inr (
        counted_is before n k.number,
        begins before k.some,
        λ log. no_more [] step waiting
            (sym w ∙ whole_fits next before log),
      )

  module _ (before : List Marked) (line : Marked) (lines : List Marked) (n : ℕ) (k : Known before n) where
    abbrev all : List Marked
    all = before ++ line ∷ lines

    line_at : IsLine all (counted (n + 1))
    line_at = record {
      earlier = before;
      line = line;
      later = lines;
      split = refl;
      number = counted_is before n
          k.number;
    }

    unread_means : line ≡ Unmarked → Means next all (Unread (counted (n + 1)))
    unfolding line_at
    unread_means e = (line_at, begins before k.some, e)

    none_means : (fits next (before ++ line ∷ [])).states ≡ [] → Means next all (No (counted (n + 1)))
    unfolding line_at
    none_means e =
        inl (
          line_at,
          begins before k.some,
          λ b. let s = (begun_fits next (before ++ line ∷ []) b).1 in none_in s.0
              (subst (λ (l : List State). Contains l s.0) e s.1),
        )

    wide_means : 64 < length (fits next (before ++ line ∷ [])).states → Means next all (Wide (counted (n + 1)))
    unfolding line_at
    wide_means e = (line_at, e)

  -- What is shown of a verdict at a line, and of those behind it.
  marked_means : (before : List Marked) (line : Marked) (lines : List Marked) (n : ℕ) (states : List State)
      (later : Verdict) → Known before n → (fits next (before ++ line ∷ [])).states ≡ states
      → (Known (before ++ line ∷ []) (n + 1) → Means next (before ++ line ∷ lines) later) → (ended : Option Verdict)
      → (((states ≡ []) × (ended ≡ Some (No (counted (n + 1)))))
      ⊎ ((states ≡ [] → ⊥) × (ended ≡ (if nat_lt 64 (length states) then Some (Wide (counted (n + 1))) else None))))
      → Means next (before ++ line ∷ lines) (unwrap_or ended later)
  marked_means before line lines n states later k is more ended (inl e) =
      subst (λ (o : Option Verdict). Means next (before ++ line ∷ lines) (unwrap_or o later)) (sym e.1)
      (none_means before line lines n k (is ∙ e.0))
  marked_means before line lines n states later k is more ended (inr e) =
      ⊎_elim
      (λ (t : nat_lt 64 (length states) ≡ true).
      let same : ended ≡ Some (Wide (counted (n + 1))) = e.1 ∙ (rw t refl) in
      subst (λ (o : Option Verdict). Means next (before ++ line ∷ lines) (unwrap_or o later)) (sym same)
      (wide_means before line lines n k (subst (λ (l : List State). 64 < length l) (sym is)
      (below 64 (length states) t))))
      (λ (t : nat_lt 64 (length states) ≡ false).
      let same : ended ≡ None = e.1 ∙ (rw t refl) in
      subst (λ (o : Option Verdict). Means next (before ++ line ∷ lines) (unwrap_or o later)) (sym same)
      (more record {
        number = ap (λ (m : ℕ). m + 1) k.number ∙ sym (length-append before (line ∷ []));
        some = subst Some_in (sym is) (is_some_in states e.0);
        narrow = narrow_more before line k.narrow
            (subst (λ (l : List State). length l ≤ 64) (sym is) (not_below 64 (length states) t));
      }))
      (cases_Bool (nat_lt 64 (length states)))

  abbrev Marks : Marked → Type 0
  Marks Unmarked = ⊥
  Marks line = Unit {0}

  ended_cases : (line : Marked) (n : ℕ) (states : List State) → Marks line
      → ((states ≡ []) × (ended_at n line states ≡ Some (No (counted n))))
      ⊎ ((states ≡ [] → ⊥) × (ended_at n line states ≡ (if nat_lt 64 (length states) then Some (Wide (counted n))
      else None)))
  ended_cases (Typed line) n [] m = inl (refl, refl)
  ended_cases (Typed line) n (x ∷ states) m = inr (λ e. cc, refl)
  ended_cases (Told text) n [] m = inl (refl, refl)
  ended_cases (Told text) n (x ∷ states) m = inr (λ e. cc, refl)
  ended_cases Unmarked n states m = absurd m

  line_means : (line : Marked) (lines before : List Marked) (n : ℕ) → Known before n → Marks line
      → (Known (before ++ line ∷ []) (n + 1) → Means next (before ++ line ∷ lines)
      (judged next (n + 1) (after_line next (fits next before) line) lines))
      → Means next (before ++ line ∷ lines) (judged next n (fits next before) (line ∷ lines))
  line_means line lines before n k m more =
      marked_means before line lines n (after_line next (fits next before) line).states
      (judged next (n + 1) (after_line next (fits next before) line) lines) k
      (ap (λ (f : Fit). f.states) (after_snoc next before first_fit line)) more
      (ended_at (n + 1) line (after_line next (fits next before) line).states)
      (ended_cases line (n + 1) (after_line next (fits next before) line).states m)

  behind : (line : Marked) (lines before : List Marked) (n : ℕ)
      → Means next ((before ++ line ∷ []) ++ lines) (judged next (n + 1) (fits next (before ++ line ∷ [])) lines)
      → Means next (before ++ line ∷ lines) (judged next (n + 1) (after_line next (fits next before) line) lines)
  behind line lines before n m =
      subst (λ (f : Fit). Means next (before ++ line ∷ lines) (judged next (n + 1) f lines))
      (after_snoc next before first_fit line)
      (subst (λ (l : List Marked). Means next l (judged next (n + 1) (fits next (before ++ line ∷ [])) lines))
      (append_assoc before (line ∷ []) lines) m)

  judged_means : (lines before : List Marked) (n : ℕ) → Known before n
      → Means next (before ++ lines) (judged next n (fits next before) lines)
  judged_means [] before n k = subst (λ (l : List Marked). Means next l (at_end n (fits next before).waiting))
      (sym (append-nil before)) (end_means before n (fits next before).waiting k refl)
  judged_means (Unmarked ∷ lines) before n k = unread_means before Unmarked lines n k refl
  judged_means (Typed line ∷ lines) before n k = line_means (Typed line) lines before n k tt
      (λ m. behind (Typed line) lines before n (judged_means lines (before ++ Typed line ∷ []) (n + 1) m))
  judged_means (Told text ∷ lines) before n k = line_means (Told text) lines before n k tt
      (λ m. behind (Told text) lines before n (judged_means lines (before ++ Told text ∷ []) (n + 1) m))

  pub verdict_means : (lines : List Marked) → Means next lines (verdict_on next lines)
  verdict_means lines = judged_means lines [] 0 record
      { number = refl; some = (starting Blank 0, first_in (starting Blank 0) []); narrow = narrow_none }

  -- a line without a mark may not come
  no_unmarked : (earlier later : List Marked) (old : Fit) → MayAllCome next old (earlier ++ Unmarked ∷ later) → ⊥
  no_unmarked [] later old may = may.0
  no_unmarked (x ∷ earlier) later old may = no_unmarked earlier later (after_line next old x) may.1

  -- the first lines of a log begin it
  front_begins : (lines earlier : List Marked) (line : Marked) (later : List Marked) → lines ≡ earlier ++ line ∷ later
      → IsLog next lines → BeginsLog next (earlier ++ line ∷ [])
  front_begins lines earlier line later split log =
      record { more = later; log = subst (IsLog next) (split ∙ sym (append_assoc earlier (line ∷ []) later)) log }

  yes_of : (lines : List Marked) (verdict : Verdict) → Means next lines verdict → IsLog next lines
      → NeverWide next lines → verdict ≡ Yes (counted (length lines))
  yes_of lines (Yes n) means log narrow = ap Yes means.0
  yes_of lines (No n) (inl breaks) log narrow = absurd
      (breaks.2 (front_begins lines breaks.0.earlier breaks.0.line breaks.0.later breaks.0.split log))
  yes_of lines (No n) (inr misses) log narrow = absurd (misses.2 log)
  yes_of lines (Wide n) means log narrow =
      let at = means.0 in
      let most : length (fits next (at.earlier ++ at.line ∷ [])).states ≤ 64 = narrow (at.earlier ++ at.line ∷ [])
      at.later (append_assoc at.earlier (at.line ∷ []) at.later ∙ sym at.split) in
      absurd (omega (arith, most, means.1))
  yes_of lines (Unread n) means log narrow =
      let at = means.0 in
      let may : MayAllCome next first_fit lines = (begun_fits next lines (whole_begins next lines log)).0 in
      absurd (no_unmarked at.earlier at.later first_fit
      (subst (MayAllCome next first_fit) (at.split ∙ ap (λ (l : Marked). at.earlier ++ l ∷ at.later) means.2) may))

  -- a whole log that never fits more than 64 states is a yes
  pub verdict_yes : (lines : List Marked) → IsLog next lines → NeverWide next lines
      → verdict_on next lines ≡ Yes (counted (length lines))
  verdict_yes lines log narrow = yes_of lines (verdict_on next lines) (verdict_means lines) log narrow
