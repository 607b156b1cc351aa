-- Texts that are written piece by piece.
use Rattle.std.proofs.Common.{◌≡◌, ℕ, zero, suc, ◌+◌, ◌<◌, List, [], ◌∷◌, ◌++◌, length, take, drop, slice_index_or, Result, Ok, Err, refl, ap, sym, subst, ◌∙◌, arith}
use Rattle.std.specs.List.{flat_map}
use Rattle.std.proofs.lemmas.List.{append_assoc, length-append, take-append-le}
use Rattle.std.proofs.Math.Seq.{take-append-add}
use Rattle.paygo_spec.specs.Streams.{SinkView}
use Rattle.paygo_ports.specs.declared.sink.WriteFault.{WriteFault}
use Rattle.loan_ledger.specs.Audit.{Findings}
use Rattle.loan_ledger.specs.AuditText.{wrong_line, numbers_line, text_of_findings}
use Rattle.line_output.specs.Written.{Wrote}

-- a text was written behind one that was written whole
pub behind : (a b : List ℕ) (result : Result (Unit {0}) WriteFault) (old mid new : SinkView) → mid.written ≡ old.written ++ a → Wrote b result mid new → Wrote (a ++ b) result old new
behind a b (Ok done) old mid new first second = second ∙ ap (λ l. l ++ b) first ∙ append_assoc old.written a b
behind a b (Err fault) old mid new first (n, less, second) =
    (length a + n, omega (arith, less, length-append a b), second ∙ ap (λ l. l ++ take n b) first ∙ append_assoc old.written a (take n b) ∙ ap (λ l. old.written ++ l) (sym (take-append-add a b n)))

-- a text was cut, behind which there was more to write
pub cut_short : (a b : List ℕ) (fault : WriteFault) (old new : SinkView) → Wrote a (Err fault) old new → Wrote (a ++ b) (Err fault) old new
cut_short a b fault old new (n, less, written) =
    (n, omega (arith, less, length-append a b), written ∙ ap (λ l. old.written ++ l) (sym (take-append-le n a b (omega (arith, less)))))

-- the texts of some things: those of the first ones, that of the one behind them, and those of the others
split_at : {A : Type 0} (f : A → List ℕ) (xs : List A) (i : ℕ) (x : A) → i < length xs → x ≡ slice_index_or xs i x → flat_map f xs ≡ flat_map f (take i xs) ++ (f x ++ flat_map f (drop (suc i) xs))
split_at f [] i x less is = absurd (omega (arith, less))
split_at f (y ∷ ys) zero x less is = ap (λ z. f z ++ flat_map f ys) (sym is)
split_at f (y ∷ ys) (suc i) x less is =
    ap (λ l. f y ++ l) (split_at f ys i x (omega (arith, less)) is) ∙ sym (append_assoc (f y) (flat_map f (take i ys)) (f x ++ flat_map f (drop (suc i) ys)))

-- a line for each of some things, one of which was cut
pub cut_at : {A : Type 0} (f : A → List ℕ) (xs : List A) (i : ℕ) (x : A) → i < length xs → x ≡ slice_index_or xs i x → (fault : WriteFault) (old mid new : SinkView)
    → mid.written ≡ old.written ++ flat_map f (take i xs) → Wrote (f x) (Err fault) mid new → Wrote (flat_map f xs) (Err fault) old new
cut_at f xs i x less is fault old mid new before cut =
    let rest = flat_map f (drop (suc i) xs) in
    subst (λ (l : List ℕ). Wrote l (Err fault) old new) (sym (split_at f xs i x less is))
    (behind (flat_map f (take i xs)) (f x ++ rest) (Err fault) old mid new before (cut_short (f x) rest fault mid new cut))

-- the text of what an audit found
pub text_is : (found : Findings) → flat_map wrong_line found.wrong ++ numbers_line found.rows found.orders (length found.wrong) ≡ text_of_findings found
unfolding text_of_findings
text_is found = refl

pub findings_written : (found : Findings) (result : Result (Unit {0}) WriteFault) (old mid new : SinkView) → Wrote (flat_map wrong_line found.wrong) (Ok tt) old mid
    → Wrote (numbers_line found.rows found.orders (length found.wrong)) result mid new → Wrote (text_of_findings found) result old new
findings_written found result old mid new first second =
    subst (λ (l : List ℕ). Wrote l result old new) (text_is found) (behind (flat_map wrong_line found.wrong) (numbers_line found.rows found.orders (length found.wrong)) result old mid new first second)

pub findings_cut : (found : Findings) (fault : WriteFault) (old new : SinkView) → Wrote (flat_map wrong_line found.wrong) (Err fault) old new → Wrote (text_of_findings found) (Err fault) old new
findings_cut found fault old new cut =
    subst (λ (l : List ℕ). Wrote l (Err fault) old new) (text_is found) (cut_short (flat_map wrong_line found.wrong) (numbers_line found.rows found.orders (length found.wrong)) fault old new cut)
