-- Texts of lists with a line behind them.
use Rattle.std.proofs.Common.{◌≡◌, ℕ, zero, suc, ◌<◌, List, [], ◌∷◌, ◌++◌, length, map, take, slice_index_or, Result, Ok, Err, refl, ap, sym, subst, ◌∙◌}
use Rattle.std.specs.List.{flat_map}
use Rattle.std.proofs.lemmas.List.{length-map}
use Rattle.paygo_spec.specs.Streams.{SinkView}
use Rattle.paygo_ports.specs.declared.sink.WriteFault.{WriteFault}
use Rattle.ledger_spec.specs.Stuck.{Stuck}
use Rattle.line_output.specs.Written.{Wrote}
use Rattle.table_flaws.specs.Found.{Findings}
use Rattle.table_flaws.specs.FlawText.{flaw_line, twins_line, numbers_line, text_of_findings}
use Rattle.stuck_values.specs.declared.stuck_value.StuckValue.{StuckValue}
use Rattle.stuck_values.specs.Listing.{stuck_of_code}
use Rattle.paygo_cli.specs.Listed.{stuck_text, stuck_line, count_line, text_of_values}
use Rattle.paygo_cli.proofs.Pieces.{behind, cut_short, cut_at}

-- the text behind the flaws
abbrev pub rest_of : Findings → List ℕ
rest_of found =
    flat_map twins_line found.twins
    ++ numbers_line found.rows found.orders (length found.flaws) (length found.twins)

text_of_flaws : (found : Findings) → flat_map flaw_line found.flaws ++ rest_of found ≡ text_of_findings found
unfolding text_of_findings
text_of_flaws found = refl

pub found_written : (found : Findings) (result : Result (Unit {0}) WriteFault) (old mid new : SinkView)
    → Wrote (flat_map flaw_line found.flaws) (Ok tt) old mid → Wrote (rest_of found) result mid new
    → Wrote (text_of_findings found) result old new
found_written found result old mid new first second =
    subst (λ (l : List ℕ). Wrote l result old new) (text_of_flaws found)
    (behind (flat_map flaw_line found.flaws) (rest_of found) result old mid new first second)

pub found_cut : (found : Findings) (fault : WriteFault) (old new : SinkView)
    → Wrote (flat_map flaw_line found.flaws) (Err fault) old new → Wrote (text_of_findings found) (Err fault) old new
found_cut found fault old new cut =
    subst (λ (l : List ℕ). Wrote l (Err fault) old new) (text_of_flaws found)
    (cut_short (flat_map flaw_line found.flaws) (rest_of found) fault old new cut)

-- the lines of a list that is read in another form
mapped_lines : {A B : Type 0} (f : A → B) (line : B → List ℕ) (xs : List A)
    → flat_map (λ x. line (f x)) xs ≡ flat_map line (map f xs)
mapped_lines f line [] = refl
mapped_lines f line (x ∷ xs) = ap (λ l. line (f x) ++ l) (mapped_lines f line xs)

text_of_list : {A : Type 0} (f : A → Stuck) (xs : List A)
    → flat_map (λ x. stuck_line (f x)) xs ++ count_line (length xs) ≡ text_of_values (map f xs)
unfolding text_of_values
text_of_list f xs =
    ap (λ l. l ++ count_line (length xs)) (mapped_lines f stuck_line xs)
    ∙ ap (λ n. flat_map stuck_line (map f xs) ++ count_line n) (sym (length-map xs f))

pub values_written : {A : Type 0} (f : A → Stuck) (xs : List A) (result : Result (Unit {0}) WriteFault)
    (old mid new : SinkView) → Wrote (flat_map (λ x. stuck_line (f x)) xs) (Ok tt) old mid
    → Wrote (count_line (length xs)) result mid new → Wrote (text_of_values (map f xs)) result old new
values_written f xs result old mid new first second =
    subst (λ (l : List ℕ). Wrote l result old new) (text_of_list f xs)
    (behind (flat_map (λ x. stuck_line (f x)) xs) (count_line (length xs)) result old mid new first second)

pub values_cut : {A : Type 0} (f : A → Stuck) (xs : List A) (fault : WriteFault) (old new : SinkView)
    → Wrote (flat_map (λ x. stuck_line (f x)) xs) (Err fault) old new
    → Wrote (text_of_values (map f xs)) (Err fault) old new
values_cut f xs fault old new cut =
    subst (λ (l : List ℕ). Wrote l (Err fault) old new) (text_of_list f xs)
    (cut_short (flat_map (λ x. stuck_line (f x)) xs) (count_line (length xs)) fault old new cut)

-- an item that is there is the same with another default
same_item : {A : Type 0} (xs : List A) (i : ℕ) (other : A)
    → slice_index_or xs i other ≡ slice_index_or xs i (slice_index_or xs i other)
same_item [] i other = refl
same_item (x ∷ xs) zero other = refl
same_item (x ∷ xs) (suc i) other = same_item xs i other

-- the line of one of some listed values was cut
pub stuck_cut : (list : List StuckValue) (i : ℕ) (other : StuckValue) (text : List ℕ) → i < length list
    → text ≡ stuck_text (stuck_of_code (slice_index_or list i other)) → (fault : WriteFault)
    (old mid new : SinkView)
    → mid.written ≡ old.written ++ flat_map (λ stuck. stuck_line (stuck_of_code stuck)) (take i list)
    → Wrote (text ++ 10 ∷ []) (Err fault) mid new
    → Wrote (flat_map (λ stuck. stuck_line (stuck_of_code stuck)) list) (Err fault) old new
stuck_cut list i other text less is fault old mid new before cut =
    cut_at (λ stuck. stuck_line (stuck_of_code stuck)) list i (slice_index_or list i other) less
    (same_item list i other) fault old mid new before
    (subst (λ (l : List ℕ). Wrote l (Err fault) mid new) (ap (λ l. l ++ 10 ∷ []) is) cut)
