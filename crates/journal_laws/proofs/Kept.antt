-- The summary after the entries of a bank keeps the rules.
use Rattle.std.proofs.Common.{◌≡◌, ℕ, zero, suc, true, false, ◌+◌, ◌*◌, ◌≤◌, ◌==◌, List, [], ◌∷◌, Option, Some, None, Result, Ok, Err, ok_or, refl, arith, sym, subst, ⊎_elim}
use Rattle.std.proofs.lemmas.Bool.{cases_Bool}
use Rattle.std.proofs.Math.Nat.{div-le_self}
use Rattle.paygo_spec.specs.Rail.{is_railed, number_in}
use Rattle.paygo_spec.specs.Flash.{erased_word}
use Rattle.paygo_spec.specs.History.{Summary}
use Rattle.paygo_spec.specs.Clock.{unit_of}
use Rattle.paygo_spec.specs.Lawful.{IsSummary, Lawful}
use Rattle.paygo_spec.specs.Snapshot.{snapshot}
use Rattle.paygo_spec.specs.EntryNumber.{after_number}
use Rattle.paygo_spec.specs.Recovery.{word_at, after_word, summary_after, used}
use Rattle.paygo_spec.proofs.Snapshots.{snapshot_start, snapshot_keeps}
use Rattle.paygo_spec.proofs.Entries.{read_entry}

-- a unit has at most the seconds of a day
pub unit_fits : (divider : ℕ) → unit_of divider ≤ 86400
unit_fits divider = div-le_self 86400 divider

-- an entry that is read keeps the rules
pub next_keeps : (unit x : ℕ) (start t : Summary) → unit ≤ 86400 → IsSummary start → after_number unit start x ≡ Some t → IsSummary t
next_keeps unit x start t u s h =
    let same : snapshot unit start [] ≡ start = snapshot_start unit start s in
    let k = read_entry unit start [] x t (subst (λ y. after_number unit y x ≡ Some t) (sym same) h) in
    let lawful : Lawful unit start (k.0 ∷ []) = (s, k.2.0) in
    subst IsSummary (sym k.3) (snapshot_keeps unit start (k.0 ∷ []) u lawful)

-- and so does a word that is passed over
taken : (o : Option Summary) (at : ℕ) (t : Summary) → ok_or o at ≡ Ok t → o ≡ Some t
taken None at t h = cc
taken (Some s) at t h = cc

pub word_keeps : (unit at word : ℕ) (s t : Summary) → unit ≤ 86400 → IsSummary s → after_word unit at word (Ok s) ≡ Ok t → IsSummary t
word_keeps unit at word s t u k h =
    ⊎_elim
    (λ (r : is_railed word ≡ true). next_keeps unit (number_in word) s t u k (taken (after_number unit s (number_in word)) at t (rw r at h)))
    (λ (r : is_railed word ≡ false). let e : Ok s ≡ Ok t = rw r at h in let same : s ≡ t = cc in subst IsSummary same k)
    (cases_Bool (is_railed word))

step_keeps : (unit at word : ℕ) (before : Result Summary ℕ) (t : Summary) → unit ≤ 86400 → ((s : Summary) → before ≡ Ok s → IsSummary s) → after_word unit at word before ≡ Ok t → IsSummary t
step_keeps unit at word (Err damaged) t u k h = cc
step_keeps unit at word (Ok s) t u k h = word_keeps unit at word s t u (k s refl) h

pub summary_keeps : (words : List ℕ) (bank unit : ℕ) (start : Summary) (n : ℕ) → unit ≤ 86400 → IsSummary start → (t : Summary) → summary_after words bank unit start n ≡ Ok t → IsSummary t
unfolding summary_after
summary_keeps words bank unit start zero u s t h = let same : start ≡ t = cc in subst IsSummary same s
summary_keeps words bank unit start (suc n) u s t h =
    step_keeps unit (512 * bank + (12 + n)) (word_at words bank (12 + n)) (summary_after words bank unit start n) t u (summary_keeps words bank unit start n u s) h

-- no more words are used than there are
pub used_within : (words : List ℕ) (bank n : ℕ) → used words bank n ≤ n
unfolding used
used_within words bank zero = omega arith
used_within words bank (suc n) =
    let i : used words bank n ≤ n = used_within words bank n in
    ⊎_elim
    (λ (e : (word_at words bank (12 + n) == erased_word) ≡ true). rw e (omega arith))
    (λ (e : (word_at words bank (12 + n) == erased_word) ≡ false). rw e (omega arith))
    (cases_Bool (word_at words bank (12 + n) == erased_word))
