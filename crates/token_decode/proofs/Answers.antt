-- One window stands for many histories, and gives each of them its answer.
use Rattle.std.proofs.Common.{◌≡◌, ℕ, ◌+◌, Bool, true, false, Option, Some, None, List, [], refl, sym, ap, ◌∙◌}
use Rattle.paygo_spec.specs.declared.Entry.{Entry}
use Rattle.paygo_spec.specs.Chain.{value_in}
use Rattle.paygo_spec.specs.Least.{least}
use Rattle.paygo_spec.specs.History.{Summary, limit_of, reach}
use Rattle.paygo_spec.specs.Window.{StandsFor, alone}
use Rattle.paygo_spec.specs.Found.{is_match, both, found_at, least_at, is_raised, answer, takes, found}
use Rattle.paygo_spec.specs.Snapshot.{snapshot}
use Rattle.paygo_spec.proofs.Windows.{same_reach}
use Rattle.paygo_spec.proofs.Snapshots.{snapshot_stands}
use Rattle.paygo_spec.proofs.Entries.{valid_same}
use Rattle.paygo_spec.proofs.Leasts.{least_same}

-- two tests of what is valid that agree give one answer by the least match alone
same_first : (valid other : ℕ → Bool) (value : ℕ) (first : Option ℕ) → ((m : ℕ) → valid m ≡ other m) → least_at valid value first ≡ least_at other value first
same_first valid other value None same = refl
same_first valid other value (Some n) same = rw (same n) refl

-- and by all counts
pub answer_same : (raised : Bool) (matches valid other : ℕ → Bool) (value reach : ℕ) → ((m : ℕ) → valid m ≡ other m) → answer raised matches valid value reach ≡ answer raised matches other value reach
answer_same true matches valid other value reach same = same_first valid other value (least matches (reach + 1)) same
answer_same false matches valid other value reach same =
    ap (λ (o : Option ℕ). found_at value o (least matches (reach + 1)))
    (least_same (both matches valid) (both matches other) (reach + 1) (λ m below. rw (same m) refl))

-- the answer of a window is that of each history that it stands for
pub window_answers : (next : ℕ → ℕ) (start : ℕ) (origin : Summary) (entries : List Entry) (limit last bits token : ℕ) → StandsFor limit last bits origin entries
    → found next start origin entries token ≡ found next start (alone limit last bits) [] token
window_answers next start origin entries limit last bits token stands =
    let value : ℕ = value_in start token in
    let raised : Bool = is_raised (limit_of origin entries) in
    answer_same raised (is_match next start token value) (takes origin entries value) (takes (alone limit last bits) [] value) value (reach origin entries value)
    (λ m. valid_same origin entries limit last bits m value stands)
    ∙ ap (λ (r : ℕ). answer raised (is_match next start token value) (takes (alone limit last bits) [] value) value r) (same_reach origin entries limit last bits value stands)
    ∙ ap (λ (n : ℕ). answer (is_raised n) (is_match next start token value) (takes (alone limit last bits) [] value) value (reach (alone limit last bits) [] value)) (sym stands.limit_is)

-- and so is that of its snapshot, although the entries are forgotten
pub snapshot_answers : (next : ℕ → ℕ) (unit start : ℕ) (origin : Summary) (entries : List Entry) (token : ℕ)
    → found next start (snapshot unit origin entries) [] token ≡ found next start origin entries token
snapshot_answers next unit start origin entries token =
    sym (window_answers next start origin entries (snapshot unit origin entries).limit (snapshot unit origin entries).last (snapshot unit origin entries).bits token (snapshot_stands unit origin entries))
