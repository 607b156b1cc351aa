-- What becomes of an entry is decided by the snapshot of the history.
use Rattle.std.proofs.Common.{◌≡◌, ℕ, List, [], ap}
use Rattle.paygo_spec.specs.declared.Entry.{Entry}
use Rattle.paygo_spec.specs.declared.Form.{Form}
use Rattle.paygo_spec.specs.declared.Found.{Found}
use Rattle.paygo_spec.specs.Clock.{clock_of}
use Rattle.paygo_spec.specs.History.{Summary}
use Rattle.paygo_spec.specs.Snapshot.{snapshot}
use Rattle.paygo_spec.specs.Typed.{typed, by_length, token_in}
use Rattle.token_decode.proofs.Answers.{snapshot_answers}

pub snapshot_typed : (next : ℕ → ℕ) (unit start : ℕ) (form : Form) (origin : Summary) (entries : List Entry) (digits : List ℕ)
    → typed next start unit form (snapshot unit origin entries) [] digits ≡ typed next start unit form origin entries digits
snapshot_typed next unit start form origin entries digits =
    ap (λ (answer : Found). by_length form digits (clock_of unit origin entries) answer)
    (snapshot_answers next unit start origin entries (token_in form digits))
