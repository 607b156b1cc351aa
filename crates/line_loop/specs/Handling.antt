-- What a run over lines makes of them: they are handled one after another, until one fails or the input ends.
use Rattle.std.specs.Prelude.{◌≡◌, ℕ, ◌++◌, Bool, true, ◌⊎◌, List, [], ◌∷◌, Result, Ok, Err}
use Rattle.paygo_spec.specs.Faults.{Rose}
use Rattle.paygo_spec.specs.Flash.{FlashView}
use Rattle.paygo_spec.specs.Streams.{SourceView, SinkView}
use Rattle.ledger_spec.specs.Keeper.{KeeperView}
use Rattle.run_spec.specs.declared.Status.{Status}
use Rattle.run_spec.specs.declared.Status.TheVariants as status
use Rattle.run_spec.specs.Lines.{whole_lines, all_lines}
use Rattle.run_spec.specs.Ran.{IsAmong}
use Rattle.paygo_ports.specs.declared.sink.WriteFault.{WriteFault}
use Rattle.line_loop.specs.declared.handler.LineFault.{LineFault}
use Rattle.line_loop.specs.declared.handler.LineFault.TheVariants as fault

-- What handles lines, and what is seen of all that it works with.
pub record Desk (Handler : Type 0) : Type 0 where
  pub handler : Handler
  pub keeper : KeeperView
  pub flash : FlashView
  pub sink : SinkView

abbrev pub desk : {Handler : Type 0} → Handler → KeeperView → FlashView → SinkView → Desk Handler
desk handler keeper flash sink = record { handler = handler; keeper = keeper; flash = flash; sink = sink }

-- A fault of the sink as one of a line.
abbrev pub of_line : Result (Unit {0}) WriteFault → Result (Unit {0}) LineFault
of_line (Ok done) = Ok done
of_line (Err failed) = Err fault.Write

-- Who is to blame for a line that wasn't handled: the keeper at Keep and the sink at Write, each by one fault. Else neither
-- had one.
abbrev pub HasCauses : Result (Unit {0}) LineFault → (keeper keeper' sink sink' : ℕ) → Type 0
HasCauses (Err fault.Keep) keeper keeper' sink sink' = Rose keeper keeper' × (sink' ≡ sink)
HasCauses (Err fault.Write) keeper keeper' sink sink' = (keeper' ≡ keeper) × Rose sink sink'
HasCauses result keeper keeper' sink sink' = (keeper' ≡ keeper) × (sink' ≡ sink)

-- These lines were handled, one after another.
abbrev pub Handled : {Handler : Type 0} → (List ℕ → Result (Unit {0}) LineFault → Desk Handler → Desk Handler → Type 0)
    → List (List ℕ) → Desk Handler → Desk Handler → Type 0
Handled handles [] old new = new ≡ old
Handled {Handler} handles (line ∷ lines) old new =
    (mid : Desk Handler) × handles line (Ok tt) old mid × Handled handles lines mid new

-- A line of the bytes taken failed, and each one before it was handled.
pub record FailsAt {Handler : Type 0}
    (handles : List ℕ → Result (Unit {0}) LineFault → Desk Handler → Desk Handler → Type 0) (failed : LineFault)
    (ended : Bool) (taken : List ℕ) (old new : Desk Handler) : Type 0 where
  pub earlier : List (List ℕ)
  pub line : List ℕ
  pub place : IsAmong ended taken earlier line
  pub mid : Desk Handler
  pub handled : Handled handles earlier old mid
  pub fails : handles line (Err failed) mid new

-- All lines of an input that has ended were handled, and then the last word was said or cut.
pub record Concludes {Handler : Type 0}
    (handles : List ℕ → Result (Unit {0}) LineFault → Desk Handler → Desk Handler → Type 0)
    (concludes : Handler → Result (Unit {0}) WriteFault → SinkView → SinkView → Type 0)
    (outcome : Result (Unit {0}) WriteFault) (taken : List ℕ) (old new : Desk Handler) : Type 0 where
  pub mid : Desk Handler
  pub handled : Handled handles (all_lines taken) old mid
  pub last : concludes mid.handler outcome mid.sink new.sink
  pub same : new ≡ record mid { sink = new.sink }

-- The sink failed at the answers to a line, or at the last word behind all lines of an input that has ended.
abbrev pub WriteFails : {Handler : Type 0}
    → (List ℕ → Result (Unit {0}) LineFault → Desk Handler → Desk Handler → Type 0)
    → (Handler → Result (Unit {0}) WriteFault → SinkView → SinkView → Type 0)
    → Bool → List ℕ → Desk Handler → Desk Handler → Type 0
WriteFails handles concludes ended taken old new =
    FailsAt handles fault.Write ended taken old new
    ⊎ ((ended ≡ true) × ((failed : WriteFault) × Concludes handles concludes (Err failed) taken old new))

-- What became of the lines of the bytes taken, by the status of the run and whether the source has told its end.
abbrev pub EndsWith : {Handler : Type 0}
    → (List ℕ → Result (Unit {0}) LineFault → Desk Handler → Desk Handler → Type 0)
    → (Handler → Result (Unit {0}) WriteFault → SinkView → SinkView → Type 0)
    → Status → Bool → List ℕ → Desk Handler → Desk Handler → Type 0
EndsWith handles concludes status.Ok ended taken old new = Concludes handles concludes (Ok tt) taken old new
EndsWith handles concludes status.Read ended taken old new = Handled handles (whole_lines taken) old new
EndsWith handles concludes status.Long ended taken old new = Handled handles (whole_lines taken) old new
EndsWith handles concludes status.Write ended taken old new = WriteFails handles concludes ended taken old new
EndsWith handles concludes status.Keep ended taken old new = FailsAt handles fault.Keep ended taken old new
EndsWith handles concludes status.Memory ended taken old new = FailsAt handles fault.Memory ended taken old new
EndsWith handles concludes status.Usage ended taken old new = ⊥

-- What a run over lines did: its source handed out these bytes, and that became of their lines.
pub record Loops {Handler : Type 0}
    (handles : List ℕ → Result (Unit {0}) LineFault → Desk Handler → Desk Handler → Type 0)
    (concludes : Handler → Result (Unit {0}) WriteFault → SinkView → SinkView → Type 0)
    (result : Status) (was now : SourceView) (old new : Desk Handler) : Type 0 where
  pub taken : List ℕ
  pub given : now.given ≡ was.given ++ taken
  pub ends : EndsWith handles concludes result now.ended taken old new
