-- A turn: a line was taken and handled, or the last word was said.
use Rattle.std.proofs.Common.{◌≡◌, ℕ, ◌<◌, ◌≤◌, Bool, true, false, inl, inr, List, ◌++◌, length, take, Ok, Err, Result, Option, Some, None, refl, ap, ◌∙◌, subst, arith}
use Rattle.std.proofs.lemmas.List.{length-take}
use Rattle.paygo_spec.specs.Faults.{Rose, Counted}
use Rattle.paygo_spec.specs.Flash.{FlashView, KeepsPlan}
use Rattle.paygo_spec.specs.Streams.{SinkView}
use Rattle.paygo_spec.proofs.Plans.{plan_stays, plan_then}
use Rattle.ledger_spec.specs.Keeper.{KeeperView}
use Rattle.run_spec.specs.declared.Status.{Status}
use Rattle.paygo_ports.specs.declared.sink.WriteFault.{WriteFault}
use Rattle.line_loop.specs.declared.handler.LineFault.{LineFault}
use Rattle.line_loop.specs.declared.handler.LineFault.TheVariants as fault
use Rattle.line_loop.specs.Handling.{Desk, HasCauses, of_line}
use Rattle.line_loop.specs.Outside.{Outside, FaultIf, Causes, is_read, is_write, is_keep}
use Rattle.line_loop.specs.Reader.{Came, IsLine}
use Rattle.line_loop.specs.Turn.{Parts, TakesEnd, Turned, ended_by, concluded_by}

module _ {H : Type 0} (handles : List ℕ → Result (Unit {0}) LineFault → Desk H → Desk H → Type 0)
    (concludes : H → Result (Unit {0}) WriteFault → SinkView → SinkView → Type 0) where
  -- a line was taken, and the run goes on or ends by what became of it
  pub took : (outcome : Result (Unit {0}) LineFault) (came line : List ℕ) (old new : Parts H) → Came came old.lines new.lines old.source new.source
      → IsLine (old.lines.held ++ came) line new.lines → length new.lines.held < 8192 → handles line outcome old.desk new.desk
      → Turned handles concludes (ended_by outcome) old new
  took (Ok done) came line old new counts is ahead one =
      record { came = came; counts = counts; turns = record { line = line; is_line = is; ahead = ahead; handled = one } }
  took (Err fault.Write) came line old new counts is ahead one =
      record { came = came; counts = counts; turns = inl record { line = line; is_line = is; ahead = ahead; handled = one } }
  took (Err fault.Keep) came line old new counts is ahead one =
      record { came = came; counts = counts; turns = record { line = line; is_line = is; ahead = ahead; handled = one } }
  took (Err fault.Memory) came line old new counts is ahead one =
      record { came = came; counts = counts; turns = record { line = line; is_line = is; ahead = ahead; handled = one } }

  -- the last word was said or cut, and the run ends by that
  pub ended : (outcome : Result (Unit {0}) WriteFault) (came : List ℕ) (old new : Parts H) → Came came old.lines new.lines old.source new.source
      → TakesEnd concludes outcome came old new → Turned handles concludes (Some (concluded_by outcome)) old new
  ended (Ok done) came old new counts takes = record { came = came; counts = counts; turns = takes }
  ended (Err failed) came old new counts takes = record { came = came; counts = counts; turns = inr (failed, takes) }

-- a front of a buffer has no more bytes than were asked for
pub front_short : (size : ℕ) (buffer : List ℕ) → size ≤ 4096 → length (take size buffer) ≤ 4096
front_short size buffer most = omega (arith, length-take size buffer)

-- who is to blame for a line
pub blamed : (outcome : Result (Unit {0}) LineFault) (old new : Outside) → new.source.faults ≡ old.source.faults
    → HasCauses outcome old.keeper.faults new.keeper.faults old.sink.faults new.sink.faults → KeepsPlan old.flash new.flash → Causes (ended_by outcome) old new
blamed (Ok done) old new source causes plan = record { source = source; sink = causes.1; keeper = causes.0; flash = plan }
blamed (Err fault.Write) old new source causes plan = record { source = source; sink = causes.1; keeper = causes.0; flash = plan }
blamed (Err fault.Keep) old new source causes plan = record { source = source; sink = causes.1; keeper = causes.0; flash = plan }
blamed (Err fault.Memory) old new source causes plan = record { source = source; sink = causes.1; keeper = causes.0; flash = plan }

-- a fault of the sink alone
same_flash : (old new : FlashView) → new ≡ old → KeepsPlan old new
same_flash old new same = plan_stays old new (ap (λ (f : FlashView). f.due) same) (ap (λ (f : FlashView). f.faults) same)

pub counted_line : (outcome : Result (Unit {0}) WriteFault) (keeper sink sink' : ℕ) → Counted outcome sink sink' → HasCauses (of_line outcome) keeper keeper sink sink'
counted_line (Ok done) keeper sink sink' counted = (refl, counted)
counted_line (Err failed) keeper sink sink' counted = (refl, counted)

-- and for a line above 4,096 bytes, or the last word
pub blamed_long : (outcome : Result (Unit {0}) WriteFault) (old new : Outside) → new.source.faults ≡ old.source.faults → Counted outcome old.sink.faults new.sink.faults
    → new.keeper ≡ old.keeper → new.flash ≡ old.flash → Causes (ended_by (of_line outcome)) old new
blamed_long (Ok done) old new source sink keeper flash =
    record { source = source; sink = sink; keeper = ap (λ (k : KeeperView). k.faults) keeper; flash = same_flash old.flash new.flash flash }
blamed_long (Err broken) old new source sink keeper flash =
    record { source = source; sink = sink; keeper = ap (λ (k : KeeperView). k.faults) keeper; flash = same_flash old.flash new.flash flash }

pub blamed_end : (outcome : Result (Unit {0}) WriteFault) (old new : Outside) → new.source.faults ≡ old.source.faults → Counted outcome old.sink.faults new.sink.faults
    → new.keeper ≡ old.keeper → new.flash ≡ old.flash → Causes (Some (concluded_by outcome)) old new
blamed_end (Ok done) old new source sink keeper flash =
    record { source = source; sink = sink; keeper = ap (λ (k : KeeperView). k.faults) keeper; flash = same_flash old.flash new.flash flash }
blamed_end (Err broken) old new source sink keeper flash =
    record { source = source; sink = sink; keeper = ap (λ (k : KeeperView). k.faults) keeper; flash = same_flash old.flash new.flash flash }

-- nothing failed
pub calm : (old : Outside) → Causes None old old
calm old = record { source = refl; sink = refl; keeper = refl; flash = plan_stays old.flash old.flash refl refl }

-- one fault at most, behind calls that counted none
fault_then : (failed : Bool) (before mid now : ℕ) → mid ≡ before → FaultIf failed mid now → FaultIf failed before now
fault_then true before mid now same rose = subst (λ (n : ℕ). Rose n now) same rose
fault_then false before mid now same still = still ∙ same

pub causes_then : (ended : Option Status) (first old new : Outside) → Causes None first old → Causes ended old new → Causes ended first new
causes_then ended first old new was now = record {
  source = fault_then (is_read ended) first.source.faults old.source.faults new.source.faults was.source now.source;
  sink = fault_then (is_write ended) first.sink.faults old.sink.faults new.sink.faults was.sink now.sink;
  keeper = fault_then (is_keep ended) first.keeper.faults old.keeper.faults new.keeper.faults was.keeper now.keeper;
  flash = plan_then first.flash old.flash new.flash was.flash now.flash;
}
