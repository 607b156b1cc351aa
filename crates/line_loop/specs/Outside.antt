-- What is seen of the outside of a run over lines: who is to blame for its end, and what was read.
use Rattle.std.specs.Prelude.{◌≡◌, ℕ, ◌+◌, ◌-◌, ◌^◌, ◌<◌, ◌≤◌, Bool, true, false, List, ◌++◌, length, Option, Some}
use Rattle.std.specs.Io.KnownBytes.{prepend_known, IsAtEnd}
use Rattle.paygo_spec.specs.Faults.{Rose}
use Rattle.paygo_spec.specs.Flash.{FlashView, KeepsPlan}
use Rattle.paygo_spec.specs.Streams.{SourceView, SinkView}
use Rattle.ledger_spec.specs.Keeper.{KeeperView}
use Rattle.run_spec.specs.declared.Status.{Status}
use Rattle.run_spec.specs.declared.Status.TheVariants as status

-- What is seen of the four objects of a run.
pub record Outside : Type 0 where
  pub source : SourceView
  pub sink : SinkView
  pub keeper : KeeperView
  pub flash : FlashView

abbrev pub outside : SourceView → SinkView → KeeperView → FlashView → Outside
outside source sink keeper flash = record { source = source; sink = sink; keeper = keeper; flash = flash }

-- One fault was counted if so, and else none.
abbrev pub FaultIf : Bool → ℕ → ℕ → Type 0
FaultIf true before now = Rose before now
FaultIf false before now = now ≡ before

-- A count of faults didn't rise, and doesn't stand still at the end of its type.
pub record IsCalm (before now : ℕ) : Type 0 where
  pub same : now ≡ before
  pub small : now < 2 ^ 64 - 1

-- Who is to blame for the end of a run, if it has ended: the source at Read, the sink at Write, and the keeper at Keep.
abbrev pub is_read : Option Status → Bool
is_read (Some status.Read) = true
is_read _ = false

abbrev pub is_write : Option Status → Bool
is_write (Some status.Write) = true
is_write _ = false

abbrev pub is_keep : Option Status → Bool
is_keep (Some status.Keep) = true
is_keep _ = false

-- Who is to blame had one fault, and no other of source, sink and keeper had one. Of the flash no more failed than was planned.
pub record Causes (ended : Option Status) (old new : Outside) : Type 0 where
  pub source : FaultIf (is_read ended) old.source.faults new.source.faults
  pub sink : FaultIf (is_write ended) old.sink.faults new.sink.faults
  pub keeper : FaultIf (is_keep ended) old.keeper.faults new.keeper.faults
  pub flash : KeepsPlan old.flash new.flash

-- The run was ended by one of its lines, whose answer or command failed.
abbrev pub IsBroken : Status → Type 0
IsBroken status.Write = Unit {0}
IsBroken status.Keep = Unit {0}
IsBroken status.Memory = Unit {0}
IsBroken _ = ⊥

-- A run ends with Long exactly where it was handed out 2^40 bytes and the source hasn't told its end. (Where a line failed, the run
-- ends with that.)
pub record IsLong (result : Status) (source source' : SourceView) : Type 0 where
  pub only : result ≡ status.Long → (source'.ended ≡ false) × (length source'.given ≡ length source.given + 2 ^ 40)
  pub always : source'.ended ≡ false → length source'.given ≡ length source.given + 2 ^ 40 → (IsBroken result → ⊥)
      → result ≡ status.Long

-- What a run was handed out: at most 2^40 bytes, and exactly so many at Long. Of a source that tells what is left, these are its
-- first bytes, and at Ok nothing is left.
pub record Reads (result : Status) (old new : SourceView) : Type 0 where
  pub taken : List ℕ
  pub given : new.given ≡ old.given ++ taken
  pub left : old.left ≡ prepend_known taken new.left
  pub most : length taken ≤ 2 ^ 40
  pub ok : result ≡ status.Ok → IsAtEnd new.left
  pub long : result ≡ status.Long → length taken ≡ 2 ^ 40
