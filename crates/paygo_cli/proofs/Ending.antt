-- How a run ends.
use Rattle.std.proofs.Common.{◌≡◌, ◌≢◌, ◌⊎◌, inl, inr, ℕ, Some, refl, sym, subst, arith}
use Rattle.run_spec.specs.declared.Mode.{Mode}
use Rattle.run_spec.specs.declared.Status.{Status}
use Rattle.run_spec.specs.declared.Status.TheVariants as status
use Rattle.paygo_spec.specs.Faults.{Rose}
use Rattle.paygo_spec.specs.Flash.{FlashView}
use Rattle.paygo_spec.specs.Streams.{SourceView, SinkView}
use Rattle.ledger_spec.specs.Keeper.{KeeperView}
use Rattle.line_loop.specs.Outside.{Outside, outside, Causes, FaultIf, is_keep, IsCalm}
use Rattle.command_words.specs.declared.words.Work.{Work}
use Rattle.command_words.specs.declared.words.Work.TheVariants as work

-- a count that rose isn't calm
not_calm : (before now : ℕ) → Rose before now → IsCalm before now → ⊥
not_calm before now rose calm = omega (arith, rose, calm.same, calm.small)

-- where no count rose, no fault ended the run
pub complete : (result : Status) (old new : Outside) → Causes (Some result) old new → result ≢ status.Usage → IsCalm old.source.faults new.source.faults → IsCalm old.sink.faults new.sink.faults → IsCalm old.keeper.faults new.keeper.faults
    → (result ≡ status.Ok) ⊎ ((result ≡ status.Long) ⊎ (result ≡ status.Memory))
complete status.Ok old new causes used source sink keeper = inl refl
complete status.Usage old new causes used source sink keeper = absurd (used refl)
complete status.Read old new causes used source sink keeper = absurd (not_calm old.source.faults new.source.faults causes.source source)
complete status.Write old new causes used source sink keeper = absurd (not_calm old.sink.faults new.sink.faults causes.sink sink)
complete status.Keep old new causes used source sink keeper = absurd (not_calm old.keeper.faults new.keeper.faults causes.keeper keeper)
complete status.Memory old new causes used source sink keeper = inr (inr refl)
complete status.Long old new causes used source sink keeper = inr (inl refl)

-- words that ask for lines ask for those of one mode
pub same_mode : (asked : Work) (a b : Mode) → asked ≡ work.Lines a → Some asked ≡ Some (work.Lines b) → a ≡ b
same_mode asked a b is same = cc

-- a keeper whose count stayed is to blame for nothing more
pub with_keeper : (result : Status) (source : SourceView) (sink sink' : SinkView) (old new : KeeperView) (flash : FlashView) → new.faults ≡ old.faults
    → Causes (Some result) (outside source sink old flash) (outside source sink' old flash) → Causes (Some result) (outside source sink old flash) (outside source sink' new flash)
with_keeper result source sink sink' old new flash same causes =
    let kept = causes.keeper in
    record { source = causes.source; sink = causes.sink; keeper = subst (λ (n : ℕ). FaultIf (is_keep (Some result)) old.faults n) (sym same) kept; flash = causes.flash }
