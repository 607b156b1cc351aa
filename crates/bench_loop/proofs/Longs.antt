-- A line above 4,096 bytes.
use Rattle.std.proofs.Common.{◌≡◌, ℕ, ◌<◌, true, List, [], ◌∷◌, ◌++◌, length, Result, Ok, Err, refl, ap, sym, subst, arith}
use Rattle.std.specs.Prelude.{codes, nat_lt}
use Rattle.std.specs.Fmt.{decimal}
use Rattle.std.proofs.lemmas.Bool.Decides.{nat_tests}
use Rattle.paygo_spec.specs.Flash.{FlashView}
use Rattle.paygo_spec.specs.Streams.{SinkView}
use Rattle.ledger_spec.specs.Keeper.{KeeperView}
use Rattle.run_spec.specs.declared.Mode.{Mode}
use Rattle.run_spec.specs.Meaning.{steps_of_line}
use Rattle.run_spec.specs.Run.{Step, Say}
use Rattle.device_core.specs.declared.device.Device.{Device}
use Rattle.paygo_ports.specs.declared.sink.WriteFault.{WriteFault}
use Rattle.line_loop.specs.Handling.{desk, of_line}
use Rattle.bench_run.specs.Bench.{Works, Says, IsLedgerFault, desk as bench_desk}
use Rattle.bench_loop.specs.Side.{DidLine}

-- it is none of the ledger
no_ledger_fault : (outcome : Result (Unit {0}) WriteFault) → IsLedgerFault (of_line outcome) → ⊥
no_ledger_fault (Ok done) bad = bad
no_ledger_fault (Err broken) bad = bad

-- it has one step
steps_long : (mode : Mode) (line : List ℕ) (size : ℕ) → length line ≡ size → 4096 < size
    → steps_of_line mode line ≡ Say (codes "long " ++ decimal size) ∷ []
steps_long mode line size is long =
    let test : nat_lt 4096 (length line) ≡ true = grind (arith, nat_tests) in
    rw test (ap (λ n. Say (codes "long " ++ decimal n) ∷ []) is)

pub long_done : (next : List ℕ → ℕ → ℕ) (size : ℕ) (result : Result (Unit {0}) WriteFault) (sink sink' : SinkView)
    → Says next (Say (codes "long " ++ decimal size) ∷ []) result sink sink' → (mode : Mode) (device : Device) (line : List ℕ)
    → length line ≡ size → 4096 < size → (keeper : KeeperView) (flash : FlashView)
    → DidLine next line (of_line result) (desk record { mode = mode; device = device } keeper flash sink)
    (desk record { mode = mode; device = device } keeper flash sink')
long_done next size result sink sink' says mode device line is long keeper flash = record {
  mode = refl;
  works = subst (λ (steps : List Step). Works next mode steps (of_line result) (bench_desk device keeper flash sink)
      (bench_desk device keeper flash sink')) (sym (steps_long mode line size is long)) (says mode device keeper flash);
  ledger = λ bad. absurd (no_ledger_fault result bad);
}
