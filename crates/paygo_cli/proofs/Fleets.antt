-- A fleet that was run, and the line of its totals.
use Rattle.std.proofs.Common.{◌≡◌, ℕ, List, [], ◌∷◌, ◌++◌, Result, Ok, Err, IfOk, refl, subst}
use Rattle.paygo_spec.specs.Streams.{SinkView}
use Rattle.ledger_spec.specs.declared.Enrol.{Enrol}
use Rattle.paygo_ports.specs.declared.sink.WriteFault.{WriteFault}
use Rattle.fleet_spec.specs.declared.Step.{Step}
use Rattle.fleet_spec.specs.declared.Totals.{Totals}
use Rattle.fleet_spec.specs.Script.{enrols_of, steps_of}
use Rattle.fleet_spec.specs.Fleet.{Came}
use Rattle.fleet_spec.specs.Text.{with_size, with_totals, text_of_fleet}
use Rattle.fleet_laws.proofs.Laws.{once}
use Rattle.line_output.specs.Written.{Wrote}
use Rattle.paygo_cli.specs.Ends.{IsFleet, WritesFleet, written_by}

-- totals of the script that was drawn
of_script : (next : List ℕ → ℕ → ℕ) (seed devices days : ℕ) (totals : Totals) → Came next (enrols_of seed devices) (steps_of seed devices days) totals → IsFleet next seed devices days totals
of_script next seed devices days totals came = record {
  came = came;
  settled = λ plan other others. once next (enrols_of seed devices) (steps_of seed devices days) plan other totals others came;
}

pub drawn : {E : Type 0} (next : List ℕ → ℕ → ℕ) (seed devices days : ℕ) (enrols : List Enrol) (steps : List Step) (result : Result Totals E) → enrols ≡ enrols_of seed devices → steps ≡ steps_of seed devices days
    → IfOk result (λ totals. Came next enrols steps totals) → IfOk result (λ totals. IsFleet next seed devices days totals)
drawn next seed devices days enrols steps (Err fault) sold are came = tt
drawn next seed devices days enrols steps (Ok totals) sold are came =
    let first = subst (λ (l : List Enrol). Came next l steps totals) sold came in
    of_script next seed devices days totals (subst (λ (l : List Step). Came next (enrols_of seed devices) l totals) are first)

-- the line of the totals
pub text_is : (devices days : ℕ) (totals : Totals) → with_totals (with_size devices days) totals ++ 10 ∷ [] ≡ text_of_fleet devices days totals
unfolding text_of_fleet
text_is devices days totals = refl

pub line_written : (next : List ℕ → ℕ → ℕ) (seed devices days : ℕ) (totals : Totals) → IsFleet next seed devices days totals → (outcome : Result (Unit {0}) WriteFault) (old new : SinkView)
    → Wrote (text_of_fleet devices days totals) outcome old new → WritesFleet next seed devices days (written_by outcome) old new
line_written next seed devices days totals fleet (Ok done) old new wrote = (totals, fleet, λ e. cc, wrote)
line_written next seed devices days totals fleet (Err fault) old new wrote = (totals, fleet, λ e. cc, wrote)
