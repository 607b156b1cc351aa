-- Runs of the shop and runs of the device, mixed.
use Rattle.std.proofs.Common.{◌≡◌, ℕ, true, false, inl, inr, List, [], ◌∷◌, Option, sym, ap, ◌∙◌, subst}
use Rattle.ledger_spec.specs.Tables.{Tables}
use Rattle.run_spec.specs.declared.Mode.{Mode}
use Rattle.run_spec.specs.declared.Mode.TheVariants as mode_is
use Rattle.bench_loop.specs.Runs.{RunsTold}
use Rattle.deal_runs.specs.Programs.{Program, Lasting, these, Finds, lasting_after, AreRuns, AreOfMode}
use Rattle.deal_laws.specs.Parted.{IsMix}

-- A run and those behind it, were it of this mode.
abbrev pub BeginsAs : (List ℕ → ℕ → ℕ) → Program → List Program → Lasting → Lasting → Mode → Type 0
BeginsAs next program rest lasting last mode =
    Finds mode program.old lasting × RunsTold next mode program.result program.old program.new × AreRuns next (lasting_after mode program.new lasting) rest last

not_used : false ≡ true → ⊥
not_used bad = cc

module _ (next : List ℕ → ℕ → ℕ) (unseen : Option Tables) (unread : Option (List ℕ)) where
  pub runs_mixed : (mixed : List Program) (tables tables' : Option Tables) (words words' : Option (List ℕ)) (shop device : List Program) → AreOfMode mode_is.Serve shop → AreRuns next (these tables unread) shop (these tables' unread)
      → AreOfMode mode_is.Device device → AreRuns next (these unseen words) device (these unseen words') → IsMix shop device mixed → AreRuns next (these tables words) mixed (these tables' words')
  runs_mixed [] tables tables' words words' shop device serve runs of_device others mix =
      let stays : these tables' unread ≡ these tables unread = subst (λ (ps : List Program). AreRuns next (these tables unread) ps (these tables' unread)) mix.0 runs in
      let stands : these unseen words' ≡ these unseen words = subst (λ (ps : List Program). AreRuns next (these unseen words) ps (these unseen words')) mix.1 others in
      ap (λ (t : Option Tables). these t words') (ap (λ (l : Lasting). l.tables) stays) ∙ ap (λ (w : Option (List ℕ)). these tables w) (ap (λ (l : Lasting). l.words) stands)
  runs_mixed (program ∷ mixed) tables tables' words words' shop device serve runs of_device others (inl (rest, is, mix)) =
      let modes : AreOfMode mode_is.Serve (program ∷ rest) = subst (AreOfMode mode_is.Serve) is serve in
      let all : AreRuns next (these tables unread) (program ∷ rest) (these tables' unread) = subst (λ (ps : List Program). AreRuns next (these tables unread) ps (these tables' unread)) is runs in
      let own : BeginsAs next program rest (these tables unread) (these tables' unread) mode_is.Serve = subst (BeginsAs next program rest (these tables unread) (these tables' unread)) modes.0 all in
      let begun : BeginsAs next program mixed (these tables words) (these tables' words') mode_is.Serve =
      (record { tables = own.0.tables; words = λ bad. absurd (not_used bad) }, own.1, runs_mixed mixed program.new.keeper.tables tables' words words' rest device modes.1 own.2 of_device others mix) in
      subst (BeginsAs next program mixed (these tables words) (these tables' words')) (sym modes.0) begun
  runs_mixed (program ∷ mixed) tables tables' words words' shop device serve runs of_device others (inr (rest, is, mix)) =
      let modes : AreOfMode mode_is.Device (program ∷ rest) = subst (AreOfMode mode_is.Device) is of_device in
      let all : AreRuns next (these unseen words) (program ∷ rest) (these unseen words') = subst (λ (ps : List Program). AreRuns next (these unseen words) ps (these unseen words')) is others in
      let own : BeginsAs next program rest (these unseen words) (these unseen words') mode_is.Device = subst (BeginsAs next program rest (these unseen words) (these unseen words')) modes.0 all in
      let begun : BeginsAs next program mixed (these tables words) (these tables' words') mode_is.Device =
      (record { tables = λ bad. absurd (not_used bad); words = own.0.words }, own.1, runs_mixed mixed tables tables' program.new.flash.words words' shop rest serve runs modes.1 own.2 mix) in
      subst (BeginsAs next program mixed (these tables words) (these tables' words')) (sym modes.0) begun
