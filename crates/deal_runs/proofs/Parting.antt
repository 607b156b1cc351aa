-- Runs of the shop alone and of the device alone, whose turns are mixed.
use Rattle.std.proofs.Common.{◌≡◌, ℕ, true, false, Bool, inl, inr, List, [], ◌∷◌, ◌++◌, Option, Some, None, refl, sym, ap, ◌∙◌, subst}
use Rattle.paygo_spec.specs.declared.Config.{Config}
use Rattle.paygo_spec.specs.Machine.{State, Stored, Blank, Stands, starting}
use Rattle.ledger_spec.specs.Sound.{StaysBelow}
use Rattle.ledger_spec.specs.Tables.{Tables, no_tables}
use Rattle.run_spec.specs.declared.Mode.{Mode}
use Rattle.run_spec.specs.declared.Mode.TheVariants as mode_is
use Rattle.run_spec.specs.declared.Status.{Status}
use Rattle.run_spec.specs.declared.Status.TheVariants as status
use Rattle.run_spec.specs.Meaning.{steps_of_line}
use Rattle.run_spec.specs.Ran.{Agree, EndsBy, uses_keeper, uses_flash}
use Rattle.run_spec.specs.Run.{Step, Say, Do, Act, Answer, Said, Did, Told, World, beginning, Run}
use Rattle.bench_loop.specs.Runs.{RunOf, RunsTold}
use Rattle.deal_laws.specs.Meaning.{Turn, Unanswered, Restarted}
use Rattle.deal_laws.specs.Lives.{AreOf}
use Rattle.deal_laws.specs.Parted.{ShopLives, DeviceLives}
use Rattle.deal_laws.specs.Runs.{turns_of, EndsIn}
use Rattle.deal_laws.proofs.Lives.{life_is_deal}
use Rattle.deal_laws.proofs.Parting.{both_of, lives_mixed, shop_then, device_then}
use Rattle.deal_runs.specs.Programs.{Program, Lasting, these, AreRuns, AreOfMode, HoldSame, AreTurns, AreAllTurns, AreShopTurns, ArePartedDeal}
use Rattle.deal_runs.proofs.Mixing.{BeginsAs}
use Rattle.deal_runs.proofs.Stepping.{NoAct, NoDo, Each, line_serves, line_works, each_step}

not_flash : (mode : Mode) → mode ≡ mode_is.Serve → uses_flash mode ≡ true → ⊥
not_flash mode is used = let bad : false ≡ true = subst (λ (m : Mode). uses_flash m ≡ true) is used in cc

not_keeper : (mode : Mode) → mode ≡ mode_is.Device → uses_keeper mode ≡ true → ⊥
not_keeper mode is used = let bad : false ≡ true = subst (λ (m : Mode). uses_keeper m ≡ true) is used in cc

module _ (next : List ℕ → ℕ → ℕ) where
  -- the steps of one side are a life of it
  run_trades : (steps : List Step) (answers : List (Option Answer)) (old new : World) → Each NoAct steps → Run next old steps answers new → ShopLives next old.tables (turns_of steps answers) new.tables
  run_trades [] [] old new each run = ap (λ (w : World). w.tables) run
  run_trades [] (answer ∷ answers) old new each run = absurd run
  run_trades (step ∷ steps) [] old new each run = absurd run
  run_trades (Say text ∷ steps) (None ∷ answers) old new each run = absurd run.1
  run_trades (Say text ∷ steps) (Some (Said said) ∷ answers) old new each run = (run.0.tables, (run.1.0, ap (λ (w : World). w.tables) run.1.1), run_trades steps answers run.0 new each.1 run.2)
  run_trades (Say text ∷ steps) (Some (Did answer) ∷ answers) old new each run = absurd run.1
  run_trades (Say text ∷ steps) (Some (Told reply) ∷ answers) old new each run = absurd run.1
  run_trades (Do command ∷ steps) (None ∷ answers) old new each run = absurd run.1
  run_trades (Do command ∷ steps) (Some (Said said) ∷ answers) old new each run = absurd run.1
  run_trades (Do command ∷ steps) (Some (Did answer) ∷ answers) old new each run = (run.0.tables, run.1.0, run_trades steps answers run.0 new each.1 run.2)
  run_trades (Do command ∷ steps) (Some (Told reply) ∷ answers) old new each run = absurd run.1
  run_trades (Act event ∷ steps) (answer ∷ answers) old new each run = absurd each.0

  run_works : (steps : List Step) (answers : List (Option Answer)) (old new : World) → Each NoDo steps → Run next old steps answers new → DeviceLives next old.device (turns_of steps answers) new.device
  run_works [] [] old new each run = ap (λ (w : World). w.device) run
  run_works [] (answer ∷ answers) old new each run = absurd run
  run_works (step ∷ steps) [] old new each run = absurd run
  run_works (Say text ∷ steps) (None ∷ answers) old new each run = absurd run.1
  run_works (Say text ∷ steps) (Some (Said said) ∷ answers) old new each run = (run.0.device, (run.1.0, ap (λ (w : World). w.device) run.1.1), run_works steps answers run.0 new each.1 run.2)
  run_works (Say text ∷ steps) (Some (Did answer) ∷ answers) old new each run = absurd run.1
  run_works (Say text ∷ steps) (Some (Told reply) ∷ answers) old new each run = absurd run.1
  run_works (Do command ∷ steps) (answer ∷ answers) old new each run = absurd each.0
  run_works (Act event ∷ steps) (None ∷ answers) old new each run = (run.0.device, run.1.0, run_works steps answers run.0 new each.1 run.2)
  run_works (Act event ∷ steps) (Some (Said said) ∷ answers) old new each run = absurd run.1
  run_works (Act event ∷ steps) (Some (Did answer) ∷ answers) old new each run = absurd run.1
  run_works (Act event ∷ steps) (Some (Told reply) ∷ answers) old new each run = (run.0.device, run.1.0, run_works steps answers run.0 new each.1 run.2)

  -- What a run of the shop lost.
  record Lost (mode : Mode) (result : Status) (ended : Bool) (taken : List ℕ) (steps : List Step) (reached now : Tables) : Type 0 where
    pub lost : List Turn
    pub ends : EndsIn mode result ended taken steps lost
    pub lives : ShopLives next reached lost now

  lost_by : (mode : Mode) (result : Status) (ended : Bool) (taken : List ℕ) (steps : List Step) (reached now : World) → EndsBy next mode result ended taken steps reached now → Lost mode result ended taken steps reached.tables now.tables
  lost_by mode status.Ok ended taken steps reached now ends = record { lost = []; ends = (ends.0, refl); lives = ap (λ (w : World). w.tables) ends.1 }
  lost_by mode status.Read ended taken steps reached now ends = record { lost = []; ends = (ends.0, refl); lives = ap (λ (w : World). w.tables) ends.1 }
  lost_by mode status.Long ended taken steps reached now ends = record { lost = []; ends = (ends.0, refl); lives = ap (λ (w : World). w.tables) ends.1 }
  lost_by mode status.Write ended taken steps reached now ends = record { lost = []; ends = (ends.0, refl); lives = ap (λ (w : World). w.tables) ends.1 }
  lost_by mode status.Keep ended taken steps reached now (line, command, before, asks, inl same) =
      record { lost = []; ends = (line, command, before, asks, inl refl); lives = ap (λ (w : World). w.tables) same }
  lost_by mode status.Keep ended taken steps reached now (line, command, before, asks, inr whole) =
      record { lost = Unanswered command ∷ []; ends = (line, command, before, asks, inr refl); lives = (now.tables, (asks.range, inr (ap (λ (w : World). w.tables) whole)), refl) }
  lost_by mode status.Memory ended taken steps reached now ends = record { lost = []; ends = (ends.0, refl); lives = ap (λ (w : World). w.tables) ends.1 }
  lost_by mode status.Usage ended taken steps reached now ends = absurd ends

  -- A run of the device loses nothing.
  record NoneLost (mode : Mode) (result : Status) (ended : Bool) (taken : List ℕ) (steps : List Step) (reached now : State) : Type 0 where
    pub ends : EndsIn mode result ended taken steps []
    pub same : now ≡ reached

  none_lost : (mode : Mode) → mode ≡ mode_is.Device → (result : Status) (ended : Bool) (taken : List ℕ) (steps : List Step) (reached now : World) → EndsBy next mode result ended taken steps reached now
      → NoneLost mode result ended taken steps reached.device now.device
  none_lost mode is status.Ok ended taken steps reached now ends = record { ends = (ends.0, refl); same = ap (λ (w : World). w.device) ends.1 }
  none_lost mode is status.Read ended taken steps reached now ends = record { ends = (ends.0, refl); same = ap (λ (w : World). w.device) ends.1 }
  none_lost mode is status.Long ended taken steps reached now ends = record { ends = (ends.0, refl); same = ap (λ (w : World). w.device) ends.1 }
  none_lost mode is status.Write ended taken steps reached now ends = record { ends = (ends.0, refl); same = ap (λ (w : World). w.device) ends.1 }
  none_lost mode is status.Keep ended taken steps reached now ends = absurd (not_keeper mode is ends.2.takes)
  none_lost mode is status.Memory ended taken steps reached now ends = record { ends = (ends.0, refl); same = ap (λ (w : World). w.device) ends.1 }
  none_lost mode is status.Usage ended taken steps reached now ends = absurd ends

  -- One run of the shop.
  record OneShop (program : Program) (tables : Tables) : Type 0 where
    pub own : List Turn
    pub are : AreTurns program.mode program.result program.old program.new own
    pub now : Tables
    pub lives : ShopLives next tables own now
    pub kept : program.new.keeper.tables ≡ Some now

  one_shop : (program : Program) (tables : Tables) → program.mode ≡ mode_is.Serve → RunsTold next program.mode program.result program.old program.new → program.old.keeper.tables ≡ Some tables → OneShop program tables
  one_shop program tables is told found = record {
    own = turns_of of.ran.steps of.ran.answers ++ ended.lost;
    are = record { taken = of.ran.taken; given = of.ran.given; steps = of.ran.steps; answers = of.ran.answers; lost = ended.lost; ends = ended.ends; written = of.ran.written; turns_are = refl };
    now = of.ran.now.tables;
    lives = shop_then next (turns_of of.ran.steps of.ran.answers) ended.lost tables of.ran.reached.tables of.ran.now.tables (run_trades of.ran.steps of.ran.answers start of.ran.reached each of.ran.run) ended.lives;
    kept = of.agree.tables (subst (λ (m : Mode). uses_keeper m ≡ true) (sym is) refl);
  }
    where
      start : World
      start = beginning tables Blank program.old.flash.faults

      agree : Agree program.mode program.old.keeper program.old.flash (beginning tables Blank program.old.flash.faults)
      agree = record { tables = λ used. found; device = λ used. absurd (not_flash program.mode is used) }

      of : RunOf next program.mode program.result (beginning tables Blank program.old.flash.faults) program.old program.new
      of = told tables Blank agree

      each : Each NoAct of.ran.steps
      each = each_step NoAct program.mode (λ line. subst (λ (m : Mode). Each NoAct (steps_of_line m line)) (sym is) (line_serves line)) next program.result program.new.source.ended of.ran.taken of.ran.steps of.ran.reached of.ran.now of.ran.ends

      ended : Lost program.mode program.result program.new.source.ended of.ran.taken of.ran.steps of.ran.reached.tables of.ran.now.tables
      ended = lost_by program.mode program.result program.new.source.ended of.ran.taken of.ran.steps of.ran.reached of.ran.now of.ran.ends

  -- One run of the device.
  record OneDevice (program : Program) (state : State) : Type 0 where
    pub own : List Turn
    pub are : AreTurns program.mode program.result program.old program.new own
    pub now : State
    pub lives : DeviceLives next state (Restarted program.old.flash.faults ∷ own) now
    pub words : Stands program.new.flash.words now.stored

  one_device : (program : Program) (state : State) → program.mode ≡ mode_is.Device → RunsTold next program.mode program.result program.old program.new → Stands program.old.flash.words state.stored → OneDevice program state
  one_device program state is told found = record {
    own = turns_of of.ran.steps of.ran.answers ++ [];
    are = record { taken = of.ran.taken; given = of.ran.given; steps = of.ran.steps; answers = of.ran.answers; lost = []; ends = ended.ends; written = of.ran.written; turns_are = refl };
    now = of.ran.now.device;
    lives = (starting state.stored program.old.flash.faults, refl, device_then next (turns_of of.ran.steps of.ran.answers) [] start.device of.ran.reached.device of.ran.now.device (run_works of.ran.steps of.ran.answers start of.ran.reached each of.ran.run) ended.same);
    words = (of.agree.device (subst (λ (m : Mode). uses_flash m ≡ true) (sym is) refl)).words;
  }
    where
      start : World
      start = beginning no_tables state.stored program.old.flash.faults

      agree : Agree program.mode program.old.keeper program.old.flash (beginning no_tables state.stored program.old.flash.faults)
      agree = record { tables = λ used. absurd (not_keeper program.mode is used); device = λ used. record { words = found; faults = refl } }

      of : RunOf next program.mode program.result (beginning no_tables state.stored program.old.flash.faults) program.old program.new
      of = told no_tables state.stored agree

      each : Each NoDo of.ran.steps
      each = each_step NoDo program.mode (λ line. subst (λ (m : Mode). Each NoDo (steps_of_line m line)) (sym is) (line_works line)) next program.result program.new.source.ended of.ran.taken of.ran.steps of.ran.reached of.ran.now of.ran.ends

      ended : NoneLost program.mode program.result program.new.source.ended of.ran.taken of.ran.steps of.ran.reached.device of.ran.now.device
      ended = none_lost program.mode is program.result program.new.source.ended of.ran.taken of.ran.steps of.ran.reached of.ran.now of.ran.ends

  -- All runs of the shop.
  record AllShop (programs : List Program) (tables : Tables) (last : Option Tables) : Type 0 where
    pub turns : List Turn
    pub are : AreShopTurns programs turns
    pub now : Tables
    pub lives : ShopLives next tables turns now
    pub kept : last ≡ Some now

  all_shop : (programs : List Program) (known last : Option Tables) (unread : Option (List ℕ)) (tables : Tables) → known ≡ Some tables → AreOfMode mode_is.Serve programs → AreRuns next (these known unread) programs (these last unread) → AllShop programs tables last
  all_shop [] known last unread tables is modes runs = record { turns = []; are = refl; now = tables; lives = refl; kept = ap (λ (l : Lasting). l.tables) runs ∙ is }
  all_shop (program ∷ programs) known last unread tables is modes runs =
      let begun : BeginsAs next program programs (these known unread) (these last unread) mode_is.Serve = subst (BeginsAs next program programs (these known unread) (these last unread)) modes.0 runs in
      let one = one_shop program tables modes.0 runs.1 (begun.0.tables refl ∙ is) in
      let rest = all_shop programs program.new.keeper.tables last unread one.now one.kept modes.1 begun.2 in
      record {
        turns = one.own ++ rest.turns;
        are = (one.own, rest.turns, refl, one.are, rest.are);
        now = rest.now;
        lives = shop_then next one.own rest.turns tables one.now rest.now one.lives rest.lives;
        kept = rest.kept;
      }

  -- All runs of the device.
  record AllDevice (programs : List Program) (state : State) (last : Option (List ℕ)) : Type 0 where
    pub turns : List Turn
    pub are : AreAllTurns programs turns
    pub now : State
    pub lives : DeviceLives next state turns now
    pub words : Stands last now.stored

  all_device : (programs : List Program) (known last : Option (List ℕ)) (unseen : Option Tables) (state : State) → Stands known state.stored → AreOfMode mode_is.Device programs → AreRuns next (these unseen known) programs (these unseen last) → AllDevice programs state last
  all_device [] known last unseen state is modes runs =
      record { turns = []; are = refl; now = state; lives = refl; words = subst (λ (w : Option (List ℕ)). Stands w state.stored) (sym (ap (λ (l : Lasting). l.words) runs)) is }
  all_device (program ∷ programs) known last unseen state is modes runs =
      let begun : BeginsAs next program programs (these unseen known) (these unseen last) mode_is.Device = subst (BeginsAs next program programs (these unseen known) (these unseen last)) modes.0 runs in
      let one = one_device program state modes.0 runs.1 (subst (λ (w : Option (List ℕ)). Stands w state.stored) (sym (begun.0.words refl)) is) in
      let rest = all_device programs program.new.flash.words last unseen one.now one.words modes.1 begun.2 in
      record {
        turns = Restarted program.old.flash.faults ∷ (one.own ++ rest.turns);
        are = (program.old.flash.faults, one.own, rest.turns, refl, one.are, rest.are);
        now = rest.now;
        lives = device_then next (Restarted program.old.flash.faults ∷ one.own) rest.turns state one.now rest.now one.lives rest.lives;
        words = rest.words;
      }

pub parted_dealt : (next : List ℕ → ℕ → ℕ) → StaysBelow next → (serial : List ℕ) (config : Config) (tables unseen : Option Tables) (erased words unread : Option (List ℕ)) (shop device : List Program)
    → AreOfMode mode_is.Serve shop → AreRuns next (these (Some no_tables) unread) shop (these tables unread) → Stands erased Blank → AreOfMode mode_is.Device device → AreRuns next (these unseen erased) device (these unseen words)
    → HoldSame serial config (these tables words) → ArePartedDeal serial config shop device
parted_dealt next below serial config tables unseen erased words unread shop device serve runs blank of_device others same =
    let left = all_shop next shop (Some no_tables) tables unread no_tables refl serve runs in
    let right = all_device next device erased words unseen (starting Blank 0) blank of_device others in
    let are : AreOf serial config (both_of left.now right.now) = record {
      row = λ row is. same.row left.now row left.kept is;
      device = λ history is. same.device history (subst (λ (s : Stored). Stands words s) is right.words);
    } in
    record {
      of_shop = left.turns;
      of_device = right.turns;
      shop_are = left.are;
      device_are = right.are;
      deal = λ turns mix. life_is_deal next below serial config 0 turns (both_of left.now right.now)
          (lives_mixed next turns left.turns right.turns no_tables left.now (starting Blank 0) right.now left.lives right.lives mix) are;
    }
