-- Runs of the program, one after another, as a life.
use Rattle.std.proofs.Common.{◌≡◌, ℕ, true, false, Bool, if◌then◌else◌, List, [], ◌∷◌, ◌++◌, Option, Some, refl, sym, ap, ◌∙◌, subst, append_assoc, append-nil}
use Rattle.paygo_spec.specs.declared.Config.{Config}
use Rattle.paygo_spec.specs.Machine.{State, Stored, Blank, Stands}
use Rattle.ledger_spec.specs.Sound.{StaysBelow}
use Rattle.ledger_spec.specs.Tables.{Tables, no_tables}
use Rattle.run_spec.specs.declared.Mode.{Mode}
use Rattle.run_spec.specs.declared.Status.{Status}
use Rattle.run_spec.specs.Ran.{Agree, uses_keeper, uses_flash}
use Rattle.run_spec.specs.Run.{World, beginning}
use Rattle.line_loop.specs.Outside.{Outside}
use Rattle.bench_loop.specs.Runs.{RunOf, RunsTold}
use Rattle.deal_laws.specs.Meaning.{Turn, Restarted, IsDeal}
use Rattle.deal_laws.specs.Lives.{first_day, AreOf}
use Rattle.deal_laws.specs.Runs.{turns_of, IsLife}
use Rattle.deal_laws.proofs.Lives.{ended_life, lives_then, life_is_deal}
use Rattle.deal_runs.specs.Programs.{Program, Lasting, Finds, lasting_after, AreRuns, HoldSame, AreAllTurns, AreDeal, LedTo, GoesOn, RunsOn}

-- one of two, by a test
picked : {A : Type 0} (b : Bool) (x y : A) (P : A → Type 0) → (b ≡ true → P x) → (b ≡ false → P y) → P (if b then x else y)
picked true x y P first second = first refl
picked false x y P first second = second refl

module _ (next : List ℕ → ℕ → ℕ) where
  -- a life is a deal
  led_deals : StaysBelow next → (turns : List Turn) (lasting : Lasting) → LedTo next turns lasting → (serial : List ℕ) (config : Config) → HoldSame serial config lasting → IsDeal serial config turns
  led_deals below turns lasting led serial config same =
      let are : AreOf serial config led.world = record {
        row = λ row is. same.row led.world.tables row led.tables is;
        device = λ history is. same.device history (subst (λ (s : Stored). Stands lasting.words s) is led.words);
      } in
      life_is_deal next below serial config led.faults turns led.world led.lives are

  -- one run
  module _ (mode : Mode) (result : Status) (old new : Outside) (told : RunsTold next mode result old new) (earlier : List Turn) (lasting : Lasting) (led : LedTo next earlier lasting) (finds : Finds mode old lasting) where
    abbrev start : World
    start = beginning led.world.tables led.world.device.stored old.flash.faults

    agree : Agree mode old.keeper old.flash start
    agree = record {
      tables = λ used. finds.tables used ∙ led.tables;
      device = λ used. record { words = subst (λ (w : Option (List ℕ)). Stands w led.world.device.stored) (sym (finds.words used)) led.words; faults = refl };
    }

    of : RunOf next mode result start old new
    of = told led.world.tables led.world.device.stored agree

    life : IsLife next mode result new.source.ended of.ran.taken of.ran.steps of.ran.answers start of.ran.now
    life = ended_life next mode of.ran.steps of.ran.answers start of.ran.reached of.ran.now of.ran.run result new.source.ended of.ran.taken of.ran.ends

    abbrev own : List Turn
    own = turns_of of.ran.steps of.ran.answers ++ life.lost

    led_on : LedTo next (earlier ++ Restarted old.flash.faults ∷ own) (lasting_after mode new lasting)
    led_on = record {
      faults = led.faults;
      world = of.ran.now;
      lives = lives_then next earlier (Restarted old.flash.faults ∷ own) (first_day led.faults) led.world of.ran.now led.lives (start, refl, life.lives);
      tables = picked (uses_keeper mode) new.keeper.tables lasting.tables (λ (t : Option Tables). t ≡ Some of.ran.now.tables)
          (λ used. of.agree.tables used)
          (λ unused. led.tables ∙ ap (λ (t : Tables). Some t) (sym (of.ran.aside.tables unused)));
      words = picked (uses_flash mode) new.flash.words lasting.words (λ (w : Option (List ℕ)). Stands w of.ran.now.device.stored)
          (λ used. (of.agree.device used).words)
          (λ unused. subst (λ (d : State). Stands lasting.words d.stored) (sym (of.ran.aside.device unused)) led.words);
    }

    went_on : GoesOn next mode result old new earlier lasting
    went_on = record {
      own = own;
      are = record {
        taken = of.ran.taken;
        given = of.ran.given;
        steps = of.ran.steps;
        answers = of.ran.answers;
        lost = life.lost;
        ends = life.ends;
        written = of.ran.written;
        turns_are = refl;
      };
      led = led_on;
      deal = λ below serial config same. led_deals below (earlier ++ Restarted old.flash.faults ∷ own) (lasting_after mode new lasting) led_on serial config same;
    }

  pub runs_on : (mode : Mode) (result : Status) (old new : Outside) → RunsTold next mode result old new → RunsOn next mode result old new
  runs_on mode result old new told earlier lasting led finds = went_on mode result old new told earlier lasting led finds

  -- all runs
  record AllOn (programs : List Program) (earlier : List Turn) (last : Lasting) : Type 0 where
    pub more : List Turn
    pub are : AreAllTurns programs more
    pub led : LedTo next (earlier ++ more) last

  all_on : (programs : List Program) (earlier : List Turn) (lasting last : Lasting) → LedTo next earlier lasting → AreRuns next lasting programs last → AllOn programs earlier last
  all_on [] earlier lasting last led runs = record {
    more = [];
    are = refl;
    led = subst (λ (ts : List Turn). LedTo next ts last) (sym (append-nil earlier)) (subst (LedTo next earlier) (sym runs) led);
  }
  all_on (program ∷ programs) earlier lasting last led runs =
      let one = runs_on program.mode program.result program.old program.new runs.1 earlier lasting led runs.0 in
      let rest = all_on programs (earlier ++ Restarted program.old.flash.faults ∷ one.own) (lasting_after program.mode program.new lasting) last one.led runs.2 in
      record {
        more = Restarted program.old.flash.faults ∷ (one.own ++ rest.more);
        are = (program.old.flash.faults, one.own, rest.more, refl, one.are, rest.are);
        led = subst (λ (ts : List Turn). LedTo next ts last) (append_assoc earlier (Restarted program.old.flash.faults ∷ one.own) rest.more) rest.led;
      }

pub runs_dealt : (next : List ℕ → ℕ → ℕ) → StaysBelow next → (serial : List ℕ) (config : Config) (first last : Lasting) (programs : List Program) → first.tables ≡ Some no_tables → Stands first.words Blank → AreRuns next first programs last → HoldSame serial config last → AreDeal serial config programs
runs_dealt next below serial config first last programs empty blank runs same =
    let begun : LedTo next [] first = record { faults = 0; world = first_day 0; lives = refl; tables = empty; words = blank } in
    let all = all_on next programs [] first last begun runs in
    record { turns = all.more; are = all.are; deal = led_deals next below all.more last all.led serial config same }
