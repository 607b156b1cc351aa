-- What is promised of a whole run of a bench.
use Rattle.std.proofs.Common.{◌≡◌, ℕ, true, false, List, Option, Some, None, refl, sym, ap, ◌∙◌}
use Rattle.std.specs.Prelude.{IfSome, is_some}
use Rattle.paygo_spec.specs.declared.Event.{Event}
use Rattle.paygo_spec.specs.declared.Reply.{Reply}
use Rattle.paygo_spec.specs.Flash.{FlashView}
use Rattle.paygo_spec.specs.Machine.{State, Stored, StandsAs, Acts, FaultsBy, calls_of}
use Rattle.paygo_spec.specs.Pad.{kept_of, no_keys}
use Rattle.paygo_spec.specs.Recovery.{Recovered, recover}
use Rattle.paygo_spec.specs.Streams.{SourceView, SinkView}
use Rattle.ledger_spec.specs.Keeper.{KeeperView}
use Rattle.ledger_spec.specs.Sound.{StaysBelow}
use Rattle.ledger_spec.specs.Tables.{Tables}
use Rattle.run_spec.specs.declared.Mode.{Mode}
use Rattle.run_spec.specs.declared.Mode.TheVariants as mode_is
use Rattle.run_spec.specs.declared.Status.{Status}
use Rattle.run_spec.specs.Run.{World, beginning}
use Rattle.run_spec.specs.Unseen.{ActsUnseen}
use Rattle.run_spec.specs.Ran.{Agree, SpendsBy, uses_keeper, uses_flash}
use Rattle.run_laws.proofs.Between.{counts_once}
use Rattle.run_laws.proofs.Faults.{acts_count, unseen_count, downs_counted_by}
use Rattle.device_core.specs.declared.device.Device.{Device}
use Rattle.device_core.specs.Memory.{Agrees, Recalls, Backs, Holds, found_by, is_on}
use Rattle.line_loop.specs.Handling.{Desk, Loops}
use Rattle.line_loop.specs.Outside.{Outside, outside}
use Rattle.bench_run.specs.Bench.{Desk as BenchDesk, desk, IsAt, unsaid}
use Rattle.bench_run.proofs.Runs.{agree_at, run_spent}
use Rattle.bench_loop.specs.Runs.{StaysAside, Ran, RunOf, RunUnseen, RunsTold, RunsUnseen}
use Rattle.bench_loop.specs.Side.{Side, bench_of, DidLine}
use Rattle.bench_loop.proofs.Looping.{Ended, run_ended, says_nothing}
use Rattle.bench_loop.proofs.Promising.{stand, sound, promise, same_device}
use Rattle.bench_loop.proofs.Sides.{aside}

-- what is seen of the outside
abbrev pub out : SourceView → BenchDesk → Outside
out source desk = outside source desk.sink desk.keeper desk.flash

-- what stands at the end of a run, by what a device and its flash stand for, has the flash's count of faults: also where the
-- run leaves the flash out
count_now : (mode : Mode) (start now : World) (flash first : FlashView) → (uses_flash mode ≡ true → now.device.faults ≡ flash.faults) → StaysAside mode start now → (mode ≡ mode_is.Serve → flash ≡ first)
    → start.device.faults ≡ first.faults → now.device.faults ≡ flash.faults
count_now mode_is.Serve start now flash first counts aside same begun = ap (λ (s : State). s.faults) (aside.device refl) ∙ begun ∙ ap (λ (f : FlashView). f.faults) (sym (same refl))
count_now mode_is.Device start now flash first counts aside same begun = counts refl
count_now mode_is.Both start now flash first counts aside same begun = counts refl

-- What a run stands for at its end.
record IsRan (acts : Event → Option Reply → State → State → Type 0) (stands : Device → FlashView → State → Type 0) (calls : State → Event → Option ℕ) (next : List ℕ → ℕ → ℕ) (mode : Mode) (result : Status) (start : World) (was now : SourceView) (first new : BenchDesk)
    (ran : Ran acts next mode result start (out was first) (out now new)) : Type 0 where
  is_at : IsAt stands mode new ran.now
  spent : SpendsBy acts calls next start ran.steps ran.answers ran.reached first.flash.due new.flash.due

module _ (next : List ℕ → ℕ → ℕ) (mode : Mode) (was now : SourceView) (first new : BenchDesk) where
  -- what became of the whole run
  whole : (acts : Event → Option Reply → State → State → Type 0) (stands : Device → FlashView → State → Type 0) (calls : State → Event → Option ℕ) → ((event : Event) (reply : Option Reply) (old new : State) → acts event reply old new → FaultsBy reply old.faults new.faults) → ((device : Device) (flash : FlashView) (state : State) → stands device flash state → state.faults ≡ flash.faults)
      → (mode ≡ mode_is.Serve → new.flash ≡ first.flash) → (result : Status) (start : World) → start.device.faults ≡ first.flash.faults
      → (ends : Ended acts stands calls next mode result was now first start new) → (ran : Ran acts next mode result start (out was first) (out now new)) × IsRan acts stands calls next mode result start was now first new ran
  whole acts stands calls by_reply counted same result start begun ends =
      let run = run_spent acts calls next start ends.reached ends.steps ends.answers first.flash.due new.flash.due ends.run in
      let stays = same_device next mode result now.ended ends.taken ends.steps ends.reached ends.world ends.ends in
      let sides = aside acts next mode result now.ended ends.taken ends.steps ends.answers start ends.reached ends.world run ends.ends stays in
      let count : new.flash.faults ≡ ends.reached.device.faults =
      sym (count_now mode start ends.world new.flash first.flash (λ uses. counted new.device new.flash ends.world.device (ends.is_at.device uses)) sides same begun) ∙ ap (λ (s : State). s.faults) stays in (
        record {
          taken = ends.taken;
          given = ends.given_are;
          steps = ends.steps;
          answers = ends.answers;
          reached = ends.reached;
          run = run;
          now = ends.world;
          ends = ends.ends;
          written = ends.written;
          aside = sides;
          downs_are = count ∙ downs_counted_by acts by_reply next start ends.reached ends.steps ends.answers run;
        },
        record { is_at = ends.is_at; spent = ends.run },
      )

  pub run_of : (below : StaysBelow next) (same : mode ≡ mode_is.Serve → new.flash ≡ first.flash) (result : Status)
      → (start : World) → start.device.faults ≡ first.flash.faults
      → Ended (Acts next) Agrees (calls_of next) next mode result was now first start new → RunOf next mode result start (out was first) (out now new)
  run_of below same result start begun ends =
      let ran = whole (Acts next) Agrees (calls_of next) (acts_count next) (λ device flash state agrees. agrees.stand.faults) same result start begun ends in
      record {
        ran = ran.0;
        agree = agree_at mode new ran.0.now ran.1.is_at;
        calls = ran.1.spent;
        stand = stand next below (Acts next) mode result now.ended ran.0.taken ran.0.steps ran.0.answers start ran.0.reached ran.0.now ran.0.run ran.0.ends;
        promise = promise next below mode result now.ended ran.0.taken ran.0.steps ran.0.answers start ran.0.reached ran.0.now ran.0.run ran.0.ends;
      }

  pub run_unseen : (below : StaysBelow next) (same : mode ≡ mode_is.Serve → new.flash ≡ first.flash) (result : Status)
      → (start : World) → start.device.on ≡ false → start.device.faults ≡ first.flash.faults
      → Ended (ActsUnseen next) Recalls unsaid next mode result was now first start new → RunUnseen next mode result start (out was first) (out now new)
  run_unseen below same result start off begun ends =
      let ran = whole (ActsUnseen next) Recalls unsaid (unseen_count next) (λ device flash state recalls. recalls.faults_are) same result start begun ends in
      record {
        ran = ran.0;
        tables = ran.1.is_at.tables;
        stand = stand next below (ActsUnseen next) mode result now.ended ran.0.taken ran.0.steps ran.0.answers start ran.0.reached ran.0.now ran.0.run ran.0.ends;
        sound = sound next below (ActsUnseen next) mode result now.ended ran.0.taken ran.0.steps ran.0.answers start ran.0.reached ran.0.now ran.0.run ran.0.ends;
        once = counts_once next start ran.0.reached ran.0.steps ran.0.answers (λ on. absurd (let both : true ≡ false = sym on ∙ off in cc)) ran.0.run;
      }

-- a device that isn't on found nothing that its flash would have to back
unfound : (found : Option Recovered) (words : List ℕ) → is_some found ≡ false → IfSome found (λ found. recover words ≡ found)
unfound None words off = tt
unfound (Some found) words off = cc

backed : (device : Device) (words : Option (List ℕ)) → is_on device ≡ false → IfSome words (Backs device.phase)
backed device None off = tt
backed device (Some words) off = unfound (found_by device.phase) words off

pub off_holds : (device : Device) (flash : FlashView) → is_on device ≡ false → Holds device flash
off_holds device flash off = record { up = λ on. absurd (let both : true ≡ false = sym on ∙ off in cc); words = backed device flash.words off }

-- a device that is off, and on which nothing was typed, at the beginning
pub begins_seen : (mode : Mode) (device : Device) (keeper : KeeperView) (flash : FlashView) (sink : SinkView) (tables : Tables) (stored : Stored) → is_on device ≡ false → device.pad ≡ kept_of no_keys
    → Agree mode keeper flash (beginning tables stored flash.faults) → IsAt Agrees mode (desk device keeper flash sink) (beginning tables stored flash.faults)
begins_seen mode device keeper flash sink tables stored off empty agree =
    record { tables = agree.tables; device = λ uses. record { on_is = sym off; pad_is = empty; stand = agree.device uses } }

-- it has nothing in memory
nothing_fits : (found : Option Recovered) (stored : Stored) → is_some found ≡ false → IfSome found (λ found. StandsAs found stored)
nothing_fits None stored off = tt
nothing_fits (Some found) stored off = cc

pub begins_unseen : (mode : Mode) (device : Device) (keeper : KeeperView) (flash : FlashView) (sink : SinkView) (tables : Tables) (stored : Stored) → is_on device ≡ false → device.pad ≡ kept_of no_keys
    → (uses_keeper mode ≡ true → keeper.tables ≡ Some tables) → IsAt Recalls mode (desk device keeper flash sink) (beginning tables stored flash.faults)
begins_unseen mode device keeper flash sink tables stored off empty told =
    record { tables = told; device = λ uses. record { on_is = sym off; pad_is = empty; fits = nothing_fits (found_by device.phase) stored off; faults_are = refl } }

-- what is promised of a run of a bench, by what became of the lines
module _ (next : List ℕ → ℕ → ℕ) (below : StaysBelow next) (mode : Mode) (result : Status) (was now : SourceView) (first new : Desk Side)
    (takes : first.handler.mode ≡ mode) (same : mode ≡ mode_is.Serve → new.flash ≡ first.flash)
    (loops : Loops (DidLine next) says_nothing result was now first new) (off : is_on first.handler.device ≡ false)
    (empty : first.handler.device.pad ≡ kept_of no_keys) where
  pub told : RunsTold next mode result (out was (bench_of first)) (out now (bench_of new))
  told tables stored agree =
      let start = beginning tables stored first.flash.faults in
      run_of next mode was now (bench_of first) (bench_of new) below same result start refl
      (run_ended (Acts next) Agrees (calls_of next) next (λ mode steps result old new works. works.seen) mode result was now first new takes loops start
      (begins_seen mode first.handler.device first.keeper first.flash first.sink tables stored off empty agree))

  pub unseen : RunsUnseen next mode result (out was (bench_of first)) (out now (bench_of new))
  unseen tables stored kept =
      let start = beginning tables stored first.flash.faults in
      run_unseen next mode was now (bench_of first) (bench_of new) below same result start refl refl
      (run_ended (ActsUnseen next) Recalls unsaid next (λ mode steps result old new works. works.unseen) mode result was now first new takes loops start
      (begins_unseen mode first.handler.device first.keeper first.flash first.sink tables stored off empty kept))
