-- What the tables keep in a run of shop and device, step by step.
use Rattle.std.proofs.Common.{◌≡◌, ℕ, List, slice_get, Option, Some}
use Rattle.paygo_spec.specs.declared.Form.{Form}
use Rattle.ledger_spec.specs.declared.Answer.TheVariants as answer_is
use Rattle.ledger_spec.specs.declared.Command.{Command}
use Rattle.ledger_spec.specs.declared.Order.{Order}
use Rattle.ledger_spec.specs.Sound.{Sound, StaysBelow}
use Rattle.ledger_spec.specs.Tables.{Kept}
use Rattle.paygo_spec.specs.Machine.{Acts}
use Rattle.run_spec.specs.Run.{Step, Do, Answer, Did, World, Run}
use Rattle.run_spec.specs.Headline.{OrdersStand}
use Rattle.run_laws.proofs.Commands.{sound_by, kept_by, orders_stand_by, stand_anew_by}

module _ (next : List ℕ → ℕ → ℕ) (below : StaysBelow next) where
  pub stays_sound : (start now : World) (steps : List Step) (answers : List (Option Answer)) → Sound next start.tables → Run next start steps answers now → Sound next now.tables
  stays_sound start now steps answers sound run = sound_by (Acts next) next below start now steps answers sound run

  pub stays_kept : (start now : World) (steps : List Step) (answers : List (Option Answer)) → Kept start.tables → Run next start steps answers now → Kept now.tables
  stays_kept start now steps answers kept run = kept_by (Acts next) next below start now steps answers kept run

  pub orders_stand : (start now : World) (steps : List Step) (answers : List (Option Answer)) → Kept start.tables → Run next start steps answers now → OrdersStand steps answers now.tables
  orders_stand start now steps answers kept run = orders_stand_by (Acts next) next below start now steps answers kept run

  pub stand_anew : (start now anew later : World) (steps others : List Step) (answers more : List (Option Answer)) → Kept start.tables → Run next start steps answers now
      → anew.tables ≡ now.tables → Run next anew others more later → (i j : ℕ) (c : Command) (order : Order) (form : Form) → slice_get steps i ≡ Some (Do c)
      → slice_get answers i ≡ Some (Some (Did (answer_is.Order order form))) → slice_get others j ≡ Some (Do c) → slice_get more j ≡ Some (Some (Did (answer_is.Order order form)))
  stand_anew start now anew later steps others answers more kept run same runs = stand_anew_by (Acts next) next below start now anew later steps others answers more kept run same runs
