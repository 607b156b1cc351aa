use Rattle.run_spec.specs.Unseen.{ActsUnseen}
use Rattle.run_laws.proofs.Commands.{orders_stand_by, sound_by}
use Rattle.run_laws.proofs.unseen.orders_stand_over_any_flash.Goals as goal

pub returns : goal.returns
returns c = record { stand = λ next. orders_stand_by (ActsUnseen next) next; sound = λ next. sound_by (ActsUnseen next) next }
