use Rattle.std.proofs.Common.{refl, sym}
use Rattle.paygo_spec.proofs.Snapshots.{snapshot_spent, snapshot_valid, snapshot_may}
use Rattle.history_laws.proofs.snapshots_decide.Goals as goal

pub returns : goal.returns
returns c = record {
  top = λ unit start entries. refl;
  clock = λ unit start entries. refl;
  reach = λ unit start entries v. refl;
  spent = λ unit start entries m l h. sym (snapshot_spent unit start entries m l h);
  valid = snapshot_valid;
  may_follow = snapshot_may;
}
