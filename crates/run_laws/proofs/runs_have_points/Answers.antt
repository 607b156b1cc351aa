use Rattle.run_laws.proofs.Points.{point_at}
use Rattle.run_laws.proofs.runs_have_points.Goals as goal

pub returns : goal.returns
returns c = point_at
