use Rattle.fleet_laws.proofs.Laws.{once}
use Rattle.fleet_laws.proofs.with_no_plan_the_script_fixes_the_totals.Goals as goal

pub returns : goal.returns
returns c = once
