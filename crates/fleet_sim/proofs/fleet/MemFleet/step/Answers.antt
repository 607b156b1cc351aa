use Rattle.std.proofs.Common.{get_or}
use Rattle.std.proofs.lemmas.Option.{slice_get-get_or}
use Rattle.std.proofs.lemmas.Result.{on_ok_weaker}
use Rattle.fleet_sim.proofs.Stepping.{command_runs, plan_runs, plan_kept, wrong_runs, enter_runs, tick_runs, power_runs}
use Rattle.fleet_sim.proofs.fleet.MemFleet.step.Goals as goal

pub returns-in-Ledger-clause-runs : goal.returns-in-Ledger-clause-runs
returns-in-Ledger-clause-runs g c =
    rw c.in-Ledger.is
    (on_ok_weaker c.command.result
    (command_runs g.M.Mixer.next c.args.enrols.now c.in-Ledger.command c.args.self.now c.command.new.self (rw c.in-Ledger.is at c.requires.step))
    c.command.ensures)

pub returns-in-Enter-clause-runs : goal.returns-in-Enter-clause-runs
returns-in-Enter-clause-runs g c =
    rw c.in-Enter.is
    (on_ok_weaker c.enter.result
    (enter_runs g.M.Mixer.next c.args.enrols.now c.in-Enter.device c.in-Enter.id c.args.self.now c.enter.new.self)
    c.enter.ensures)

pub returns-in-Plan-clause-runs : goal.returns-in-Plan-clause-runs
returns-in-Plan-clause-runs g c =
    rw c.in-Plan.is
    (plan_runs g.M.Mixer.next c.args.enrols.now c.in-Plan.device c.in-Plan.cut c.args.self.now c.plan.new.self c.plan.ensures)

pub returns-in-Wrong-clause-runs : goal.returns-in-Wrong-clause-runs
returns-in-Wrong-clause-runs g c =
    rw c.in-Wrong.is
    (wrong_runs g.M.Mixer.next c.args.enrols.now c.in-Wrong.device (get_or c.args.enrols.now c.in-Wrong.device c.index-enrols-device.result)
    c.args.self.now c.enter_wrong.new.self
    (slice_get-get_or c.args.enrols.now c.in-Wrong.device c.index-enrols-device.result (rw c.in-Wrong.is at c.requires.step))
    c.enter_wrong.ensures)

pub returns-in-Tick-clause-runs : goal.returns-in-Tick-clause-runs
returns-in-Tick-clause-runs g c =
    rw c.in-Tick.is
    (tick_runs g.M.Mixer.next c.args.enrols.now c.in-Tick.device c.in-Tick.seconds
    c.args.self.now c.happen.new.self c.happen.ensures)

pub returns-in-Power-clause-runs : goal.returns-in-Power-clause-runs
returns-in-Power-clause-runs g c =
    rw c.in-Power.is
    (power_runs g.M.Mixer.next c.args.enrols.now c.in-Power.device
    c.args.self.now c.happen-in-Power.new.self c.happen-in-Power.ensures)

pub returns-in-Plan-clause-planned : goal.returns-in-Plan-clause-planned
returns-in-Plan-clause-planned g c =
    rw c.in-Plan.is
    (plan_kept g.M.Mixer.next c.args.enrols.now c.in-Plan.device c.in-Plan.cut c.args.self.now c.plan.new.self c.plan.ensures)
