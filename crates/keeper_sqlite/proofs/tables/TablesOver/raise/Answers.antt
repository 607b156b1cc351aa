use Rattle.std.proofs.Common.{arith}
use Rattle.sqlite.specs.Held.{state}
use Rattle.sqlite.specs.State.{HasCleanDisk}
use Rattle.shop_tables.proofs.Committing.{on_fault}
use Rattle.shop_tables.proofs.Staying.{survives_as}
use Rattle.keeper_sqlite.proofs.tables.TablesOver.raise.Goals as goal

pub returns-in-Some-clause-refused : goal.returns-in-Some-clause-refused
returns-in-Some-clause-refused g c clean =
    let read : HasCleanDisk (state g.S.Store c.device.new.self.conn) = omega (arith, clean, c.write_raised.ensures.whole.clean) in
    on_fault c.write_raised.result (λ stays opened tables tells. stays opened tables (c.in_ok-row.ensures.answered read tables tells)) (c.write_raised.ensures.refused clean)

pub returns-in_default-clause-refused : goal.returns-in_default-clause-refused
returns-in_default-clause-refused g c clean opened = c.in_ok-row.ensures.answered clean

pub returns-in_default-clause-whole : goal.returns-in_default-clause-whole
returns-in_default-clause-whole g c =
    survives_as (state g.S.Store c.args.self.now.conn) (state g.S.Store c.device.new.self.conn) _ _ (λ trees commits tables tells kept some. absurd (commits tables tells)) c.device.ensures.nothing
