use Rattle.std.proofs.Common.{refl}
use Rattle.device_core.proofs.Beginning.{other_damaged, other_made}
use Rattle.device_core.proofs.unmade.begin.Goals as goal

pub returns-in-Err-Damaged : goal.returns-in-Err-Damaged
returns-in-Err-Damaged g c =
    let said = rw c.in-Err-Damaged.field-0-is at c.in-Err-Damaged.ensures in (
      refl,
      record {
        untold = other_damaged _ c.in-Err-Damaged.place c.requires.unmade said.found;
        words = said.calls.1;
        calls = said.calls.0;
      },
    )

pub returns-in-Err-Made : goal.returns-in-Err-Made
returns-in-Err-Made g c =
    let said = rw c.in-Err-Made.field-0-is at c.in-Err-Made.ensures in
    record {
      untold = other_made _ c.in-Err-Made.number c.requires.unmade said.found;
      words = said.calls.1;
      calls = said.calls.0;
    }
