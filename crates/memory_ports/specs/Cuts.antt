-- The power cut that may be planned for a flash in memory.
use Rattle.std.specs.Prelude.{ℕ, ◌-◌, Some}
use Rattle.std.specs.Option.{option_map}
use Rattle.std.specs.declared.option.Option.{Option}
use Rattle.paygo_spec.specs.declared.Cut.{Cut}

-- The due that a flash with this plan tells.
abbrev pub due_of : Option Cut → Option (Option ℕ)
due_of plan = Some (option_map (λ cut. cut.after) plan)

-- This power cut, one call nearer.
abbrev pub nearer : Cut → Cut
nearer cut = record cut { after = cut.after - 1 }
