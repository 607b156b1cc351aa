-- The power cut that may be planned for a media in memory.
use Rattle.std.specs.Prelude.{◌≡◌, ◌-◌, ◌≤◌, Some, None}
use Rattle.std.specs.declared.option.Option.{Option}
use Rattle.paygo_spec.specs.declared.Cut.{Cut}

-- This power cut, one call nearer.
abbrev pub nearer : Cut → Cut
nearer cut = record cut { after = cut.after - 1 }

-- A live call succeeded: no cut was planned, or one that is still to come, and that is one call nearer now.
abbrev pub PassesBy : Option Cut → Option Cut → Type 0
PassesBy None new = new ≡ None
PassesBy (Some cut) new = (1 ≤ cut.after) × (new ≡ Some (nearer cut))

-- A live call was cut: it was planned to be, and no further one is.
abbrev pub Comes : Option Cut → Option Cut → Type 0
Comes None new = ⊥
Comes (Some cut) new = (cut.after ≡ 0) × (new ≡ None)
