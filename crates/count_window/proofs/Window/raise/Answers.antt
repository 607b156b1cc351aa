use Rattle.std.proofs.Common.{[], ◌∷◌}
use Rattle.paygo_spec.specs.declared.Entry.TheVariants.{Raised}
use Rattle.paygo_spec.specs.History.{raised_limit}
use Rattle.paygo_spec.specs.Window.{alone}
use Rattle.paygo_spec.proofs.Windows.{stands_alone, raised_stands}
use Rattle.paygo_spec.proofs.Snapshots.{window_view_is}
use Rattle.count_window.proofs.Window.raise.Goals as goal

pub returns-clause-window : goal.returns-clause-window
returns-clause-window c =
    let limit = c.self.inside.limit in
    let last = c.self.inside.last in
    let bits = c.self.inside.bits in
    let before = stands_alone limit last bits c.self.invariant.1 in
    rw (← c.self.view_is) (window_view_is (alone limit last bits) (Raised ∷ []) raised_limit last bits (raised_stands limit last bits (alone limit last bits) [] before))
