use Rattle.std.proofs.Common.{[], ◌∷◌}
use Rattle.paygo_spec.specs.declared.Entry.TheVariants.{Accept}
use Rattle.paygo_spec.specs.Window.{alone}
use Rattle.paygo_spec.proofs.Windows.{stands_alone, taken_keeps}
use Rattle.paygo_spec.proofs.Snapshots.{window_view_is}
use Rattle.paygo_spec.proofs.Entries.{valid_is}
use Rattle.count_window.proofs.Window.take.Goals as goal

pub invariant_of-self : goal.invariant_of-self
invariant_of-self c =
    let limit = c.self.inside.limit in
    let last = c.self.inside.last in
    let bits = c.self.inside.bits in
    let may = rw (← c.self.view_is) at c.requires.may in
    let valid = (valid_is (alone limit last bits) [] c.args.count c.args.value).0 may in
    let stands = c.bits_after-bits.ensures limit (alone limit last bits) [] c.args.value (stands_alone limit last bits c.self.invariant.1) in
    rw c.max.ensures (c.self.invariant.0, taken_keeps limit last bits c.args.count c.args.value limit _ _ c.self.invariant.0 c.self.invariant.1 valid stands)

pub returns : goal.returns
returns c =
    let limit = c.self.inside.limit in
    let last = c.self.inside.last in
    let bits = c.self.inside.bits in
    let before = stands_alone limit last bits c.self.invariant.1 in
    let stands = c.bits_after-bits.ensures limit (alone limit last bits) [] c.args.value before in
    rw (← c.self.view_is) (record {
      window = rw c.max.ensures (window_view_is (alone limit last bits) (Accept c.args.count c.args.value ∷ []) _ _ _ stands);
      history = λ start entries w. rw c.max.ensures (c.bits_after-bits.ensures _ start entries c.args.value w);
    })
