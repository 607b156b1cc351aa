use Rattle.std.proofs.Common.{◌≡◌, ◌∙◌, ◌+◌, ℕ, min, slice_set, ap}
use Rattle.paygo_spec.specs.Pad.{kept_of}
use Rattle.keypad_entry.specs.declared.Pad.TheInside.{Inside}
use Rattle.keypad_entry.proofs.Entries.{pad_of, hold_room, hold_full}
use Rattle.keypad_entry.proofs.Pad.hold.Goals as goal
use Rattle.keypad_entry.proofs.Pad.hold.Goals.{then-place-lt15, else-place-lt15}

-- the count, where the branches meet
counted : (a b : Inside) (count : ℕ) → a ≡ b → count ≡ min (a.held + 1) 99 → count ≡ min (b.held + 1) 99
counted a b count e h = h ∙ ap (λ (pad : Inside). min (pad.held + 1) 99) e

pub returns-clause-pad : goal.returns-clause-pad
returns-clause-pad c = λ keys h.
    let e : pad_of c.self.inside.digits c.self.inside.held c.self.inside.seconds ≡ kept_of keys = c.self.view_is ∙ h in
    elim c.if-place-lt15.branch [
      | then-place-lt15 w ↦
          (let digits : c.if-place-lt15.self-inside.digits ≡ slice_set c.self.inside.digits c.self.inside.held c.args.digit =
          ap (λ (pad : Inside). pad.digits) w.self-inside-is in
          let count : c.min-self-inside.result ≡ min (c.self.inside.held + 1) 99 = counted _ _ _ w.self-inside-is c.min-self-inside.ensures in
          ap (λ xs. pad_of xs c.min-self-inside.result 0) digits
          ∙ (ap (λ n. pad_of (slice_set c.self.inside.digits c.self.inside.held c.args.digit) n 0) count
          ∙ hold_room c.self.inside.digits c.self.inside.held c.self.inside.seconds c.args.digit keys e w.if-place-lt15.true))
      | else-place-lt15 w ↦
          (let digits : c.if-place-lt15.self-inside.digits ≡ c.self.inside.digits = ap (λ (pad : Inside). pad.digits) w.self-inside-is in
          let count : c.min-self-inside.result ≡ min (c.self.inside.held + 1) 99 = counted _ _ _ w.self-inside-is c.min-self-inside.ensures in
          ap (λ xs. pad_of xs c.min-self-inside.result 0) digits
          ∙ (ap (λ n. pad_of c.self.inside.digits n 0) count
          ∙ hold_full c.self.inside.digits c.self.inside.held c.self.inside.seconds c.args.digit keys e w.if-place-lt15.false))
    ]
