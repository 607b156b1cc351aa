use Rattle.std.proofs.Common.{◌≡◌, ◌/◌, ◌%◌, Bool, Option, Some, None, if◌then◌else◌, nat_le, true, get_or, slice_index, bit_and, refl, sym, subst, ◌∙◌}
use Rattle.std.specs.Prelude.{IsSome}
use Rattle.std.specs.Int.Bits.{and_mask}
use Rattle.paygo_spec.specs.Recovery.{limit_in}
use Rattle.paygo_spec.proofs.WindowTests.{window_test}
use Rattle.paygo_spec.specs.Clock.{clock_with, is_clock}
use Rattle.paygo_spec.proofs.Clocks.{clock_test}
use Rattle.journal_laws.proofs.HeadRead.{head_summary}
use Rattle.bank_journal.proofs.reading.summary_in.Goals as goal

some_if : {T : Type 0} (o : Option T) (b : Bool) (x : T) → o ≡ (if b then Some x else None) → b ≡ true → IsSome o
some_if o b x e t = let is : o ≡ Some x = e ∙ rw t refl in subst IsSome (sym is) refl

pub unwrap-requires : goal.unwrap-requires
unwrap-requires c =
    c.window_in-window.ensures.test
    ∙ (window_test (limit_in (get_or c.args.numbers.now 6 0)) (get_or c.args.numbers.now 7 0 / 65536) (get_or c.args.numbers.now 7 0 % 65536)).1
    (head_summary (slice_index c.args.numbers.now) c.requires).window

pub unwrap-requires-2 : goal.unwrap-requires-2
unwrap-requires-2 c =
    let test : is_clock (clock_with c.time_left.result (nat_le 256 (get_or c.args.numbers.now 10 0)) (bit_and (get_or c.args.numbers.now 10 0) 255) (get_or c.args.numbers.now 11 0)) ≡ true =
    rw (c.time_left.ensures, and_mask (get_or c.args.numbers.now 10 0) 8) ((clock_test _).1 (head_summary (slice_index c.args.numbers.now) c.requires).clock) in
    some_if _ _ _ c.of_parts-clock.ensures.test test
