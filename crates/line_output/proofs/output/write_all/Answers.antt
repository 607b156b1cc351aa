use Rattle.std.proofs.Common.{◌≡◌, ℕ, ◌+◌, ◌-◌, List, ◌++◌, take, drop, length, ap, sym, ◌∙◌, arith}
use Rattle.std.proofs.lemmas.List.{append_assoc, length-take, length-drop, take_rest}
use Rattle.std.proofs.Math.Seq.{take-add}
use Rattle.line_output.proofs.output.write_all.Goals as goal

-- the first n of what is left after the first d
next_part : (xs : List ℕ) (d n : ℕ) → take d xs ++ take n (take (length xs - d) (drop d xs)) ≡ take (d + n) xs
next_part xs d n = ap (λ l. take d xs ++ take n l) (take_rest xs d) ∙ sym (take-add d n xs)

pub loop-done-preserved : goal.loop-done-preserved
loop-done-preserved g c =
    let takes = c.in-Ok.ensures.ok in
    let inv = c.loop-done.invariant in
    let rest = take (length c.args.bytes.now - c.loop-done.done) (drop c.loop-done.done c.args.bytes.now) in
    let before = (g.K.Sink.view c.args.sink.now).written in
    record {
      within = omega (arith, takes.bound, length-take (length c.args.bytes.now - c.loop-done.done) (drop c.loop-done.done c.args.bytes.now), length-drop c.loop-done.done c.args.bytes.now);
      written = takes.written ∙ ap (λ l. l ++ take c.in-Ok.n rest) inv.written ∙ append_assoc before (take c.loop-done.done c.args.bytes.now) (take c.in-Ok.n rest)
          ∙ ap (λ l. before ++ l) (next_part c.args.bytes.now c.loop-done.done c.in-Ok.n);
      faults = takes.faults ∙ inv.faults;
    }
