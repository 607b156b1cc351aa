use Rattle.std.proofs.Common.{rules, arith, ◌≡◌, ℕ, ◌+◌, ◌-◌, List, length, drop, take, ◌++◌, ap, sym, ◌∙◌, Some}
use Rattle.std.proofs.lemmas.List.{drop_all, take_at, take-append-drop, drop-drop}
use Rattle.std.proofs.Math.Seq.{take-add}
use Rattle.memory_ports.proofs.mem_source.MemSourceSource.read.Goals as goal

-- what was copied out is what stood at this place
copied : (xs front rest : List ℕ) (at n : ℕ) → front ≡ take (at + n - at) (drop at xs) → length front ≡ n → take n (drop at xs) ≡ take n (front ++ rest)
copied xs front rest at n is size =
    let same : at + n - at ≡ n = omega arith in
    ap (λ k. take k (drop at xs)) (sym same) ∙ sym is ∙ sym (take_at front rest n size)

-- what was copied out and what is left make what was left before
left : (xs front rest : List ℕ) (at n : ℕ) → front ≡ take (at + n - at) (drop at xs) → length front ≡ n → drop at xs ≡ take n (front ++ rest) ++ drop (at + n) xs
left xs front rest at n is size =
    sym (take-append-drop n (drop at xs))
    ∙ ap (λ l. take n (drop at xs) ++ l) (drop-drop n at xs)
    ∙ ap (λ l. l ++ drop (at + n) xs) (copied xs front rest at n is size)

-- and what was handed out before and it make what was handed out
given : (xs front rest : List ℕ) (at n : ℕ) → front ≡ take (at + n - at) (drop at xs) → length front ≡ n → take (at + n) xs ≡ take at xs ++ take n (front ++ rest)
given xs front rest at n is size = take-add at n xs ∙ ap (λ l. take at xs ++ l) (copied xs front rest at n is size)

pub returns-then-not-is_empty-clause-ok : goal.returns-then-not-is_empty-clause-ok
returns-then-not-is_empty-clause-ok c = record {
  bound = search rules;
  given = given c.args.self.now.bytes.items c.copy_from_slice.new.self (drop c.min-n.result c.args.buf.now) c.args.self.now.at c.min-n.result (search rules) (search rules);
  left = ap Some (left c.args.self.now.bytes.items c.copy_from_slice.new.self (drop c.min-n.result c.args.buf.now) c.args.self.now.at c.min-n.result (search rules) (search rules));
  ended = search rules;
  nothing = λ none some. drop_all (c.args.self.now.at + c.min-n.result) c.args.self.now.bytes.items (omega (arith, c.len.ensures, c.min.ensures, c.min-n.ensures, c.args.self.now.gives));
  faults = search rules;
}
