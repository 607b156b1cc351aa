use Rattle.std.proofs.Common.{◌≡◌, ◌∙◌, List, ℕ, length, take, drop, ap, arith, w32, eqb}
use Rattle.std.specs.Int.RustNames.{count_ones}
use Rattle.std.proofs.lemmas.Simd.{length-chunk, bitmask_splat, ones-mask_l}
use Rattle.std.proofs.lemmas.List.Sums.{count_by-le-length}
use Rattle.sip_lanes.proofs.counting.count_eight.Goals as goal

pub returns-clause-value : goal.returns-clause-value
returns-clause-value c =
    let xs : List ℕ = take 8 (drop c.args.at c.args.list.now) in
    let long : length xs ≡ 8 = length-chunk c.args.at 8 c.args.list.now c.requires in
    ap count_ones (bitmask_splat w32 eqb xs 8 c.args.x long (omega arith)) ∙ ones-mask_l (λ y. eqb y c.args.x) xs

pub returns-clause-most : goal.returns-clause-most
returns-clause-most c =
    let xs : List ℕ = take 8 (drop c.args.at c.args.list.now) in
    let long : length xs ≡ 8 = length-chunk c.args.at 8 c.args.list.now c.requires in
    let value = ap count_ones (bitmask_splat w32 eqb xs 8 c.args.x long (omega arith)) ∙ ones-mask_l (λ y. eqb y c.args.x) xs in
    rw value (omega (arith, count_by-le-length (λ y. eqb y c.args.x) xs))
