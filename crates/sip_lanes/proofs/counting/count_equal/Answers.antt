use Rattle.std.proofs.Common.{ℕ, ◌*◌, ◌/◌, ◌≡◌, ◌==◌, List, length, take, drop, ap, ◌∙◌, arith}
use Rattle.std.specs.List.{count_by}
use Rattle.sip_lanes.proofs.CountLemmas.{count_more, count_parts, rest_is}
use Rattle.sip_lanes.proofs.counting.count_equal.Goals as goal

pub eights-preserved : goal.eights-preserved
eights-preserved c = record {
  few = omega (arith, c.count_eight-total.ensures.most);
  total = (let so_far = c.eights.invariant.total in let here = c.count_eight-total.ensures.value in cc (count_more c.args.x c.eights.block c.args.list.now));
}

pub returns : goal.returns
returns c =
    let xs : List ℕ = c.args.list.now in
    let at : ℕ = 8 * (length xs / 8) in
    let end : c.eights.block ≡ length xs / 8 = omega arith in
    let first : c.eights.total ≡ count_by (λ y. y == c.args.x) (take at xs) =
    c.eights.invariant.total ∙ ap (λ (b : ℕ). count_by (λ y. y == c.args.x) (take (8 * b) xs)) end in
    let rest : c.count_rest.result ≡ count_by (λ y. y == c.args.x) (drop at xs) =
    c.count_rest.ensures ∙ ap (λ (ys : List ℕ). count_by (λ y. y == c.args.x) ys) (rest_is at xs) in
    rw (first, rest) (count_parts c.args.x at xs)
