use Rattle.std.proofs.Common.{ℕ, List, map, ap, ◌∙◌}
use Rattle.std.specs.Simd.Lanes.{zip2}
use Rattle.paygo_spec.specs.Chain.{folded}
use Rattle.sip_lanes.specs.Side.{lanes, key_lanes, hash_of_word}
use Rattle.sip_lanes.proofs.SideLemmas.{next_four}
use Rattle.sip_lanes.proofs.lanes.LanesMixer.step4.Goals as goal

pub returns : goal.returns
returns c =
    c.fold_four.ensures
    ∙ ap (λ (hs : List ℕ). map folded (lanes hs)) c.hash_four.ensures
    ∙ ap (λ (ws : List ℕ). map folded (zip2 hash_of_word (key_lanes c.args.keys.now) (lanes ws))) c.words.ensures
    ∙ next_four c.args.keys.now c.args.codes.now c.told-keys c.told-codes
