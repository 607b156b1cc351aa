use Rattle.std.proofs.Common.{ℕ, ◌*◌, ◌^◌, List, [], ◌∷◌, map, ap, ◌∙◌}
use Rattle.std.specs.Simd.Lanes.{zip2}
use Rattle.paygo_spec.specs.Sip.{SipState, sip_absorb, sip_finish}
use Rattle.sip_lanes.specs.Side.{lanes, hash_of_word}
use Rattle.sip_lanes.proofs.four.hash_four.Goals as goal

pub returns : goal.returns
unfolding hash_of_word
returns c =
    let ends : List ℕ = 8 * 2 ^ 56 ∷ 8 * 2 ^ 56 ∷ 8 * 2 ^ 56 ∷ 8 * 2 ^ 56 ∷ [] in
    c.finish.ensures
    ∙ ap (λ (ss : List SipState). map sip_finish ss)
    (c.absorb-2.ensures ∙ ap (λ (ss : List SipState). zip2 sip_absorb ss ends)
    (c.absorb.ensures ∙ ap (λ (ss : List SipState). zip2 sip_absorb ss (lanes c.args.words)) c.start.ensures))
