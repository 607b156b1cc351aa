use Rattle.std.proofs.Common.{ℕ, List, [], ◌∷◌, get_or, sym, ap, ◌∙◌}
use Rattle.std.specs.Simd.Lanes.{zip2}
use Rattle.token_chain.proofs.Chain.{code_from_none, code_from_more, steps_below}
use Rattle.token_issue.proofs.Listed.{values_none}
use Rattle.token_issue.proofs.Fours.{four_same, four_below}
use Rattle.token_issue.proofs.ByValueLemmas.{list_step}
use Rattle.token_issue.proofs.four_lists.four_lists.Goals as goal

pub counts-init : goal.counts-init
counts-init g c = record {
  below = four_below _ _ _ _ _ c.first.ensures.below c.first-2.ensures.below c.first-3.ensures.below c.first-4.ensures.below;
  codes = four_same _ _ _ _ _ _ _ _
      (c.first.ensures.code ∙ sym (code_from_none _ _))
      (c.first-2.ensures.code ∙ sym (code_from_none _ _))
      (c.first-3.ensures.code ∙ sym (code_from_none _ _))
      (c.first-4.ensures.code ∙ sym (code_from_none _ _));
  a = c.in_ok-a.ensures ∙ sym (values_none _);
  b = c.in_ok-b.ensures ∙ sym (values_none _);
  c = c.in_ok-c.ensures ∙ sym (values_none _);
  d = c.in_ok-d.ensures ∙ sym (values_none _);
}

pub counts-preserved : goal.counts-preserved
counts-preserved g c =
    let keys : List (List ℕ) = c.args.key.now ∷ c.args.key.now ∷ c.args.key.now ∷ c.args.key.now ∷ [] in
    let codes = c.counts.invariant.codes in
    record {
      below = λ i inside. rw c.step4-codes.ensures (steps_below g.M.Mixer.next g.met.M.Mixer.below keys c.counts.codes i);
      codes =
          c.step4-codes.ensures ∙ ap (λ (cs : List ℕ). zip2 g.M.Mixer.next keys cs) codes
          ∙ four_same _ _ _ _ _ _ _ _ (sym (code_from_more _ _ _)) (sym (code_from_more _ _ _)) (sym (code_from_more _ _ _)) (sym (code_from_more _ _ _));
      a = list_step (g.M.Mixer.next c.args.key.now) c.args.start c.args.va c.counts.count _ c.counts.a.items (get_or c.counts.codes 0 0) c.token_base-base_a.result c.in_ok-add.ensures c.counts.invariant.a (ap (λ (cs : List ℕ). get_or cs 0 0) codes) c.token_base-base_a.ensures.value;
      b = list_step (g.M.Mixer.next c.args.key.now) c.args.start c.args.vb c.counts.count _ c.counts.b.items (get_or c.counts.codes 1 0) c.token_base-base_b.result c.in_ok-add-2.ensures c.counts.invariant.b (ap (λ (cs : List ℕ). get_or cs 1 0) codes) c.token_base-base_b.ensures.value;
      c = list_step (g.M.Mixer.next c.args.key.now) c.args.start c.args.vc c.counts.count _ c.counts.c.items (get_or c.counts.codes 2 0) c.token_base-base_c.result c.in_ok-add-3.ensures c.counts.invariant.c (ap (λ (cs : List ℕ). get_or cs 2 0) codes) c.token_base-base_c.ensures.value;
      d = list_step (g.M.Mixer.next c.args.key.now) c.args.start c.args.vd c.counts.count _ c.counts.d.items (get_or c.counts.codes 3 0) c.token_base-base_d.result c.in_ok-add-4.ensures c.counts.invariant.d (ap (λ (cs : List ℕ). get_or cs 3 0) codes) c.token_base-base_d.ensures.value;
    }
