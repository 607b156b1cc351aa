use Rattle.std.proofs.Common.{◌≡◌, ◌^◌, ◌<◌, [], ◌∷◌, slice_index, EachIndex}
use Rattle.paygo_spec.specs.Chain.{code_at, token_at}
use Rattle.token_issue.specs.Lists.{values_below}
use Rattle.token_issue.proofs.four_lists.four_lists.Given as goal

abbrev pub invariant-counts : goal.invariant-counts
invariant-counts g l = record {
  below : EachIndex l.codes (λ i. slice_index l.codes i < 10 ^ 9);
  codes : l.codes ≡ code_at (g.M.Mixer.next l.key) l.start l.va l.count
      ∷ code_at (g.M.Mixer.next l.key) l.start l.vb l.count
      ∷ code_at (g.M.Mixer.next l.key) l.start l.vc l.count
      ∷ code_at (g.M.Mixer.next l.key) l.start l.vd l.count ∷ [];
  a : l.a.items ≡ values_below (token_at (g.M.Mixer.next l.key) l.start l.va) l.count;
  b : l.b.items ≡ values_below (token_at (g.M.Mixer.next l.key) l.start l.vb) l.count;
  c : l.c.items ≡ values_below (token_at (g.M.Mixer.next l.key) l.start l.vc) l.count;
  d : l.d.items ≡ values_below (token_at (g.M.Mixer.next l.key) l.start l.vd) l.count;
}
