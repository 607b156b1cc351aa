use Rattle.std.proofs.Common.{◌≡◌, ℕ, ◌<◌}
use Rattle.std.specs.Prelude.{slice_index, IfSome}
use Rattle.bank_ring.specs.View.{header}
use Rattle.bank_ring.proofs.ring.read_headers.Given as goal

abbrev pub invariant-loop-bank : goal.invariant-loop-bank
invariant-loop-bank g l = record {
  same : g.M.Media.view l.media ≡ g.M.Media.view l.fn.media;
  read : IfSome (g.M.Media.view l.fn.media).words (λ words. (b : ℕ) → b < l.bank → slice_index l.headers b ≡ header words b);
}
