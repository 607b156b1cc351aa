use Rattle.std.proofs.Common.{◌≡◌, ℕ, ◌*◌, ◌<◌, ◌≤◌, length, get_or}
use Rattle.std.specs.Prelude.{bit_or}
use Rattle.media_ports.proofs.mem_media.keep_bits.Given as goal

abbrev pub invariant-loop-i : goal.invariant-loop-i
invariant-loop-i l = record {
  count : length l.words ≡ length l.fn.words;
  inside : (k : ℕ) → l.bank * 512 ≤ k → k < l.i → get_or l.words k 0 ≡ bit_or (get_or l.fn.words k 0) l.keep;
  before : (k : ℕ) → k < l.bank * 512 → get_or l.words k 0 ≡ get_or l.fn.words k 0;
  after : (k : ℕ) → l.i ≤ k → get_or l.words k 0 ≡ get_or l.fn.words k 0;
}
