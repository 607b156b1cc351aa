use Rattle.std.proofs.Common.{◌≡◌}
use Rattle.std.specs.List.{fold}
use Rattle.paygo_spec.specs.Sip.{sip_start, sip_absorb, first_words}
use Rattle.siphash24.proofs.hash.Given as goal

-- The state has taken in the first words.
abbrev pub invariant-loop-i : goal.invariant-loop-i
invariant-loop-i l = l.state ≡ fold sip_absorb (sip_start l.key) (first_words l.message l.i)
