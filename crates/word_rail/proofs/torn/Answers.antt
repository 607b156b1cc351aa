use Rattle.word_rail.proofs.Bits.{railed_is_paired, torn_paired, torn_railed}
use Rattle.word_rail.proofs.torn.Goals as goal

pub returns : goal.returns
returns c = record {
  railed = λ w t f g r k. torn_paired w t (railed_is_paired w f r) k;
  railed_only = λ w t f g r k. torn_railed w t f g (railed_is_paired w f r) k;
  paired = λ w t f g p k. torn_paired w t p k;
  paired_only = torn_railed;
}
