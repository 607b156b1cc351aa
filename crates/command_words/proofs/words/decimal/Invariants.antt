use Rattle.std.proofs.Common.{◌≡◌, ◌<◌, ◌^◌, drop}
use Rattle.paygo_spec.specs.Words.{digits_from}
use Rattle.command_words.proofs.words.decimal.Given as goal

abbrev pub invariant-loop-c : goal.invariant-loop-c
invariant-loop-c l = record {
  same : digits_from l.n (drop l.c-index l.word) ≡ digits_from 0 l.word;
  small : l.n < 10 ^ l.c-index;
}
