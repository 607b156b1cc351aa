use Rattle.std.proofs.Common.{arith, refl, sym, ◌∙◌, ◌≡◌, ◌*◌, ◌+◌, subst}
use Rattle.std.proofs.lemmas.Bool.Decides.{nat_tests}
use Rattle.bank_journal.specs.Summary.{summary_of}
use Rattle.bank_journal.specs.Reading.{FaultCalls}
use Rattle.journal_laws.proofs.Kept.{word_keeps}
use Rattle.bank_journal.proofs.Calls.{passed_none, passed_more}
use Rattle.bank_journal.proofs.ReadingEntries.{read_none, read_more, entry_refused, refused_by_damage}
use Rattle.bank_journal.proofs.ReadingTold.{told_always, told_two}
use Rattle.bank_journal.proofs.reading.read_entries.Goals as goal

pub loop-n-init : goal.loop-n-init
loop-n-init g c = record {
  words = refl;
  rule = c.requires.start;
  few = omega arith;
  read = told_always _ _ (λ words. read_none words c.args.bank c.args.unit (summary_of c.args.start));
  calls = passed_none _ c.requires.up;
}

pub returns-in-Err-take_word-clause-found : goal.returns-in-Err-take_word-clause-found
returns-in-Err-take_word-clause-found g c =
    let is : 512 * c.from.result + (12 + c.loop-n.n) ≡ 512 * c.args.bank + (12 + c.loop-n.n) = omega arith in
    told_two _ _ _ _ _ c.loop-n.invariant.words
    (λ words read word. entry_refused words c.args.bank c.args.unit _ c.in-Ok.word (summary_of c.args.start) c.loop-n.n (summary_of c.loop-n.summary) c.loop-n.used c.in-Err-take_word.fault is c.loop-n-test.true read (sym word) c.in-Err-take_word.ensures)
    c.loop-n.invariant.read c.in-Ok.ensures.word

pub returns-in-Err-take_word-clause-calls : goal.returns-in-Err-take_word-clause-calls
returns-in-Err-take_word-clause-calls g c =
    let refused = refused_by_damage _ c.in-Err-take_word.fault c.in-Err-take_word.ensures in
    subst (λ e. FaultCalls 500 e (g.F.Flash.view c.args.flash.now) (g.F.Flash.view c.read_word.new.flash)) (sym refused.1)
    (c.loop-n.n + 1, omega arith, passed_more c.loop-n.n 1 (c.loop-n.n + 1) _ _ _ refl c.loop-n.invariant.calls c.in-Ok.ensures.calls)

pub loop-n-preserved : goal.loop-n-preserved
loop-n-preserved g c =
    let is : 512 * c.from.result + (12 + c.loop-n.n) ≡ 512 * c.args.bank + (12 + c.loop-n.n) = omega arith in
    record {
      words = c.read_word.ensures.words ∙ c.loop-n.invariant.words;
      rule = word_keeps c.args.unit _ c.in-Ok.word (summary_of c.loop-n.summary) (summary_of c.in-Ok-take_word.after) c.requires.unit c.loop-n.invariant.rule c.in-Ok-take_word.ensures;
      few = let few = c.loop-n.invariant.few in let used = c.used_to-used.ensures in grind (arith, nat_tests);
      read = told_two _ _ _ _ _ c.loop-n.invariant.words
          (λ words read word. read_more words c.args.bank c.args.unit _ c.in-Ok.word (summary_of c.args.start) c.loop-n.n (summary_of c.loop-n.summary) (summary_of c.in-Ok-take_word.after) c.loop-n.used c.used_to-used.result is read (sym word) c.in-Ok-take_word.ensures c.used_to-used.ensures)
          c.loop-n.invariant.read c.in-Ok.ensures.word;
      calls = passed_more c.loop-n.n 1 (c.loop-n.n + 1) _ _ _ refl c.loop-n.invariant.calls c.in-Ok.ensures.calls;
    }
