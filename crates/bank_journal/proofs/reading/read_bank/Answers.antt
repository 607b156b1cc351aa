use Rattle.std.proofs.Common.{arith, slice_index}
use Rattle.bank_journal.specs.Summary.{summary_of}
use Rattle.bank_journal.proofs.ReadingCalls.{read_failed}
use Rattle.bank_journal.proofs.ReadingBank.{head_read, entries_refused, bank_read, config_range, key_range}
use Rattle.bank_journal.proofs.ReadingTold.{told_two}
use Rattle.bank_journal.proofs.reading.read_bank.Goals as goal

pub unit_of-unit-requires : goal.unit_of-unit-requires
unit_of-unit-requires g c =
    let range = config_range (slice_index c.in-Ok.numbers) c.config_in-config.result c.config_in-config.ensures c.in-Ok.ensures.rules in
    range.divider

pub invariant_of-result : goal.invariant_of-result
invariant_of-result g c = record {
  bank = c.requires.bank;
  first = c.requires.number.0;
  last = c.requires.number.1;
  behind_head = c.in-Ok-read_entries.ensures.place.0;
  within = c.in-Ok-read_entries.ensures.place.1;
  key = key_range (slice_index c.in-Ok.numbers) c.config_in-config.result c.config_in-config.ensures;
  config = config_range (slice_index c.in-Ok.numbers) c.config_in-config.result c.config_in-config.ensures c.in-Ok.ensures.rules;
  summary = c.in-Ok-read_entries.ensures.rule;
}

pub returns-in-Ok-read_entries-clause-found : goal.returns-in-Ok-read_entries-clause-found
returns-in-Ok-read_entries-clause-found g c =
    told_two _ _ _ _ _ c.read_numbers.ensures.words
    (λ words head entries number_is.
    bank_read words c.args.bank _ c.args.number c.in-Ok-read_entries.place c.config_in-config.result (summary_of c.summary_in.result) c.in-Ok-read_entries.summary c.unit_of-unit.ensures.value
    (head_read words c.args.bank c.in-Ok.numbers c.config_in-config.result (summary_of c.summary_in.result) c.config_in-config.ensures c.summary_in.ensures head) entries number_is)
    c.in-Ok.ensures.found c.in-Ok-read_entries.ensures.found

pub returns-in-Err-read_entries-clause-found : goal.returns-in-Err-read_entries-clause-found
returns-in-Err-read_entries-clause-found g c =
    told_two _ _ _ _ _ c.read_numbers.ensures.words
    (λ words head entries number_is.
    entries_refused words c.args.bank _ c.config_in-config.result (summary_of c.summary_in.result) c.in-Err-read_entries.fault c.unit_of-unit.ensures.value
    (head_read words c.args.bank c.in-Ok.numbers c.config_in-config.result (summary_of c.summary_in.result) c.config_in-config.ensures c.summary_in.ensures head) entries)
    c.in-Ok.ensures.found c.in-Err-read_entries.ensures.found

pub returns-in-Err-read_entries-clause-calls : goal.returns-in-Err-read_entries-clause-calls
returns-in-Err-read_entries-clause-calls g c =
    read_failed 11 500 511 c.in-Err-read_entries.fault _ _ _ (omega arith) c.in-Ok.ensures.calls c.in-Err-read_entries.ensures.calls
