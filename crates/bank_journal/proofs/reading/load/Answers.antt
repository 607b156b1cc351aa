use Rattle.std.proofs.Common.{◌≡◌, ◌==◌, if◌then◌else◌, ◌∙◌, ap, arith, refl, sym, Ok, Err, Some, None}
use Rattle.paygo_spec.specs.Rail.{number_in}
use Rattle.paygo_spec.specs.Recovery.{newest_bank}
use Rattle.bank_journal.proofs.Calls.{passed_more}
use Rattle.bank_journal.proofs.ReadingBank.{AreHeaders, headers_found, not_unmade, bank_found, bank_loaded}
use Rattle.bank_journal.proofs.ReadingTold.{told_two}
use Rattle.bank_journal.proofs.reading.load.Goals as goal

pub returns-in-Err-newest-clause-found : goal.returns-in-Err-newest-clause-found
returns-in-Err-newest-clause-found g c =
    let e : newest_bank c.in-Ok.word c.in-Ok-read_word.word ≡ Err c.in-Err-newest.place = sym c.newest.ensures ∙ c.in-Err-newest.is in
    told_two _ _ _ _ _ c.read_word.ensures.words
    (λ words first second. headers_found words c.in-Ok.word c.in-Ok-read_word.word _ (record { first_is = first; second_is = second }) e)
    c.in-Ok.ensures.word c.in-Ok-read_word.ensures.word

pub returns-in-Err-newest-clause-calls : goal.returns-in-Err-newest-clause-calls
returns-in-Err-newest-clause-calls g c =
    (2, omega arith, passed_more 1 1 2 _ _ _ refl c.in-Ok.ensures.calls c.in-Ok-read_word.ensures.calls)

pub returns-in-Ok-None-clause-found : goal.returns-in-Ok-None-clause-found
returns-in-Ok-None-clause-found g c =
    let e : newest_bank c.in-Ok.word c.in-Ok-read_word.word ≡ Ok None = sym c.newest.ensures ∙ c.in-Ok-None.is ∙ ap Ok c.in-Ok-None.field-0-is in
    told_two _ _ _ _ _ c.read_word.ensures.words
    (λ words first second. headers_found words c.in-Ok.word c.in-Ok-read_word.word _ (record { first_is = first; second_is = second }) e)
    c.in-Ok.ensures.word c.in-Ok-read_word.ensures.word

pub returns-in-Ok-Some-clause-found : goal.returns-in-Ok-Some-clause-found
returns-in-Ok-Some-clause-found g c =
    let e : newest_bank c.in-Ok.word c.in-Ok-read_word.word ≡ Ok (Some c.in-Ok-Some.bank) = sym c.newest.ensures ∙ c.in-Ok-Some.is ∙ ap Ok c.in-Ok-Some.field-0-is in
    let number_is : c.number.result ≡ number_in (if c.in-Ok-Some.bank == 0 then c.in-Ok.word else c.in-Ok-read_word.word) = c.number.ensures ∙ ap number_in c.header_of.ensures in
    let headers = told_two _ _ _ _ (AreHeaders c.in-Ok.word c.in-Ok-read_word.word) c.read_word.ensures.words (λ words first second. record { first_is = first; second_is = second }) c.in-Ok.ensures.word c.in-Ok-read_word.ensures.word in
    told_two _ _ _ _ _ (c.read_word-2.ensures.words ∙ c.read_word.ensures.words)
    (λ words are loads. bank_found words c.in-Ok.word c.in-Ok-read_word.word c.in-Ok-Some.bank c.number.result c.read_bank.result are e number_is loads)
    headers c.read_bank.ensures.found

pub returns-in-Ok-Some-clause-calls : goal.returns-in-Ok-Some-clause-calls
returns-in-Ok-Some-clause-calls g c =
    bank_loaded _ _ _ _ (passed_more 1 1 2 _ _ _ refl c.in-Ok.ensures.calls c.in-Ok-read_word.ensures.calls) c.read_bank.ensures.calls

pub returns-in-Ok-Some-clause-unmade_calls : goal.returns-in-Ok-Some-clause-unmade_calls
returns-in-Ok-Some-clause-unmade_calls g c = λ failed.
    let e : newest_bank c.in-Ok.word c.in-Ok-read_word.word ≡ Ok (Some c.in-Ok-Some.bank) = sym c.newest.ensures ∙ c.in-Ok-Some.is ∙ ap Ok c.in-Ok-Some.field-0-is in
    told_two _ _ _ _ _ c.read_word.ensures.words
    (λ words first second unmade. absurd (not_unmade words c.in-Ok.word c.in-Ok-read_word.word c.in-Ok-Some.bank (record { first_is = first; second_is = second }) e unmade))
    c.in-Ok.ensures.word c.in-Ok-read_word.ensures.word
