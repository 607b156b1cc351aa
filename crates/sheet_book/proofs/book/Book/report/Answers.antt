use Rattle.sheet_book.specs.declared.book.Book.{Book}
use Rattle.sheet_book.proofs.Entries.{report_stands, none_reported, same_kept}
use Rattle.sheet_book.proofs.book.Book.report.Goals as goal

pub returns-in-Ok-clause-stands : goal.returns-in-Ok-clause-stands
returns-in-Ok-clause-stands c =
    let after : Book = record { places = c.insert.new.self } in
    report_stands c.args.self.now after _ _ c.kept_with-kept.result c.in-Ok.ensures.updates.0 c.kept_with-kept.ensures

pub returns-in-Err-clause-first : goal.returns-in-Err-clause-first
returns-in-Err-clause-first c = none_reported c.args.self.now _ c.in-Err.ensures.absent

pub returns-in-Err-clause-memory : goal.returns-in-Err-clause-memory
returns-in-Err-clause-memory c = same_kept c.args.self.now (record { places = c.insert.new.self }) c.in-Err.ensures.err
