-- The book, and the reports that it stands for.
use Rattle.std.specs.Prelude.{◌≡◌, ◌||◌, not, false, List, Option, Some, None}
use Rattle.std.specs.BTreeMap.{get}
use Rattle.sheet_book.specs.declared.places.Key.{Key}
use Rattle.sheet_book.specs.declared.sales.Sale.{Sale}
use Rattle.sheet_book.specs.declared.sales.Kept.{Kept}
use Rattle.sheet_book.specs.declared.book.Book.{Book}
use Rattle.sheet_book.specs.KeyOrder.{key_cmp}
use Rattle.sheet_book.specs.Reports.{Report, same_sale, lesser, kept_of}

-- The book stands for these reports, the newest first: it keeps of each place what they come to there.
abbrev pub StandsFor : Book → List Report → Type 0
StandsFor book reports = (key : Key) → get key_cmp book.places key ≡ kept_of key reports

-- Each place has after it what it had before: the book stands for the same reports.
abbrev pub KeepsSame : Book → Book → Type 0
KeepsSame before after = (key : Key) → get key_cmp after.places key ≡ get key_cmp before.places key

-- What is kept of a place after one more report, where this was kept of it before.
abbrev pub kept_with : Sale → Option Kept → Kept
kept_with sale None = record { sale = sale; disputed = false }
kept_with sale (Some kept) =
    record { sale = lesser sale (Some kept.sale); disputed = not (same_sale sale kept.sale) || kept.disputed }
