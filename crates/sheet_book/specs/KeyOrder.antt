-- The order in which a book keeps its places. No answer depends on it.
use Rattle.std.specs.declared.cmp.Ordering.{Ordering}
use Rattle.std.specs.Ordering.{ordering_then, nat_cmp}
use Rattle.std.specs.Cmp.{IsTotalOrder, then_total, on_total, nat_cmp_total}
use Rattle.std.specs.Cmp.Lexicographic.{slice_cmp, lists_total}
use Rattle.sheet_book.specs.declared.places.Key.{Key}

-- By the bytes of the sheet's name, and then by the place on the sheet.
abbrev pub key_cmp : Key → Key → Ordering
key_cmp a b = ordering_then (slice_cmp nat_cmp a.sheet b.sheet) (nat_cmp a.place b.place)

-- It is an order of all places.
pub key_cmp_total : IsTotalOrder key_cmp
key_cmp_total =
    then_total
    (on_total (λ (key : Key). key.sheet) (lists_total nat_cmp_total))
    (on_total (λ (key : Key). key.place) nat_cmp_total)
