-- The book's lines, and what a report makes of them.
use Rattle.std.proofs.Common.{◌≡◌, ℕ, ◌+◌, ◌≤◌, ◌*◌, Bool, true, false, List, [], ◌∷◌, Option, Some, None, refl, sym}
use Rattle.std.proofs.Common.{ap, ◌∙◌, subst, ⊎_elim, arith, length, cond}
use Rattle.std.specs.Prelude.{◌&&◌, ◌<◌, ◌^◌, is_some, if◌then◌else◌}
use Rattle.std.specs.Int.{from_bool}
use Rattle.std.specs.declared.cmp.Ordering.{Ordering}
use Rattle.std.specs.declared.cmp.Ordering.TheVariants.{Less, Equal, Greater}
use Rattle.std.specs.Ordering.{is_eq, ordering_then, nat_cmp}
use Rattle.std.specs.Cmp.{unsigned_tied}
use Rattle.std.specs.Cmp.Lexicographic.{slice_cmp}
use Rattle.std.specs.BTreeMap.{get, is_at, IsOrdered, keys, values, btree_map_len}
use Rattle.std.specs.List.{AllByRecursion}
use Rattle.std.specs.List.Sorted.{IsStrictlySortedBy}
use Rattle.std.specs.Map.{lookup, keys_of, values_of}
use Rattle.std.proofs.lemmas.Bool.{cases_Bool}
use Rattle.std.proofs.lemmas.Map.Text.{is_eq-slice_cmp}
use Rattle.std.proofs.lemmas.Map.Keys.{sorted_head, sorted_tail}
use Rattle.std.proofs.lemmas.Map.Entries.{length-keys_of}
use Rattle.ledger_spec.specs.Names.{same_name}
use Rattle.sheet_book.specs.declared.places.Key.{Key}
use Rattle.sheet_book.specs.declared.sales.Sale.{Sale}
use Rattle.sheet_book.specs.declared.sales.Kept.{Kept}
use Rattle.sheet_book.specs.declared.book.Book.{Book}
use Rattle.sheet_book.specs.KeyOrder.{key_cmp}
use Rattle.sheet_book.specs.Books.{StandsFor, KeepsSame, kept_with}
use Rattle.sheet_book.specs.Reports as reported
use Rattle.sheet_book.specs.Reports.{Report, same_key, sales_of, kept_of, has_key, is_distinct, sum_over, money_at}
use Rattle.sheet_book.specs.Reports.{dispute_at, totals_at, totals_of, least}
use Rattle.sheet_book.proofs.Sums.{key_is, key_self, key_turn, distinct_parts, sum_pointwise}
use Rattle.sheet_book.proofs.Least.{kept_from, kept_money, kept_dispute}
use Rattle.sheet_book.proofs.Keeping.{kept_here, has_kept, keys_distinct}
use Rattle.sheet_book.proofs.Counting.{by_parts, totals_from, totals_over, money_by, dispute_by}

both_eq : (o p : Ordering) → is_eq (ordering_then o p) ≡ (is_eq o && is_eq p)
both_eq Less p = refl
both_eq Equal p = refl
both_eq Greater p = refl

same_sheet : (a b : List ℕ) → is_eq (slice_cmp nat_cmp a b) ≡ same_name a b
unfolding same_name
same_sheet a b = is_eq-slice_cmp a b

-- the order ties one place alone
pub at_is : (a b : Key) → is_eq (key_cmp a b) ≡ same_key a b
at_is a b =
    both_eq (slice_cmp nat_cmp a.sheet b.sheet) (nat_cmp a.place b.place)
    ∙ ap (λ t. t && is_eq (nat_cmp a.place b.place)) (same_sheet a.sheet b.sheet)
    ∙ ap (λ t. same_name a.sheet b.sheet && t) (unsigned_tied a.place b.place)

-- the book after a report
pub report_stands : (old new : Book) (key : Key) (sale : Sale) (kept : Kept)
    → ((q : Key) → get key_cmp new.places q ≡ cond (is_eq (key_cmp key q)) (Some kept) (get key_cmp old.places q))
    → kept ≡ kept_with sale (get key_cmp old.places key) → (reports : List Report) → StandsFor old reports
    → StandsFor new (record { key = key; sale = sale } ∷ reports)
report_stands old new key sale kept after is reports stands = λ q. after q ∙ ⊎_elim
    (λ (t : same_key q key ≡ true).
    let e = key_is q key t in
    let at : is_eq (key_cmp key q) ≡ true = ap (λ k. is_eq (key_cmp key k)) e ∙ at_is key key ∙ key_self key in
    let made : kept ≡ kept_with sale (kept_of q reports) = is
    ∙ ap (λ k. kept_with sale (get key_cmp old.places k)) (sym e) ∙ ap (kept_with sale) (stands q) in
    rw at (ap Some made ∙ sym (kept_here q (record { key = key; sale = sale }) reports t)))
    (λ (f : same_key q key ≡ false).
    let at : is_eq (key_cmp key q) ≡ false = at_is key q ∙ key_turn q key f in
    rw (at, f) (stands q))
    (cases_Bool (same_key q key))

-- nothing is kept of a place of which nothing was reported
none_sold : (sales : List Sale) → kept_from sales ≡ None → sales ≡ []
none_sold [] h = refl
none_sold (sale ∷ sales) h = cc

pub none_reported : (old : Book) (key : Key) → get key_cmp old.places key ≡ None → (reports : List Report)
    → StandsFor old reports → sales_of key reports ≡ []
none_reported old key none reports stands = none_sold (sales_of key reports) (sym (stands key) ∙ none)

-- a book with the same entries keeps the same
pub same_kept : (old new : Book) → new.places.entries ≡ old.places.entries → KeepsSame old new
same_kept old new e = λ key. ap (λ es. lookup (is_at (key_cmp key)) es) e

-- places in order stand once each
none_after : (key : Key) (ks : List Key) → AllByRecursion (λ k. key_cmp key k ≡ Less) ks → has_key ks key ≡ false
none_after key [] all = refl
none_after key (k ∷ ks) all =
    let f : same_key key k ≡ false = sym (at_is key k) ∙ ap is_eq all.0 in
    let rest = none_after key ks all.1 in
    rw (f, rest) refl

ordered_distinct : (ks : List Key) → IsStrictlySortedBy key_cmp ks → is_distinct ks ≡ true
ordered_distinct [] s = refl
ordered_distinct (k ∷ ks) s =
    let f = none_after k ks (sorted_head key_cmp k ks s) in
    let rest = ordered_distinct ks (sorted_tail key_cmp k ks s) in
    rw (f, rest) refl

-- a place is among the keys where something is found at it
has_found : (es : List (Key × Kept)) (key : Key)
    → has_key (keys_of es) key ≡ is_some (lookup (is_at (key_cmp key)) es)
has_found [] key = refl
has_found (e ∷ es) key =
    let at = at_is key e.0 in
    let rest = has_found es key in
    ⊎_elim
    (λ (t : same_key key e.0 ≡ true). let a : is_eq (key_cmp key e.0) ≡ true = at ∙ t in rw (t, a) refl)
    (λ (f : same_key key e.0 ≡ false). let a : is_eq (key_cmp key e.0) ≡ false = at ∙ f in rw (f, a) rest)
    (cases_Bool (same_key key e.0))

-- the sum over values
abbrev pub sum_kept : (Kept → ℕ) → List Kept → ℕ
sum_kept f [] = 0
sum_kept f (kept ∷ all) = f kept + sum_kept f all

abbrev pub money_of : Kept → ℕ
money_of kept = kept.sale.money

abbrev pub dispute_of : Kept → ℕ
dispute_of kept = if kept.disputed then 1 else 0

sum_members : (f g : Key → ℕ) (ks : List Key) → ((key : Key) → has_key ks key ≡ true → f key ≡ g key)
    → sum_over f ks ≡ sum_over g ks
sum_members f g [] same = refl
sum_members f g (key ∷ ks) same =
    let s = key_self key in
    let a = same key (rw s refl) in
    let b = sum_members f g ks (λ k h. same k
    (⊎_elim (λ (t : same_key k key ≡ true). rw t refl) (λ (n : same_key k key ≡ false). rw n h)
    (cases_Bool (same_key k key)))) in
    omega arith

sum_found : (g : Option Kept → ℕ) (es : List (Key × Kept)) → is_distinct (keys_of es) ≡ true
    → sum_over (λ k. g (lookup (is_at (key_cmp k)) es)) (keys_of es) ≡ sum_kept (λ kept. g (Some kept)) (values_of es)
sum_found g [] d = refl
sum_found g (e ∷ es) d =
    let parts = distinct_parts e.0 (keys_of es) d in
    let own : is_eq (key_cmp e.0 e.0) ≡ true = at_is e.0 e.0 ∙ key_self e.0 in
    let first : g (lookup (is_at (key_cmp e.0)) (e ∷ es)) ≡ g (Some e.1) = rw own refl in
    let with_first : Key → ℕ = λ k. g (lookup (is_at (key_cmp k)) (e ∷ es)) in
    let without_first : Key → ℕ = λ k. g (lookup (is_at (key_cmp k)) es) in
    let rest : sum_over with_first (keys_of es) ≡ sum_over without_first (keys_of es) =
    sum_members with_first without_first (keys_of es)
    (λ k h. ⊎_elim
    (λ (t : same_key k e.0 ≡ true).
    let q = key_is k e.0 t in
    absurd (let z : true ≡ false = sym h ∙ ap (λ x. has_key (keys_of es) x) q ∙ parts.0 in cc))
    (λ (f : same_key k e.0 ≡ false). let a : is_eq (key_cmp k e.0) ≡ false = at_is k e.0 ∙ f in rw a refl)
    (cases_Bool (same_key k e.0))) in
    let before = sum_found g es parts.1 in
    omega arith

pub totals_found : (book : Book) (reports : List Report) → IsOrdered key_cmp book.places → StandsFor book reports
    → (tokens money disputes : ℕ) → tokens ≡ btree_map_len book.places
    → money ≡ sum_kept money_of (values book.places) → disputes ≡ sum_kept dispute_of (values book.places)
    → totals_from tokens money disputes ≡ totals_of reports
totals_found book reports ordered stands tokens money disputes a b c =
    let ks : List Key = keys book.places in
    let d = ordered_distinct ks ordered in
    let here : (key : Key) → has_key (reported.keys_of reports) key ≡ has_key ks key = λ key. has_kept key reports
    ∙ ap is_some (sym (stands key)) ∙ sym (has_found book.places.entries key) in
    let over : totals_of reports ≡ totals_at ks reports =
    totals_over (reported.keys_of reports) ks reports (keys_distinct reports) d here in
    let sums : sum_over (money_at reports) ks ≡ sum_kept money_of (values book.places) =
    sum_pointwise (money_at reports) (λ k. kept_money (get key_cmp book.places k)) ks
    (λ k. money_by reports k ∙ ap kept_money (sym (stands k))) ∙ sum_found kept_money book.places.entries d in
    let disputed : sum_over (dispute_at reports) ks ≡ sum_kept dispute_of (values book.places) =
    sum_pointwise (dispute_at reports) (λ k. kept_dispute (get key_cmp book.places k)) ks
    (λ k. dispute_by reports k ∙ ap kept_dispute (sym (stands k))) ∙ sum_found kept_dispute book.places.entries d in
    by_parts _ _ _ _ _ _ (a ∙ sym (length-keys_of book.places.entries)) (b ∙ sym sums) (c ∙ sym disputed) ∙ sym over

-- one line of the book more is summed up
pub one_more : (f : Kept → ℕ) (n k all : ℕ) (kept : Kept) (rest after : List Kept) → rest ≡ kept ∷ after → k ≡ f kept
    → n + sum_kept f rest ≡ all → (n + k) + sum_kept f after ≡ all
one_more f n k all kept rest after e m is = let s = ap (sum_kept f) e in omega (arith, s, m, is)

-- at the end all are
pub all_summed : (f : Kept → ℕ) (n all : ℕ) (rest : List Kept) → rest ≡ [] → n + sum_kept f rest ≡ all → n ≡ all
all_summed f n all rest e is = let s = ap (sum_kept f) e in omega (arith, s, is)

pub flag_is : (b : Bool) → from_bool b ≡ (if b then 1 else 0)
flag_is true = refl
flag_is false = refl

-- each line adds less than 2 ^ 64, and a book has less than 2 ^ 63 lines
pub money_fits : (money taken : ℕ) (all : ℕ) (kept : Kept) (rest after : List Kept) → rest ≡ kept ∷ after
    → taken < 18446744073709551616
    → money + length rest * 18446744073709551615 ≤ all * 18446744073709551615
    → (money + taken) + length after * 18446744073709551615 ≤ all * 18446744073709551615
money_fits money taken all kept rest after e t is = let l = ap length e in omega (arith, l, t, is)

pub disputes_fit : (disputes more : ℕ) (all : ℕ) (kept : Kept) (rest after : List Kept) → rest ≡ kept ∷ after
    → more ≡ dispute_of kept
    → disputes + length rest ≤ all → (disputes + more) + length after ≤ all
disputes_fit disputes more all kept rest after e m is =
    let l = ap length e in
    let most : more ≤ 1 = subst (λ n. n ≤ 1) (sym m) (at_most kept.disputed) in
    omega (arith, l, most, is)
  where
    at_most : (b : Bool) → (if b then 1 else 0) ≤ 1
    at_most true = omega arith
    at_most false = omega arith

pub sum_fits : (money taken : ℕ) (all : ℕ) (rest : List Kept) → taken < 18446744073709551616 → all < 2 ^ 63
    → money + length rest * 18446744073709551615 ≤ all * 18446744073709551615
    → money + taken < 340282366920938463463374607431768211456
sum_fits money taken all rest t small is = let s : all < 9223372036854775808 = small in omega (arith, t, s, is)
