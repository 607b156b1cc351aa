-- Of rows without twins no two have one key and one starting code.
use Rattle.std.proofs.Common.{◌≡◌, List, [], ◌∷◌, ◌++◌, true, false, ◌==◌, Some, cond, refl, sym}
use Rattle.std.specs.Prelude.{find}
use Rattle.std.specs.Str.{bytes_eq}
use Rattle.std.specs.List.{AllByRecursion}
use Rattle.std.proofs.lemmas.Bool.{and_parts, and_from, eqb-true, eq-eqb}
use Rattle.std.proofs.lemmas.Slice.Eq.{bytes_eq-Decides}
use Rattle.ledger_spec.specs.declared.Row.{Row}
use Rattle.ledger_spec.specs.Sorted.{all_rows, row_before}
use Rattle.ledger_spec.specs.Tables.{Tables, has_serial, row_of}
use Rattle.table_flaws.specs.Found.{share_chain, twins_with, twin_at, twins_from, twins}
use Rattle.table_flaws.proofs.Flawless.{both_none, all_unsorted, all_then, of_found}

share_is : (a b : Row) → a.key ≡ b.key → a.start ≡ b.start → share_chain a b ≡ true
share_is a b key start =
    and_from (bytes_eq a.key b.key) (a.start == b.start) ((bytes_eq-Decides a.key b.key).1 key) (eq-eqb a.start b.start start)

share_back : (a b : Row) → share_chain a b ≡ true → share_chain b a ≡ true
share_back a b is =
    let parts = and_parts (bytes_eq a.key b.key) (a.start == b.start) is in
    share_is b a (sym ((bytes_eq-Decides a.key b.key).0 parts.0)) (sym (eqb-true a.start b.start parts.1))

all_append : {X : Type 0} (P : X → Type 0) (xs ys : List X) → AllByRecursion P (xs ++ ys) → AllByRecursion P xs × AllByRecursion P ys
all_append P [] ys all = (tt, all)
all_append P (x ∷ xs) ys all = let rest = all_append P xs ys all.1 in ((all.0, rest.0), rest.1)

all_both : {X : Type 0} (P Q : X → Type 0) (xs : List X) → AllByRecursion P xs → AllByRecursion Q xs → AllByRecursion (λ x. P x × Q x) xs
all_both P Q [] one two = tt
all_both P Q (x ∷ xs) one two = ((one.0, two.0), all_both P Q xs one.1 two.1)

-- no row of these shares a chain with this one
abbrev Apart : List Row → Row → Type 0
Apart earlier row = AllByRecursion (λ e. share_chain row e ≡ false) earlier

none_found : (row : Row) (earlier : List Row) → twin_at earlier row ≡ [] → Apart earlier row
none_found row [] none = tt
none_found row (e ∷ es) none = (elim (share_chain row e) as (λ b. share_chain row e ≡ b → twins_with (cond b (Some e) (find (share_chain row) es)) row ≡ [] → (share_chain row e ≡ false) × Apart es row) [
  | true ↦ λ is none. cc
  | false ↦ λ is none. (is, none_found row es none)
]) refl none

apart_from : (earlier rows : List Row) → twins_from earlier rows ≡ [] → AllByRecursion (Apart earlier) rows
apart_from earlier [] none = tt
apart_from earlier (row ∷ rows) none =
    let both = both_none (twin_at earlier row) (twins_from (earlier ++ row ∷ []) rows) none in (
      none_found row earlier both.0,
      all_then (Apart (earlier ++ row ∷ [])) (Apart earlier) (λ r all. (all_append (λ e. share_chain r e ≡ false) earlier (row ∷ []) all).0) rows
          (apart_from (earlier ++ row ∷ []) rows both.1),
    )

-- whichever of these rows shares a chain with this one is this one
abbrev Alone : List Row → Row → Type 0
Alone rows a = AllByRecursion (λ b. share_chain a b ≡ true → a ≡ b) rows

alone_with : (row b : Row) → share_chain b row ≡ false → share_chain row b ≡ true → row ≡ b
alone_with row b not is = let back : share_chain b row ≡ true = share_back row b is in cc

alone_behind : (row a : Row) → share_chain a row ≡ false → share_chain a row ≡ true → a ≡ row
alone_behind row a not is = cc

alone : (earlier rows : List Row) → twins_from earlier rows ≡ [] → AllByRecursion (Alone rows) rows
alone earlier [] none = tt
alone earlier (row ∷ rows) none =
    let both = both_none (twin_at earlier row) (twins_from (earlier ++ row ∷ []) rows) none in
    let apart : AllByRecursion (λ r. share_chain r row ≡ false) rows =
    all_then (Apart (earlier ++ row ∷ [])) (λ r. share_chain r row ≡ false) (λ r all. (all_append (λ e. share_chain r e ≡ false) earlier (row ∷ []) all).1.0) rows
    (apart_from (earlier ++ row ∷ []) rows both.1) in
    let rest : AllByRecursion (Alone rows) rows = alone (earlier ++ row ∷ []) rows both.1 in (
      (λ is. refl, all_then (λ r. share_chain r row ≡ false) (λ b. share_chain row b ≡ true → row ≡ b) (λ b not. alone_with row b not) rows apart),
      all_then (λ a. (share_chain a row ≡ false) × Alone rows a) (Alone (row ∷ rows)) (λ a both. (alone_behind row a both.0, both.1)) rows
          (all_both (λ r. share_chain r row ≡ false) (Alone rows) rows apart rest),
    )

pub no_twins : (t : Tables) → twins (all_rows t) ≡ [] → (one other : Row) → row_of t one.serial ≡ Some one → row_of t other.serial ≡ Some other
    → one.key ≡ other.key → one.start ≡ other.start → one ≡ other
no_twins t none one other is too key start =
    let all : AllByRecursion (Alone (all_rows t)) t.rows = all_unsorted row_before (Alone (all_rows t)) t.rows (alone [] (all_rows t) none) in
    let mine : Alone (all_rows t) one = of_found (Alone (all_rows t)) (has_serial one.serial) t.rows one all is in
    of_found (λ b. share_chain one b ≡ true → one ≡ b) (has_serial other.serial) t.rows other
    (all_unsorted row_before (λ b. share_chain one b ≡ true → one ≡ b) t.rows mine) too (share_is one other key start)
