-- How the keys of ORDER BY compare, in the words of the ledger.
use Rattle.std.proofs.Common.{◌≡◌, ℕ, pos, List, false, ◌&&◌, ◌||◌, ◌==◌, nat_lt, refl, sym, ap, ◌∙◌, arith, Ordering, Less, Equal, Greater, is_lt, is_gt, is_eq, nat_cmp, int_cmp}
use Rattle.std.specs.Ordering.{ordering_then, ordering_reverse}
use Rattle.std.specs.Cmp.Lexicographic.{slice_cmp}
use Rattle.std.proofs.lemmas.Cmp.{nat_list_cmp_total}
use Rattle.std.proofs.lemmas.Bool.Decides.{nat_tests}
use Rattle.std.proofs.lemmas.Map.Text.{is_eq-slice_cmp}
use Rattle.sqlite_value.specs.Order.{value_cmp}
use Rattle.sqlite_value.proofs.OrderLemmas.{value_cmp-Int, value_cmp-Text, then-Equal}
use Rattle.sqlite.specs.declared.types.Value.TheVariants.{Text}
use Rattle.ledger_spec.specs.Names.{same_name}
use Rattle.ledger_spec.specs.Sorted.{name_before}
use Rattle.shop_tables.specs.Stored.{count}

turned : (o : Ordering) → is_gt (ordering_reverse o) ≡ is_lt o
turned Less = refl
turned Equal = refl
turned Greater = refl

level : (o : Ordering) → is_eq (ordering_reverse o) ≡ is_eq o
level Less = refl
level Equal = refl
level Greater = refl

apart_last : (o p : Ordering) → is_eq p ≡ false → is_eq (ordering_then o p) ≡ false
apart_last Less p apart = refl
apart_last Equal p apart = apart
apart_last Greater p apart = refl

same_turned : (a b : List ℕ) → same_name a b ≡ same_name b a
unfolding same_name
same_turned a b = sym (is_eq-slice_cmp a b) ∙ ap is_eq (nat_list_cmp_total.antisymm a b) ∙ level (slice_cmp nat_cmp b a) ∙ is_eq-slice_cmp b a

-- two texts stand as the names
pub text_above : (a b : List ℕ) → is_gt (value_cmp (Text a) (Text b)) ≡ name_before b a
unfolding name_before
text_above a b = ap is_gt (value_cmp-Text a b ∙ nat_list_cmp_total.antisymm a b) ∙ turned (slice_cmp nat_cmp b a)

pub text_apart : (a b : List ℕ) → same_name b a ≡ false → is_eq (value_cmp (Text a) (Text b)) ≡ false
unfolding same_name
text_apart a b differ = ap is_eq (value_cmp-Text a b) ∙ is_eq-slice_cmp a b ∙ same_turned a b ∙ differ

count_as : (a b : ℕ) → int_cmp (pos a) (pos b) ≡ nat_cmp a b
count_as a b = grind (arith, nat_tests)

count_cmp : (a b : ℕ) → value_cmp (count a) (count b) ≡ nat_cmp a b
count_cmp a b = value_cmp-Int (pos a) (pos b) ∙ count_as a b

number_above : (a b : ℕ) → is_gt (nat_cmp a b) ≡ nat_lt b a
number_above a b = grind (arith, nat_tests)

number_apart : (a b : ℕ) → (b == a) ≡ false → is_eq (nat_cmp a b) ≡ false
number_apart a b differ = grind (arith, nat_tests)

-- two counts stand as the numbers
pub count_above : (a b : ℕ) → is_gt (value_cmp (count a) (count b)) ≡ nat_lt b a
count_above a b = ap is_gt (count_cmp a b) ∙ number_above a b

pub count_apart : (a b : ℕ) → (b == a) ≡ false → is_eq (value_cmp (count a) (count b)) ≡ false
count_apart a b differ = ap is_eq (count_cmp a b) ∙ number_apart a b differ

number_first : (a b : ℕ) (o : Ordering) → is_gt (ordering_then (nat_cmp a b) o) ≡ (nat_lt b a || ((b == a) && is_gt o))
number_first a b o = grind (arith, nat_tests)

-- one key alone
pub above_one : (o : Ordering) → is_gt (ordering_then o Equal) ≡ is_gt o
above_one o = ap is_gt (then-Equal o)

pub apart_one : (o : Ordering) → is_eq o ≡ false → is_eq (ordering_then o Equal) ≡ false
apart_one o apart = ap is_eq (then-Equal o) ∙ apart

-- a count and then a text
pub above_two : (a b : ℕ) (s t : List ℕ) → is_gt (ordering_then (value_cmp (count a) (count b)) (ordering_then (value_cmp (Text s) (Text t)) Equal)) ≡ (nat_lt b a || ((b == a) && name_before t s))
above_two a b s t =
    ap (λ o. is_gt (ordering_then o (ordering_then (value_cmp (Text s) (Text t)) Equal))) (count_cmp a b)
    ∙ number_first a b _ ∙ ap (λ g. nat_lt b a || ((b == a) && g)) (above_one _ ∙ text_above s t)

pub apart_two : (o : Ordering) (s t : List ℕ) → same_name t s ≡ false → is_eq (ordering_then o (ordering_then (value_cmp (Text s) (Text t)) Equal)) ≡ false
apart_two o s t differ = apart_last o _ (apart_one _ (text_apart s t differ))
