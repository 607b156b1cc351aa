-- The refusal of a line is that of the least rule that it breaks.
use Rattle.std.proofs.Common.{◌≡◌, ◌≢◌, ℕ, ◌<◌, Bool, true, false, List, [], ◌∷◌, ◌⊎◌, inl, inr, refl, ap, sym, ◌∙◌, subst, arith, eqb-true}
use Rattle.std.specs.Prelude.{◌==◌, ◌&&◌, ◌||◌, not, nat_lt, Option, Some, None, is_some, Result, Ok, Err, cond, ◌↔◌}
use Rattle.std.specs.List.{find, list_all}
use Rattle.serde_json.specs.Data.{Data}
use Rattle.ledger_spec.specs.declared.Command.{Command}
use Rattle.ledger_spec.specs.declared.TextFault.{TextFault}
use Rattle.ledger_spec.specs.declared.TextFault.TheVariants.{Json, Shape, Memory}
use Rattle.ledger_spec.specs.declared.Verb.{Verb}
use Rattle.ledger_spec.specs.declared.Verb.TheVariants as verb_is
use Rattle.ledger_spec.specs.Reading.{reading, need, command_of, command_at, command_in, verb_in, serial_in, id_in, secret_in, start_in, divider_in, form_in, price_in, total_in, amount_in, units_in, from_in, to_in}
use Rattle.ledger_text.specs.Rules.{keeps, needed_by, rules_with, rules_for, is_among, IsLeastBroken}

-- ---- the first number of a rising list that fails a test

-- each number of the list is above those before it
abbrev is_rising : List ℕ → Bool
is_rising [] = true
is_rising (n ∷ ns) = list_all (λ m. nat_lt n m) ns && is_rising ns

both : (a b : Bool) → (a && b) ≡ true → (a ≡ true) × (b ≡ true)
both true b h = (refl, h)
both false b h = cc

either : (a b : Bool) → (a || b) ≡ true → (a ≡ true) ⊎ (b ≡ true)
either true b h = inl refl
either false b h = inr h

below : (n m : ℕ) → nat_lt n m ≡ true → n < m
below n m h = grind arith

-- a number in the rest of a rising list is above the first
above_first : (n m : ℕ) (ns : List ℕ) → list_all (λ k. nat_lt n k) ns ≡ true → is_among m ns ≡ true → n < m
above_first n m [] h k = cc
above_first n m (x ∷ xs) h k =
    let parts = both (nat_lt n x) (list_all (λ k. nat_lt n k) xs) h in
    elim (either (x == m) (is_among m xs) k) [
      | inl same ↦ let is : x ≡ m = eqb-true x m same in let low : n < x = below n x parts.0 in omega arith
      | inr later ↦ above_first n m xs parts.1 later
    ]

-- a number of the list that fails the test, while each smaller number of the list passes it
record IsFirst (test : ℕ → Bool) (ns : List ℕ) (n : ℕ) : Type 0 where
  pub among : is_among n ns ≡ true
  pub fails : test n ≡ false
  pub passed : (m : ℕ) → m < n → is_among m ns ≡ true → test m ≡ true

same_self : (n : ℕ) → (n == n) ≡ true
same_self n = grind arith

or_true : (a : Bool) → (a || true) ≡ true
or_true true = refl
or_true false = refl

-- the first that fails, as it is found
abbrev first_failing : (ℕ → Bool) → List ℕ → Option ℕ
first_failing test ns = find (λ n. not (test n)) ns

module _ (test : ℕ → Bool) where
  head_is_first : (n : ℕ) (ns : List ℕ) → is_rising (n ∷ ns) ≡ true → test n ≡ false → IsFirst test (n ∷ ns) n
  head_is_first n ns rising fails =
      let parts = both (list_all (λ m. nat_lt n m) ns) (is_rising ns) rising in
      record {
        among = ap (λ b. b || is_among n ns) (same_self n);
        fails = fails;
        passed = λ m low in_list. elim (either (n == m) (is_among m ns) in_list) [
          | inl same ↦ let is : n ≡ m = eqb-true n m same in absurd (omega arith)
          | inr later ↦ let high : n < m = above_first n m ns parts.0 later in absurd (omega arith)
        ];
      }

  later_is_first : (n k : ℕ) (ns : List ℕ) → test n ≡ true → IsFirst test ns k → IsFirst test (n ∷ ns) k
  later_is_first n k ns passes first = record {
    among = ap (λ b. (n == k) || b) first.among ∙ or_true (n == k);
    fails = first.fails;
    passed = λ m low in_list. elim (either (n == m) (is_among m ns) in_list) [
      | inl same ↦ let is : n ≡ m = eqb-true n m same in ap test (sym is) ∙ passes
      | inr later ↦ first.passed m low later
    ];
  }

  -- what is found is the first
  found_is_first : (ns : List ℕ) (k : ℕ) → is_rising ns ≡ true → first_failing test ns ≡ Some k → IsFirst test ns k
  found_is_first [] k rising found = cc
  found_is_first (n ∷ ns) k rising found =
      let parts = both (list_all (λ m. nat_lt n m) ns) (is_rising ns) rising in
      (elim (test n) as (λ b. test n ≡ b → cond (not b) (Some n) (first_failing test ns) ≡ Some k → IsFirst test (n ∷ ns) k) [
        | true ↦ λ passes same. later_is_first n k ns passes (found_is_first ns k parts.1 same)
        | false ↦ λ fails same. let is : n ≡ k = cc in subst (λ (j : ℕ). IsFirst test (n ∷ ns) j) is (head_is_first n ns rising fails)
      ]) refl found

  -- the first is found
  first_is_found : (ns : List ℕ) (k : ℕ) → is_rising ns ≡ true → IsFirst test ns k → first_failing test ns ≡ Some k
  first_is_found [] k rising first = let none = first.among in cc
  first_is_found (n ∷ ns) k rising first =
      let parts = both (list_all (λ m. nat_lt n m) ns) (is_rising ns) rising in
      let self : is_among n (n ∷ ns) ≡ true = ap (λ b. b || is_among n ns) (same_self n) in
      (elim (test n) as (λ b. test n ≡ b → cond (not b) (Some n) (first_failing test ns) ≡ Some k) [
        | true ↦ λ passes. elim (either (n == k) (is_among k ns) first.among) [
          | inl same ↦ let is : n ≡ k = eqb-true n k same in let fails = first.fails in let bad : test k ≡ true = ap test (sym is) ∙ passes in cc
          | inr later ↦ first_is_found ns k parts.1 record {
            among = later;
            fails = first.fails;
            passed = λ m low in_list. first.passed m low (ap (λ b. (n == m) || b) in_list ∙ or_true (n == m));
          }
        ]
        | false ↦ λ fails. elim (either (n == k) (is_among k ns) first.among) [
          | inl same ↦ ap (λ j. Some j) (eqb-true n k same)
          | inr later ↦
              let high : n < k = above_first n k ns parts.0 later in
              let good = first.passed n high self in cc
        ]
      ]) refl

-- ---- the refusal of a value

-- of what tells a command or the rule that is broken: the rule, if there is one
abbrev told : Result Command TextFault → Option (Option ℕ)
told (Ok command) = Some None
told (Err (Shape rule)) = Some (Some rule)
told (Err Json) = None
told (Err Memory) = None

step : {A : Type 0} (rule : ℕ) (member : Option A) (next : A → Result Command TextFault) (rest : Option ℕ)
    → ((a : A) → told (next a) ≡ Some rest) → told (need rule member next) ≡ Some (cond (not (is_some member)) (Some rule) rest)
step rule None next rest h = refl
step rule (Some a) next rest h = h a

by_verb : (value : Data) (verb : Verb) → told (command_of value verb) ≡ Some (first_failing (keeps value) (needed_by verb))
by_verb value verb_is.Enroll =
    step 2 (serial_in value) _ _ (λ _. step 4 (secret_in value) _ _ (λ _. step 5 (start_in value) _ _ (λ _.
    step 6 (divider_in value) _ _ (λ _. step 7 (form_in value) _ _ (λ _. step 8 (price_in value) _ _ (λ _.
    step 9 (total_in value) _ _ (λ _. refl)))))))
by_verb value verb_is.Pay = step 2 (serial_in value) _ _ (λ _. step 3 (id_in value) _ _ (λ _. step 10 (amount_in value) _ _ (λ _. refl)))
by_verb value verb_is.Set = step 2 (serial_in value) _ _ (λ _. step 3 (id_in value) _ _ (λ _. step 11 (units_in value) _ _ (λ _. refl)))
by_verb value verb_is.Disable = step 2 (serial_in value) _ _ (λ _. step 3 (id_in value) _ _ (λ _. refl))
by_verb value verb_is.Sync = step 2 (serial_in value) _ _ (λ _. step 3 (id_in value) _ _ (λ _. refl))
by_verb value verb_is.Order = step 3 (id_in value) _ _ (λ _. refl)
by_verb value verb_is.Show = step 2 (serial_in value) _ _ (λ _. refl)
by_verb value verb_is.Raise = step 2 (serial_in value) _ _ (λ _. refl)
by_verb value verb_is.Price = step 2 (serial_in value) _ _ (λ _. step 8 (price_in value) _ _ (λ _. step 12 (from_in value) _ _ (λ _. refl)))
by_verb value verb_is.Quote = step 2 (serial_in value) _ _ (λ _. step 10 (amount_in value) _ _ (λ _. refl))
by_verb value verb_is.Skip = step 2 (serial_in value) _ _ (λ _. step 13 (to_in value) _ _ (λ _. refl))

by_value : (value : Data) (verb : Option Verb) → verb_in value ≡ verb
    → told (need 1 verb (command_of value)) ≡ Some (first_failing (keeps value) (rules_with verb))
by_value value None is = ap (λ (o : Option Verb). Some (cond (not (is_some o)) (Some 1) None)) (sym is)
by_value value (Some verb) is =
    by_verb value verb
    ∙ ap (λ (o : Option Verb). Some (cond (not (is_some o)) (Some 1) (first_failing (keeps value) (needed_by verb)))) (sym is)

-- what a value tells is the first rule that it breaks
told_of : (value : Data) → told (command_at (Some value)) ≡ Some (first_failing (keeps value) (rules_for value))
told_of value = by_value value (verb_in value) refl

rising_with : (verb : Option Verb) → is_rising (rules_with verb) ≡ true
rising_with None = refl
rising_with (Some verb_is.Enroll) = refl
rising_with (Some verb_is.Pay) = refl
rising_with (Some verb_is.Set) = refl
rising_with (Some verb_is.Disable) = refl
rising_with (Some verb_is.Sync) = refl
rising_with (Some verb_is.Order) = refl
rising_with (Some verb_is.Show) = refl
rising_with (Some verb_is.Raise) = refl
rising_with (Some verb_is.Price) = refl
rising_with (Some verb_is.Quote) = refl
rising_with (Some verb_is.Skip) = refl

shape_told : (r : Result Command TextFault) (rule : ℕ) → told r ≡ Some (Some rule) → r ≡ Err (Shape rule)
shape_told (Ok command) rule h = cc
shape_told (Err (Shape other)) rule h = ap (λ k. Err (Shape k)) (let same : other ≡ rule = cc in same)
shape_told (Err Json) rule h = cc
shape_told (Err Memory) rule h = cc

shape_forth : (r : Option Data) (rule : ℕ) → command_at r ≡ Err (Shape rule)
    → (value : Data) × (r ≡ Some value) × IsLeastBroken value rule
shape_forth None rule h = absurd (cc)
shape_forth (Some value) rule h =
    let found : first_failing (keeps value) (rules_for value) ≡ Some rule = let t = told_of value in let u = ap told h in cc in
    let first = found_is_first (keeps value) (rules_for value) rule (rising_with (verb_in value)) found in
    (value, refl, record { needed = first.among; broken = first.fails; least = first.passed })

shape_back : (r : Option Data) (rule : ℕ) → (value : Data) × (r ≡ Some value) × IsLeastBroken value rule
    → command_at r ≡ Err (Shape rule)
shape_back r rule h =
    let least = h.2 in
    let found = first_is_found (keeps h.0) (rules_for h.0) rule (rising_with (verb_in h.0)) record {
      among = least.needed;
      fails = least.broken;
      passed = least.least;
    } in
    ap command_at h.1 ∙ shape_told (command_at (Some h.0)) rule (told_of h.0 ∙ ap (λ (o : Option ℕ). Some o) found)

-- a line is refused as Shape by the least rule that its value breaks
pub shape_is_least : (line : List ℕ) (rule : ℕ)
    → (command_in line ≡ Err (Shape rule)) ↔ ((value : Data) × (reading line ≡ Some value) × IsLeastBroken value rule)
unfolding command_in
shape_is_least line rule = (shape_forth (reading line) rule, shape_back (reading line) rule)

json_forth : (r : Option Data) → command_at r ≡ Err Json → r ≡ None
json_forth None h = refl
json_forth (Some value) h = let t = told_of value in let u = ap told h in cc

-- a line is refused as Json where it has no value
pub json_is_unread : (line : List ℕ) → (command_in line ≡ Err Json) ↔ (reading line ≡ None)
unfolding command_in
json_is_unread line = (json_forth (reading line), λ h. ap command_at h)

not_memory : (r : Option Data) → command_at r ≢ Err Memory
not_memory None h = cc
not_memory (Some value) h = let t = told_of value in let u = ap told h in cc

-- what a line asks for doesn't depend on memory
pub command_needs_no_memory : (line : List ℕ) → command_in line ≢ Err Memory
unfolding command_in
command_needs_no_memory line = not_memory (reading line)
