-- The two banks that a ring starts with, and those that it turns to.
use Rattle.std.proofs.Common.{◌≡◌, ◌≢◌, ℕ, ◌+◌, ◌<◌, ◌≤◌, ◌==◌, Bool, true, false, not, ◌&&◌, Option, Some, None, unwrap_or, is_some, refl, sym, ap, ◌∙◌, arith, ⊎_elim}
use Rattle.std.proofs.lemmas.Bool.{cases_eq}
use Rattle.std.proofs.lemmas.Bool.Decides.{nat_tests}
use Rattle.paygo_spec.specs.Least.{least}
use Rattle.paygo_spec.specs.Recovery.{is_header}
use Rattle.paygo_spec.proofs.Leasts.{least_says_some, least_same}
use Rattle.bank_ring.specs.View.{IsPair, next_bank, previous_bank, is_bad, is_twin, has_twin, is_passed, is_newest, by_newest, by_twins, by_bad, start_pair, pair_of}

pub next_range : (banks bank : ℕ) → 2 ≤ banks → bank < banks → (next_bank banks bank < banks) × (next_bank banks bank ≢ bank)
next_range banks bank two below =
    ⊎_elim
    (λ (e : bank + 1 ≡ banks). let t : (bank + 1 == banks) ≡ true = grind (arith, nat_tests) in rw t (omega arith, λ q. omega arith))
    (λ (e : bank + 1 ≡ banks → ⊥). let t : (bank + 1 == banks) ≡ false = grind (arith, nat_tests) in rw t (omega arith, λ q. omega arith))
    (cases_eq (bank + 1) banks)

pub previous_range : (banks bank : ℕ) → 2 ≤ banks → bank < banks → (previous_bank banks bank < banks) × (previous_bank banks bank ≢ bank)
previous_range banks bank two below =
    ⊎_elim
    (λ (e : bank ≡ 0). let t : (bank == 0) ≡ true = grind (arith, nat_tests) in rw t (omega arith, λ q. omega arith))
    (λ (e : bank ≡ 0 → ⊥). let t : (bank == 0) ≡ false = grind (arith, nat_tests) in rw t (omega arith, λ q. omega arith))
    (cases_eq bank 0)

newest_pair : (h : ℕ → ℕ) (banks : ℕ) (found : Option ℕ) → 2 ≤ banks → least (is_newest h banks) banks ≡ found → IsPair banks (by_newest banks found)
newest_pair h banks None two is = record { first = omega arith; second = omega arith; differ = λ q. omega arith }
newest_pair h banks (Some bank) two is =
    let l = least_says_some (is_newest h banks) banks bank is in
    let r = previous_range banks bank two l.below in
    record { first = l.below; second = r.0; differ = λ q. r.1 (let s : previous_bank banks bank ≡ bank = cc in s) }

not_equal : (a b : ℕ) (rest : Bool) → (not (a == b) && rest) ≡ true → a ≢ b
not_equal a b rest t e = let s : (a == b) ≡ true = grind (arith, nat_tests) in let f : (not (a == b) && rest) ≡ false = rw s refl in cc

twin_second : (h : ℕ → ℕ) (banks bank : ℕ) (twin : Option ℕ) → 2 ≤ banks → bank < banks → least (is_twin h bank) banks ≡ twin → IsPair banks (pair_of bank (unwrap_or twin (next_bank banks bank)))
twin_second h banks bank None two below is =
    let r = next_range banks bank two below in
    record { first = below; second = r.0; differ = λ q. r.1 (let s : next_bank banks bank ≡ bank = cc in s) }
twin_second h banks bank (Some twin) two below is =
    let l = least_says_some (is_twin h bank) banks twin is in
    record { first = below; second = l.below; differ = not_equal bank twin _ l.passes }

twins_pair : (h : ℕ → ℕ) (banks : ℕ) (found : Option ℕ) → 2 ≤ banks → least (has_twin h banks) banks ≡ found → IsPair banks (by_twins h banks found)
twins_pair h banks None two is = newest_pair h banks (least (is_newest h banks) banks) two refl
twins_pair h banks (Some bank) two is =
    twin_second h banks bank (least (is_twin h bank) banks) two (least_says_some (has_twin h banks) banks bank is).below refl

bad_pair : (h : ℕ → ℕ) (banks : ℕ) (found : Option ℕ) → 2 ≤ banks → least (is_bad h) banks ≡ found → IsPair banks (by_bad h banks found)
bad_pair h banks None two is = twins_pair h banks (least (has_twin h banks) banks) two refl
bad_pair h banks (Some bank) two is =
    let below = (least_says_some (is_bad h) banks bank is).below in
    let r = next_range banks bank two below in
    record { first = below; second = r.0; differ = λ q. r.1 (let s : next_bank banks bank ≡ bank = cc in s) }

-- whatever the headers are, two banks are shown, and not one twice
pub start_range : (h : ℕ → ℕ) (banks : ℕ) → 2 ≤ banks → IsPair banks (start_pair h banks)
unfolding start_pair
start_range h banks two = bad_pair h banks (least (is_bad h) banks) two refl

-- the pair by what was found
pub start_bad : (h : ℕ → ℕ) (banks bank : ℕ) → Some bank ≡ least (is_bad h) banks → start_pair h banks ≡ pair_of bank (next_bank banks bank)
unfolding start_pair
start_bad h banks bank e = ap (λ o. by_bad h banks o) (sym e)

pub start_twins : (h : ℕ → ℕ) (banks bank : ℕ) (twin : Option ℕ) → None ≡ least (is_bad h) banks → Some bank ≡ least (has_twin h banks) banks → twin ≡ least (is_twin h bank) banks → start_pair h banks ≡ pair_of bank (unwrap_or twin (next_bank banks bank))
unfolding start_pair
start_twins h banks bank twin e f t = ap (λ o. by_bad h banks o) (sym e) ∙ ap (λ o. by_twins h banks o) (sym f) ∙ ap (λ o. pair_of bank (unwrap_or o (next_bank banks bank))) (sym t)

pub start_newest : (h : ℕ → ℕ) (banks : ℕ) (found : Option ℕ) → None ≡ least (is_bad h) banks → None ≡ least (has_twin h banks) banks → found ≡ least (is_newest h banks) banks → start_pair h banks ≡ by_newest banks found
unfolding start_pair
start_newest h banks found e f t = ap (λ o. by_bad h banks o) (sym e) ∙ ap (λ o. by_twins h banks o) (sym f) ∙ ap (λ o. by_newest banks o) (sym t)

-- the tests look at the headers below the number of banks alone
module _ (h k : ℕ → ℕ) (banks : ℕ) (same : (b : ℕ) → b < banks → h b ≡ k b) where
  bad_same : (b : ℕ) → b < banks → is_bad h b ≡ is_bad k b
  bad_same b l = ap (λ w. not (is_header w)) (same b l)

  twin_same : (b : ℕ) → b < banks → (o : ℕ) → o < banks → is_twin h b o ≡ is_twin k b o
  twin_same b l o m = let x = same b l in let y = same o m in rw (x, y) refl

  has_same : (b : ℕ) → b < banks → has_twin h banks b ≡ has_twin k banks b
  has_same b l = ap is_some (least_same (is_twin h b) (is_twin k b) banks (λ o m. twin_same b l o m))

  passed_same : (b : ℕ) → b < banks → (o : ℕ) → o < banks → is_passed h b o ≡ is_passed k b o
  passed_same b l o m = let x = same b l in let y = same o m in rw (x, y) refl

  newest_same : (b : ℕ) → b < banks → is_newest h banks b ≡ is_newest k banks b
  newest_same b l =
      let x = same b l in
      let y = least_same (is_passed h b) (is_passed k b) banks (λ o m. passed_same b l o m) in
      rw (x, y) refl

  twins_same : (found : Option ℕ) → least (has_twin h banks) banks ≡ found → by_twins h banks found ≡ by_twins k banks found
  twins_same None e = ap (λ o. by_newest banks o) (least_same (is_newest h banks) (is_newest k banks) banks (λ b l. newest_same b l))
  twins_same (Some bank) e =
      let l = (least_says_some (has_twin h banks) banks bank e).below in
      ap (λ o. pair_of bank (unwrap_or o (next_bank banks bank))) (least_same (is_twin h bank) (is_twin k bank) banks (λ o m. twin_same bank l o m))

  by_same : (found : Option ℕ) → by_bad h banks found ≡ by_bad k banks found
  by_same None = twins_same (least (has_twin h banks) banks) refl ∙ ap (λ o. by_twins k banks o) (least_same (has_twin h banks) (has_twin k banks) banks (λ b l. has_same b l))
  by_same (Some bank) = refl

  pub start_same : start_pair h banks ≡ start_pair k banks
  unfolding start_pair
  start_same = by_same (least (is_bad h) banks) ∙ ap (λ o. by_bad k banks o) (least_same (is_bad h) (is_bad k) banks (λ b l. bad_same b l))
