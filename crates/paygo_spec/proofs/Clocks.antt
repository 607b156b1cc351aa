-- The clock of a lawful history keeps the rule on clocks.
use Rattle.std.proofs.Common.{◌≡◌, ℕ, true, false, ◌*◌, ◌≤◌, if◌then◌else◌, List, [], ◌∷◌, Option, Some, arith, refl, nat_le, ◌==◌, ◌&&◌, ◌↔◌, ⊎_elim}
use Rattle.std.proofs.lemmas.Bool.{cond_both, leb-true, and_parts, and_from, cases_eq, cases_Bool}
use Rattle.std.proofs.lemmas.Bool.Decides.{nat_tests}
use Rattle.std.proofs.Math.Nat.{mul-le-mul}
use Rattle.paygo_spec.specs.declared.Entry.{Entry}
use Rattle.paygo_spec.specs.declared.Entry.TheVariants.{Accept, Bad, Elapsed, Raised}
use Rattle.paygo_spec.specs.declared.TokenKind.{TokenKind}
use Rattle.paygo_spec.specs.declared.TokenKind.TheVariants.{Add, Set, Free}
use Rattle.paygo_spec.specs.History.{Summary, is_odd}
use Rattle.paygo_spec.specs.Clock.{ClockView, most_left, taken_by, clock_after, clock_of, longest_block, IsClock, is_clock}
use Rattle.paygo_spec.specs.Lawful.{Lawful}

-- an accepted token keeps the rule where there was no block, of whatever kind it is
module _ (unit v : ℕ) (t : ClockView) (u : unit ≤ 86400) (k : IsClock t) (b : t.block ≡ 0) where
  abbrev stays : IsClock (record t { fails = 0 })
  stays = record { within = k.within; few = omega arith; freed = k.freed; unblocked = λ z. b; bounded = omega arith }

  abbrev Keeps : Option TokenKind → Type 0
  Keeps kind = IsClock (taken_by unit kind v t)

  set_keeps : nat_le v 995 ≡ true → Keeps (Some Set)
  set_keeps a =
      let m : v * unit ≤ 995 * 86400 = mul-le-mul (leb-true v 995 a) u in
      record { within = omega arith; few = omega arith; freed = λ z. cc; unblocked = λ z. b; bounded = omega arith }

  add_keeps : Keeps (Some Add)
  add_keeps = cond_both t.free _ _ IsClock (λ f. stays) (λ f. record { within = omega arith; few = omega arith; freed = λ z. cc; unblocked = λ z. b; bounded = omega arith })

  free_keeps : Keeps (Some Free)
  free_keeps = record { within = omega arith; few = omega arith; freed = λ z. refl; unblocked = λ z. b; bounded = omega arith }

  pub credit_keeps : (n : ℕ) → IsClock (clock_after unit (Accept n v) t)
  credit_keeps n =
      cond_both (nat_le v 995) _ _ Keeps
      (λ a. cond_both (is_odd n) _ _ Keeps (λ o. set_keeps a) (λ o. add_keeps))
      (λ a. cond_both (is_odd n && v == 998) _ _ Keeps (λ d. free_keeps)
      (λ d. cond_both (is_odd n && v == 999) _ _ Keeps (λ e. stays) (λ e. stays)))

pub clock_keeps : (unit : ℕ) (start : Summary) (entries : List Entry) → unit ≤ 86400 → Lawful unit start entries → IsClock (clock_of unit start entries)
clock_keeps unit start [] u h = h.clock
clock_keeps unit start (Accept n v ∷ entries) u h = credit_keeps unit v (clock_of unit start entries) u (clock_keeps unit start entries u h.0) h.1.0 n
clock_keeps unit start (Bad ∷ entries) u h =
    let k : IsClock (clock_of unit start entries) = clock_keeps unit start entries u h.0 in
    record { within = k.within; few = omega arith; freed = k.freed; unblocked = λ z. absurd (omega arith); bounded = omega arith }
clock_keeps unit start (Elapsed t ∷ entries) u h =
    let k : IsClock (clock_of unit start entries) = clock_keeps unit start entries u h.0 in
    record { within = omega arith; few = k.few; freed = λ z. (let y : (clock_of unit start entries).left ≡ 0 = k.freed z in omega arith); unblocked = λ z. (let y : (clock_of unit start entries).block ≡ 0 = k.unblocked z in omega arith); bounded = omega arith }
clock_keeps unit start (Raised ∷ entries) u h = clock_keeps unit start entries u h.0

-- the test of the rule on clocks is the rule
pub clock_test : (clock : ClockView) → ((is_clock clock ≡ true) ↔ IsClock clock)
clock_test clock = (
  λ e.
      let a = and_parts _ _ e in
      let b = and_parts _ _ a.0 in
      let c = and_parts _ _ b.0 in
      let within : nat_le clock.left most_left ≡ true = c.0 in
      let few : nat_le clock.fails 10 ≡ true = c.1 in
      let freed : (if clock.free then clock.left == 0 else true) ≡ true = b.1 in
      let block : nat_le clock.block (longest_block clock.fails) ≡ true = a.1 in
      record {
        within = grind (arith, nat_tests);
        few = grind (arith, nat_tests);
        freed = λ z. grind (arith, nat_tests);
        unblocked = λ z. grind (arith, nat_tests);
        bounded = grind (arith, nat_tests);
      },
  λ k.
      let within : nat_le clock.left most_left ≡ true = (let x = k.within in grind (arith, nat_tests)) in
      let few : nat_le clock.fails 10 ≡ true = (let x = k.few in grind (arith, nat_tests)) in
      let freed : (if clock.free then clock.left == 0 else true) ≡ true =
      ⊎_elim (λ (f : clock.free ≡ true). let x : clock.left ≡ 0 = k.freed f in grind (arith, nat_tests)) (λ (f : clock.free ≡ false). rw f refl) (cases_Bool clock.free) in
      let block : nat_le clock.block (longest_block clock.fails) ≡ true =
      ⊎_elim (λ (f : clock.fails ≡ 0). let x : clock.block ≡ 0 = k.unblocked f in grind (arith, nat_tests)) (λ (f : clock.fails ≡ 0 → ⊥). let x = k.bounded in grind (arith, nat_tests)) (cases_eq clock.fails 0) in
      and_from _ _ (and_from _ _ (and_from _ _ within few) freed) block,
)
