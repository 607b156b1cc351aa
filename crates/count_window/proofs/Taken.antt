-- The window after one more accepted count stands for the history with it.
use Rattle.std.proofs.Common.{◌≡◌, ℕ, Bool, true, false, not, ◌+◌, ◌-◌, ◌<◌, ◌≤◌, ◌&&◌, ◌==◌, max, nat_lt, if◌then◌else◌, List, [], ◌∷◌, Some, arith, IsTrue, ◌↔◌, ⊎_elim}
use Rattle.std.proofs.lemmas.Bool.{cases_lt, cases_Bool}
use Rattle.std.proofs.lemmas.Nat.Bits.{bit_at_above}
use Rattle.std.proofs.lemmas.Bool.Decides.{nat_tests}
use Rattle.std.specs.Int.{bit_at}
use Rattle.paygo_spec.specs.declared.Entry.{Entry}
use Rattle.paygo_spec.specs.declared.Entry.TheVariants.{Accept}
use Rattle.paygo_spec.specs.declared.TokenKind.TheVariants.{Add}
use Rattle.paygo_spec.specs.History.{Summary, top, spent, is_odd, kind_of, reach, Valid}
use Rattle.paygo_spec.specs.Window.{bit, alone, StandsFor}
use Rattle.paygo_spec.proofs.Counts.{unspent_above}
use Rattle.paygo_spec.proofs.Windows.{same_spent}
use Rattle.count_window.specs.Bits.{HasBits}

module _ (limit last bits : ℕ) (start : Summary) (entries : List Entry) (w : StandsFor limit last bits start entries) (n v b : ℕ) where
  pub take_odd : last < n → is_odd n ≡ true → HasBits b (λ i. if nat_lt i n then 1 else 0) → StandsFor limit (max last n) b start (Accept n v ∷ entries)
  take_odd h o k =
      let e : last ≡ top start entries = w.top_is in
      let t : max last n ≡ n = omega arith in
      rw t (record {
        limit_is = w.limit_is;
        top_is = omega arith;
        fits = k.0;
        spent_is = λ i m l q r. let z : bit_at b i ≡ (if nat_lt i n then 1 else 0) = k.1 i l in grind (arith, nat_tests);
        no_count = λ i l. ⊎_elim (λ (lo : i < 16). let z : bit_at b i ≡ (if nat_lt i n then 1 else 0) = k.1 i lo in grind (arith, nat_tests)) (λ (hi : 16 ≤ i). bit_at_above b 16 i k.0 hi) (cases_lt i 16);
      })

  pub take_up : last < n → is_odd n ≡ false → HasBits b (λ i. if i == 0 then 1 else if nat_lt i (n - last) then 0 else bit_at bits (i - (n - last))) → StandsFor limit (max last n) b start (Accept n v ∷ entries)
  take_up h o k =
      let e : last ≡ top start entries = w.top_is in
      let t : max last n ≡ n = omega arith in
      rw t (record {
        limit_is = w.limit_is;
        top_is = omega arith;
        fits = k.0;
        spent_is = λ i m l q r.
            let z : bit_at b i ≡ (if i == 0 then 1 else if nat_lt i (n - last) then 0 else bit_at bits (i - (n - last))) = k.1 i l in
            ⊎_elim
            (λ (lo : i < n - last). let u : spent start entries m ≡ false = unspent_above start entries m (omega arith) in grind (arith, nat_tests))
            (λ (hi : n - last ≤ i). let u : bit_at bits (i - (n - last)) ≡ bit (spent start entries m) = w.spent_is (i - (n - last)) m (omega arith) (omega arith) r in grind (arith, nat_tests))
            (cases_lt i (n - last));
        no_count = λ i l. ⊎_elim
            (λ (lo : i < 16). let z : bit_at b i ≡ (if i == 0 then 1 else if nat_lt i (n - last) then 0 else bit_at bits (i - (n - last))) = k.1 i lo in
            let u : bit_at bits (i - (n - last)) ≡ 0 = w.no_count (i - (n - last)) (omega arith) in grind (arith, nat_tests))
            (λ (hi : 16 ≤ i). bit_at_above b 16 i k.0 hi) (cases_lt i 16);
      })

  pub take_down : n ≤ last → 1 ≤ n → is_odd n ≡ false → HasBits b (λ i. if i == last - n then 1 else bit_at bits i) → StandsFor limit (max last n) b start (Accept n v ∷ entries)
  take_down h p o k =
      let e : last ≡ top start entries = w.top_is in
      let t : max last n ≡ last = omega arith in
      rw t (record {
        limit_is = w.limit_is;
        top_is = omega arith;
        fits = k.0;
        spent_is = λ i m l q r.
            let z : bit_at b i ≡ (if i == last - n then 1 else bit_at bits i) = k.1 i l in
            let u : bit_at bits i ≡ bit (spent start entries m) = w.spent_is i m l q r in
            grind (arith, nat_tests);
        no_count = λ i l. ⊎_elim
            (λ (lo : i < 16). let z : bit_at b i ≡ (if i == last - n then 1 else bit_at bits i) = k.1 i lo in
            let u : bit_at bits i ≡ 0 = w.no_count i l in grind (arith, nat_tests))
            (λ (hi : 16 ≤ i). bit_at_above b 16 i k.0 hi) (cases_lt i 16);
      })

-- an add token has an even count
add_even : (m v : ℕ) → kind_of m v ≡ Some Add → is_odd m ≡ false
add_even m v h = ⊎_elim (λ (o : is_odd m ≡ true). grind (arith, nat_tests)) (λ (o : is_odd m ≡ false). o) (cases_Bool (is_odd m))

-- an add token is valid where its count is open
pub add_valid : (start : Summary) (entries : List Entry) (limit last bits m v : ℕ) (is_open : Bool) → StandsFor limit last bits start entries → 1 ≤ m → m ≤ reach start entries v → kind_of m v ≡ Some Add → is_open ≡ (nat_lt last (m + 16) && not (spent (alone limit last bits) [] m)) → (IsTrue is_open ↔ Valid start entries m v)
add_valid start entries limit last bits m v is_open w p r k e =
    let o : is_odd m ≡ false = add_even m v k in
    let t : last ≡ top start entries = w.top_is in
    let q : last < m + 16 → spent start entries m ≡ spent (alone limit last bits) [] m = same_spent start entries limit last bits m w p in
    rw (e, k) (grind (arith, nat_tests))
