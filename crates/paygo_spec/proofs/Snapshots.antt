-- A history may be forgotten for its snapshot.
use Rattle.std.proofs.Common.{◌≡◌, ℕ, zero, suc, Bool, true, false, ◌+◌, ◌-◌, ◌^◌, ◌<◌, ◌≤◌, ◌&&◌, ◌||◌, ◌==◌, nat_lt, max, List, [], ◌∷◌, refl, arith, sym, ◌∙◌, ap, ⊎_elim, ◌↔◌}
use Rattle.std.proofs.lemmas.Bool.{cases_lt, cases_Bool}
use Rattle.std.proofs.lemmas.Bool.Decides.{nat_tests}
use Rattle.std.proofs.lemmas.Nat.Bits.{bit_at_cat_low, bit_at_cat_high, same_from_bits_below, bit_at_above}
use Rattle.std.specs.Int.{bit_at}
use Rattle.paygo_spec.specs.declared.Entry.{Entry}
use Rattle.paygo_spec.specs.declared.Entry.TheVariants.{Accept, Bad, Elapsed, Raised}
use Rattle.paygo_spec.specs.History.{Summary, limit_of, top, spent, is_odd, Valid}
use Rattle.paygo_spec.specs.Window.{WindowView, bit, StandsFor}
use Rattle.paygo_spec.specs.Lawful.{IsSummary, Lawful, MayFollow}
use Rattle.paygo_spec.specs.Snapshot.{bits_of, is_used, window_of, snapshot}
use Rattle.paygo_spec.proofs.Windows.{stands_at_start, same_spent, same_valid, limit_kept, keeps_rule}
use Rattle.paygo_spec.proofs.Clocks.{clock_keeps}

-- a number of n bits is below 2^n, and its bits are those that it was made of
pub bits_below : (f : ℕ → Bool) (n : ℕ) → bits_of f n < 2 ^ n
unfolding bits_of
bits_below f zero = omega arith
bits_below f (suc n) =
    let i : bits_of f n < 2 ^ n = bits_below f n in
    let p : 2 ^ suc n ≡ 2 ^ n + 2 ^ n = omega arith in
    ⊎_elim (λ (t : f n ≡ true). rw t (omega arith)) (λ (t : f n ≡ false). rw t (omega arith)) (cases_Bool (f n))

low_of_one : (b : Bool) → bit_at (bit b) 0 ≡ bit b
low_of_one true = refl
low_of_one false = refl

pub bits_at : (f : ℕ → Bool) (n i : ℕ) → i < n → bit_at (bits_of f n) i ≡ bit (f i)
unfolding bits_of
bits_at f zero i h = absurd (omega arith)
bits_at f (suc n) i h =
    ⊎_elim
    (λ (l : i < n). bit_at_cat_low (bit (f n)) n (bits_of f n) i l ∙ bits_at f n i l)
    (λ (g : n ≤ i). let e : i ≡ n = omega arith in let z : n - n ≡ 0 = omega arith in
    rw e (bit_at_cat_high (bit (f n)) n (bits_of f n) n (bits_below f n) (omega arith) ∙ rw z (low_of_one (f n))))
    (cases_lt i n)

pub bits_same : (f g : ℕ → Bool) (n : ℕ) → ((i : ℕ) → i < n → f i ≡ g i) → bits_of f n ≡ bits_of g n
unfolding bits_of
bits_same f g zero h = refl
bits_same f g (suc n) h = let a : f n ≡ g n = h n (omega arith) in let b : bits_of f n ≡ bits_of g n = bits_same f g n (λ i l. h i (omega arith)) in rw (a, b) refl

-- the window of the snapshot stands for the history
pub snapshot_stands : (unit : ℕ) (start : Summary) (entries : List Entry) → StandsFor (snapshot unit start entries).limit (snapshot unit start entries).last (snapshot unit start entries).bits start entries
snapshot_stands unit start entries = record {
  limit_is = refl;
  top_is = refl;
  fits = bits_below (is_used start entries) 16;
  spent_is = λ i m h e l. bits_at (is_used start entries) 16 i h ∙ (let z : top start entries - i ≡ m = omega arith in let y : nat_lt i (top start entries) ≡ true = grind (arith, nat_tests) in rw (y, z) refl);
  no_count = λ i h. ⊎_elim (λ (l : i < 16). bits_at (is_used start entries) 16 i l ∙ (let y : nat_lt i (top start entries) ≡ false = grind (arith, nat_tests) in rw y refl))
      (λ (g : 16 ≤ i). bit_at_above _ 16 i (bits_below (is_used start entries) 16) g) (cases_lt i 16);
}

-- a window of the history is that of its snapshot
pub window_is : (start : Summary) (entries : List Entry) (limit last bits : ℕ) → StandsFor limit last bits start entries → bits ≡ bits_of (is_used start entries) 16
window_is start entries limit last bits w =
    let v = snapshot_stands 0 start entries in
    let e : last ≡ top start entries = w.top_is in
    same_from_bits_below 16 bits _ w.fits v.fits
    (λ i h. ⊎_elim
    (λ (l : i < last). w.spent_is i (last - i) h (omega arith) (omega arith) ∙ sym (v.spent_is i (last - i) h (omega arith) (omega arith)))
    (λ (g : last ≤ i). w.no_count i g ∙ sym (v.no_count i (omega arith)))
    (cases_lt i last))

-- what a snapshot forgets doesn't matter
pub snapshot_spent : (unit : ℕ) (start : Summary) (entries : List Entry) (m : ℕ) → 1 ≤ m → top start entries < m + 16 → spent start entries m ≡ spent (snapshot unit start entries) [] m
snapshot_spent unit start entries m l h = same_spent start entries (snapshot unit start entries).limit (snapshot unit start entries).last (snapshot unit start entries).bits m (snapshot_stands unit start entries) l h

used_after : (unit : ℕ) (start : Summary) (entries : List Entry) (e : Entry) (i : ℕ) → i < 16 → is_used start (e ∷ entries) i ≡ is_used (snapshot unit start entries) (e ∷ []) i
used_after unit start entries (Accept n v) i h =
    ⊎_elim
    (λ (l : i < max n (top start entries)).
    let e : spent start entries (max n (top start entries) - i) ≡ spent (snapshot unit start entries) [] (max n (top start entries) - i) = snapshot_spent unit start entries (max n (top start entries) - i) (omega arith) (omega arith) in
    ap (λ b. nat_lt i (max n (top start entries)) && (((max n (top start entries) - i) == n || (is_odd n && nat_lt (max n (top start entries) - i) n)) || b)) e)
    (λ (g : max n (top start entries) ≤ i). let y : nat_lt i (max n (top start entries)) ≡ false = grind (arith, nat_tests) in rw y refl)
    (cases_lt i (max n (top start entries)))
used_after unit start entries (_) i h =
    ⊎_elim
    (λ (l : i < top start entries). ap (λ b. nat_lt i (top start entries) && b) (snapshot_spent unit start entries (top start entries - i) (omega arith) (omega arith)))
    (λ (g : top start entries ≤ i). let y : nat_lt i (top start entries) ≡ false = grind (arith, nat_tests) in rw y refl)
    (cases_lt i (top start entries))

abbrev with_bits : Summary → ℕ → Summary
with_bits r b = record r { bits = b }

-- one entry more onto the snapshot is one entry more in the history
pub snapshot_more : (unit : ℕ) (start : Summary) (entries : List Entry) (e : Entry) → snapshot unit start (e ∷ entries) ≡ snapshot unit (snapshot unit start entries) (e ∷ [])
snapshot_more unit start entries e =
    let b : bits_of (is_used start (e ∷ entries)) 16 ≡ bits_of (is_used (snapshot unit start entries) (e ∷ [])) 16 = bits_same _ _ 16 (used_after unit start entries e) in
    elim e as (λ x. bits_of (is_used start (x ∷ entries)) 16 ≡ bits_of (is_used (snapshot unit start entries) (x ∷ [])) 16 → snapshot unit start (x ∷ entries) ≡ snapshot unit (snapshot unit start entries) (x ∷ [])) [
      | Accept n v ↦ λ q. ap (with_bits (snapshot unit start (Accept n v ∷ entries))) q
      | Bad ↦ λ q. ap (with_bits (snapshot unit start (Bad ∷ entries))) q
      | Elapsed t ↦ λ q. ap (with_bits (snapshot unit start (Elapsed t ∷ entries))) q
      | Raised ↦ λ q. ap (with_bits (snapshot unit start (Raised ∷ entries))) q
    ] b

-- a summary is the snapshot of the history that starts with it
pub snapshot_start : (unit : ℕ) (start : Summary) → IsSummary start → snapshot unit start [] ≡ start
snapshot_start unit start h =
    let b : bits_of (is_used start []) 16 ≡ start.bits = sym (window_is start [] start.limit start.last start.bits (stands_at_start start h.window)) in
    ap (with_bits start) b

-- what may follow is decided by the snapshot
pub snapshot_valid : (unit : ℕ) (start : Summary) (entries : List Entry) (m v : ℕ) → (Valid start entries m v ↔ Valid (snapshot unit start entries) [] m v)
snapshot_valid unit start entries m v = same_valid start entries (snapshot unit start entries).limit (snapshot unit start entries).last (snapshot unit start entries).bits m v (snapshot_stands unit start entries)

pub snapshot_may : (unit : ℕ) (start : Summary) (entries : List Entry) (e : Entry) → (MayFollow unit start entries e ↔ MayFollow unit (snapshot unit start entries) [] e)
snapshot_may unit start entries (Accept n v) =
    let q = snapshot_valid unit start entries n v in
    (λ h. (h.0, q.0 h.1), λ h. (h.0, q.1 h.1))
snapshot_may unit start entries (Bad) = (λ h. h, λ h. h)
snapshot_may unit start entries (Elapsed t) = (λ h. h, λ h. h)
snapshot_may unit start entries Raised = (λ h. h, λ h. h)

-- the snapshot of a lawful history keeps both rules
pub snapshot_keeps : (unit : ℕ) (start : Summary) (entries : List Entry) → unit ≤ 86400 → Lawful unit start entries → IsSummary (snapshot unit start entries)
snapshot_keeps unit start entries u h = record {
  limited = limit_kept unit start entries h;
  window = keeps_rule unit start entries _ _ _ h (snapshot_stands unit start entries);
  clock = clock_keeps unit start entries u h;
}

-- a window stands for the histories whose snapshot has its parts, and for no other
pub stands_is : (unit limit last bits : ℕ) (start : Summary) (entries : List Entry) → (StandsFor limit last bits start entries ↔ ((limit ≡ (snapshot unit start entries).limit) × (last ≡ (snapshot unit start entries).last) × (bits ≡ (snapshot unit start entries).bits)))
stands_is unit limit last bits start entries = (
  λ w. (w.limit_is, w.top_is, window_is start entries limit last bits w),
  λ h. rw (h.0, h.1, h.2) (snapshot_stands unit start entries),
)

abbrev view : ℕ → ℕ → ℕ → WindowView
view limit last bits = record { limit = limit; last = last; bits = bits }

pub window_view_is : (start : Summary) (entries : List Entry) (limit last bits : ℕ) → StandsFor limit last bits start entries → view limit last bits ≡ window_of start entries
window_view_is start entries limit last bits w = ap (λ x. view x last bits) w.limit_is ∙ ap (λ x. view (limit_of start entries) x bits) w.top_is ∙ ap (view (limit_of start entries) (top start entries)) (window_is start entries limit last bits w)
