-- What a window of a history says of it.
use Rattle.std.proofs.Common.{◌≡◌, ℕ, true, false, ◌+◌, ◌-◌, ◌<◌, ◌≤◌, List, [], ◌∷◌, refl, arith, ◌↔◌, inl, inr, sym, ◌∙◌, ⊎_elim}
use Rattle.std.proofs.lemmas.Bool.{cases_lt}
use Rattle.std.proofs.lemmas.Nat.Bits.{bit_at-lt, bit_at-zero, bit_at_above}
use Rattle.std.proofs.lemmas.Bool.Decides.{nat_tests}
use Rattle.std.specs.Int.{bit_at}
use Rattle.paygo_spec.specs.declared.Entry.{Entry}
use Rattle.paygo_spec.specs.declared.Entry.TheVariants.{Accept, Raised}
use Rattle.paygo_spec.specs.History.{Summary, fresh, first_limit, raised_limit, limit_of, IsLimit, top, spent, reach, Valid}
use Rattle.paygo_spec.specs.Window.{bit, alone, StandsFor, IsWindow}
use Rattle.paygo_spec.specs.Clock.{clock_at_start, IsClock}
use Rattle.paygo_spec.specs.Lawful.{Lawful, IsSummary}
use Rattle.paygo_spec.proofs.Counts.{bit_true, unspent_above, spent_below, top_spent}

-- a window that keeps the rule stands for each history that starts with it and has no entry
pub stands_at_start : (start : Summary) → IsWindow start.limit start.last start.bits → StandsFor start.limit start.last start.bits start []
stands_at_start start w = record {
  limit_is = refl;
  top_is = refl;
  fits = w.fits;
  spent_is = λ i m h q l.
      let e : start.last - m ≡ i = omega arith in
      let b : bit_at start.bits i < 2 = bit_at-lt start.bits i in
      rw e (grind (arith, nat_tests));
  no_count = λ i l. ⊎_elim (λ (h : i < 16). w.no_count i h l) (λ (h : 16 ≤ i). bit_at_above start.bits 16 i w.fits h) (cases_lt i 16);
}

pub stands_alone : (limit last bits : ℕ) → IsWindow limit last bits → StandsFor limit last bits (alone limit last bits) []
stands_alone limit last bits w = stands_at_start (alone limit last bits) w

-- the window decides how far a count may be
pub same_reach : (start : Summary) (entries : List Entry) (limit last bits v : ℕ) → StandsFor limit last bits start entries → reach start entries v ≡ reach (alone limit last bits) [] v
same_reach start entries limit last bits v w = rw (w.limit_is, w.top_is) refl

-- near the top the window says what is spent
pub same_spent : (start : Summary) (entries : List Entry) (limit last bits m : ℕ) → StandsFor limit last bits start entries → 1 ≤ m → last < m + 16 → spent start entries m ≡ spent (alone limit last bits) [] m
same_spent start entries limit last bits m w l h =
    let e : last ≡ top start entries = w.top_is in
    ⊎_elim
    (λ (a : last < m). let u : spent start entries m ≡ false = unspent_above start entries m (omega arith) in grind (arith, nat_tests))
    (λ (a : m ≤ last).
    let u : bit_at bits (last - m) ≡ bit (spent start entries m) = w.spent_is (last - m) m (omega arith) (omega arith) l in
    elim (spent start entries m) as (λ z. bit_at bits (last - m) ≡ bit z → z ≡ spent (alone limit last bits) [] m) [ true ↦ λ (q : bit_at bits (last - m) ≡ 1). grind (arith, nat_tests) | false ↦ λ (q : bit_at bits (last - m) ≡ 0). grind (arith, nat_tests) ] u)
    (cases_lt last m)

-- the window decides what is valid
pub same_valid : (start : Summary) (entries : List Entry) (limit last bits m v : ℕ) → StandsFor limit last bits start entries → (Valid start entries m v ↔ Valid (alone limit last bits) [] m v)
same_valid start entries limit last bits m v w =
    let r : limit ≡ limit_of start entries = w.limit_is in
    let e : last ≡ top start entries = w.top_is in
    let q : 1 ≤ m → last < m + 16 → spent start entries m ≡ spent (alone limit last bits) [] m = same_spent start entries limit last bits m w in
    grind (arith, nat_tests)

-- a lawful history starts by the rule, and accepts no count above the greatest
pub starts_well : (unit : ℕ) (start : Summary) (entries : List Entry) → Lawful unit start entries → IsWindow start.limit start.last start.bits
starts_well unit start [] h = h.window
starts_well unit start (_ ∷ entries) h = starts_well unit start entries h.0

pub top_in_range : (unit : ℕ) (start : Summary) (entries : List Entry) → Lawful unit start entries → top start entries ≤ limit_of start entries
top_in_range unit start [] h = h.window.in_range
top_in_range unit start (Accept n v ∷ entries) h =
    let i : top start entries ≤ limit_of start entries = top_in_range unit start entries h.0 in
    let k : n ≤ reach start entries v = h.1.1.1 in
    omega arith
top_in_range unit start (Raised ∷ entries) h =
    let i : top start entries ≤ limit_of start entries = top_in_range unit start entries h.0 in
    let k : limit_of start entries ≡ first_limit = h.1 in
    omega arith
top_in_range unit start (_ ∷ entries) h = top_in_range unit start entries h.0

-- a lawful history has one of the two limits
pub limit_kept : (unit : ℕ) (start : Summary) (entries : List Entry) → Lawful unit start entries → IsLimit (limit_of start entries)
limit_kept unit start [] h = h.limited
limit_kept unit start (Raised ∷ entries) h = inr refl
limit_kept unit start (_ ∷ entries) h = limit_kept unit start entries h.0

-- a window of a lawful history keeps the rule
pub keeps_rule : (unit : ℕ) (start : Summary) (entries : List Entry) (limit last bits : ℕ) → Lawful unit start entries → StandsFor limit last bits start entries → IsWindow limit last bits
keeps_rule unit start entries limit last bits h w =
    let begins : IsWindow start.limit start.last start.bits = starts_well unit start entries h in
    let r : limit ≡ limit_of start entries = w.limit_is in
    let e : last ≡ top start entries = w.top_is in
    record {
      in_range = rw (r, e) (top_in_range unit start entries h);
      fits = w.fits;
      last_spent = ⊎_elim
          (λ (z : 0 < last). rw (w.spent_is 0 last (omega arith) (omega arith) z) (rw (top_spent start entries last e begins z) (grind (arith, nat_tests))))
          (λ (z : last ≤ 0). rw (w.no_count 0 z) (grind (arith, nat_tests)))
          (cases_lt 0 last);
      no_count = λ i a b. w.no_count i b;
      overtaken = λ i j m a b d q o g.
          let x : bit (spent start entries m) ≡ 1 = sym (w.spent_is i m (omega arith) q (omega arith)) ∙ g in
          let y : spent start entries m ≡ true = bit_true _ x in
          let k : bit_at bits j ≡ bit (spent start entries (last - j)) = w.spent_is j (last - j) b (omega arith) (omega arith) in
          rw k (rw (spent_below start entries m (last - j) begins o y (omega arith) (omega arith)) refl);
    }

-- a new device keeps both rules
fresh_clock : IsClock (clock_at_start fresh)
fresh_clock = record { within = omega arith; few = omega arith; freed = λ _. refl; unblocked = λ _. refl; bounded = omega arith }

pub fresh_keeps : IsSummary fresh
fresh_keeps = record {
  limited = inl refl;
  window = record {
    in_range = omega arith;
    fits = omega arith;
    last_spent = refl;
    no_count = λ i h l. bit_at-zero i;
    overtaken = λ i j m a b d q o g. absurd (omega arith);
  };
  clock = fresh_clock;
}

-- a window that takes a valid token keeps the rule
pub taken_keeps : (limit last bits n v limit' last' bits' : ℕ) → IsLimit limit → IsWindow limit last bits → Valid (alone limit last bits) [] n v → StandsFor limit' last' bits' (alone limit last bits) (Accept n v ∷ []) → IsWindow limit' last' bits'
taken_keeps limit last bits n v limit' last' bits' l w h k =
    let begins : IsSummary (alone limit last bits) = record { limited = l; window = w; clock = fresh_clock } in
    keeps_rule 0 (alone limit last bits) (Accept n v ∷ []) limit' last' bits' (begins, (refl, h)) k

-- a window that is raised keeps it too, and stands for the history that is raised
pub raised_keeps : (limit last bits : ℕ) → IsLimit limit → IsWindow limit last bits → IsWindow raised_limit last bits
raised_keeps limit last bits l w = record {
  in_range = let r : last ≤ limit = w.in_range in ⊎_elim (λ (a : limit ≡ first_limit). omega arith) (λ (a : limit ≡ raised_limit). omega arith) l;
  fits = w.fits;
  last_spent = w.last_spent;
  no_count = w.no_count;
  overtaken = w.overtaken;
}

pub raised_stands : (limit last bits : ℕ) (start : Summary) (entries : List Entry) → StandsFor limit last bits start entries → StandsFor raised_limit last bits start (Raised ∷ entries)
raised_stands limit last bits start entries w = record {
  limit_is = refl;
  top_is = w.top_is;
  fits = w.fits;
  spent_is = w.spent_is;
  no_count = w.no_count;
}
