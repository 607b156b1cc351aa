-- The tests on entries, and the numbers of entries.
use Rattle.std.proofs.Common.{◌≡◌, ℕ, Bool, true, false, ◌+◌, ◌*◌, ◌/◌, ◌%◌, ◌^◌, ◌<◌, ◌≤◌, ◌==◌, nat_lt, IsSome, List, [], ◌∷◌, Option, Some, None, refl, arith, sym, ◌∙◌, ap, subst, ◌↔◌, ⊎_elim}
use Rattle.std.proofs.lemmas.Bool.{cases_Bool, and_parts}
use Rattle.std.proofs.lemmas.Bool.Decides.{nat_tests}
use Rattle.paygo_spec.specs.declared.Entry.{Entry}
use Rattle.paygo_spec.specs.declared.Entry.TheVariants.{Accept, Bad, Elapsed, Raised}
use Rattle.paygo_spec.specs.History.{Summary, first_limit, raised_limit, limit_of, IsLimit, reach, is_odd, kind_of, Valid, is_valid}
use Rattle.paygo_spec.specs.Window.{alone, StandsFor}
use Rattle.paygo_spec.specs.Lawful.{MayFollow, IsWritten, follows}
use Rattle.paygo_spec.specs.Snapshot.{snapshot}
use Rattle.paygo_spec.specs.EntryNumber.{number_of, entry_of, HasNumber, after_entry, after_number}
use Rattle.paygo_spec.proofs.Windows.{same_valid}
use Rattle.paygo_spec.proofs.Snapshots.{snapshot_more, snapshot_may}

-- the test of what is valid is the rule
pub valid_is : (start : Summary) (entries : List Entry) (m v : ℕ) → ((is_valid start entries m v ≡ true) ↔ Valid start entries m v)
valid_is start entries m v =
    ⊎_elim (λ (o : is_odd m ≡ true). rw o (grind (arith, nat_tests))) (λ (o : is_odd m ≡ false). rw o (grind (arith, nat_tests))) (cases_Bool (is_odd m))

-- the test of what follows is the rule
pub follows_is : (unit : ℕ) (start : Summary) (e : Entry) → ((follows start e ≡ true) ↔ (MayFollow unit start [] e × IsWritten e))
follows_is unit start (Accept n v) =
    let q = valid_is start [] n v in (
      λ h. (let p = and_parts _ _ h in let b : (start.block == 0) ≡ true = p.0 in ((grind (arith, nat_tests), q.0 p.1), tt)),
      λ h. let b : start.block ≡ 0 = h.0.0 in rw (b, q.1 h.0.1) refl,
    )
follows_is unit start Bad = (λ h. (grind (arith, nat_tests), tt), λ h. let b : start.block ≡ 0 = h.0 in rw b refl)
follows_is unit start (Elapsed t) = (λ h. (grind (arith, nat_tests), grind (arith, nat_tests)), λ h. let a : t ≤ 999999999 = h.0 in let b : 1 ≤ t = h.1 in grind (arith, nat_tests))
follows_is unit start Raised = (λ h. cc, λ h. absurd h.1)

-- an entry is read back from its number
pub read_back : (e : Entry) → HasNumber e → entry_of (number_of e) ≡ Some e
read_back (Accept n v) h = let a : (n * 1024 + v) / 1024 ≡ n = omega arith in let b : (n * 1024 + v) % 1024 ≡ v = omega arith in grind (arith, nat_tests)
read_back Bad h = refl
read_back (Elapsed t) h = let a : (2147483648 + t) / 1073741824 ≡ 2 = omega arith in let b : (2147483648 + t) % 1073741824 ≡ t = omega arith in grind (arith, nat_tests)
read_back Raised h = absurd h

-- the value of a token of some kind is at most 999
value_small : (n v : ℕ) → IsSome (kind_of n v) → v ≤ 999
value_small n v h = ⊎_elim (λ (o : is_odd n ≡ true). grind (arith, nat_tests)) (λ (o : is_odd n ≡ false). grind (arith, nat_tests)) (cases_Bool (is_odd n))

-- an entry that is written and may follow has a number
pub may_has_number : (unit : ℕ) (start : Summary) (entries : List Entry) (e : Entry) → IsLimit (limit_of start entries) → IsWritten e → MayFollow unit start entries e → HasNumber e
may_has_number unit start entries (Accept n v) g w h = let k : n ≤ reach start entries v = h.1.1 in (⊎_elim (λ (l : limit_of start entries ≡ first_limit). omega arith) (λ (l : limit_of start entries ≡ raised_limit). omega arith) g, omega (arith, value_small n v h.1.2))
may_has_number unit start entries Bad g w h = tt
may_has_number unit start entries (Elapsed t) g w h = omega arith
may_has_number unit start entries Raised g w h = absurd w

-- an entry that may follow a history is read as the snapshot of the history with it
pub next_is : (unit : ℕ) (start : Summary) (entries : List Entry) (e : Entry) → HasNumber e → IsWritten e → MayFollow unit start entries e → after_number unit (snapshot unit start entries) (number_of e) ≡ Some (snapshot unit start (e ∷ entries))
next_is unit start entries e r k h =
    let f : follows (snapshot unit start entries) e ≡ true = (follows_is unit (snapshot unit start entries) e).1 ((snapshot_may unit start entries e).0 h, k) in
    ap (after_entry unit (snapshot unit start entries)) (read_back e r) ∙ (rw f (ap Some (sym (snapshot_more unit start entries e))))

-- two tests of one fact agree
same_test : (a b : Bool) → (a ≡ true → b ≡ true) → (b ≡ true → a ≡ true) → a ≡ b
same_test true b f g = sym (f refl)
same_test false true f g = g refl
same_test false false f g = refl

-- the test on a window agrees with the test on each history that it stands for
pub valid_same : (start : Summary) (entries : List Entry) (limit last bits m v : ℕ) → StandsFor limit last bits start entries → is_valid start entries m v ≡ is_valid (alone limit last bits) [] m v
valid_same start entries limit last bits m v w =
    let here = valid_is start entries m v in
    let there = valid_is (alone limit last bits) [] m v in
    let same = same_valid start entries limit last bits m v w in
    same_test _ _ (λ h. there.1 (same.0 (here.0 h))) (λ h. here.1 (same.1 (there.0 h)))

-- the number of an entry that has one
pub number_fits : (e : Entry) → HasNumber e → number_of e < 2 ^ 32
number_fits (Accept n v) h = omega arith
number_fits Bad h = omega arith
number_fits (Elapsed t) h = omega arith
number_fits Raised h = absurd h

-- an entry that was read has that number
pub number_back : (x : ℕ) (e : Entry) → entry_of x ≡ Some e → HasNumber e × (number_of e ≡ x)
number_back x e h =
    ⊎_elim
    (λ (a : nat_lt x (2 ^ 24) ≡ true).
    let q : Some (Accept (x / 2 ^ 10) (x % 2 ^ 10)) ≡ Some e = rw a at h in
    let r : Accept (x / 2 ^ 10) (x % 2 ^ 10) ≡ e = cc in
    let l : x < 2 ^ 24 = grind (arith, nat_tests) in
    subst (λ y. HasNumber y × (number_of y ≡ x)) r ((omega arith, omega arith), omega arith))
    (λ (a : nat_lt x (2 ^ 24) ≡ false). ⊎_elim
    (λ (b : (x == 2 ^ 30) ≡ true).
    let q : Some Bad ≡ Some e = rw (a, b) at h in
    let r : Bad ≡ e = cc in
    subst (λ y. HasNumber y × (number_of y ≡ x)) r (tt, grind (arith, nat_tests)))
    (λ (b : (x == 2 ^ 30) ≡ false). ⊎_elim
    (λ (d : (x / 2 ^ 30 == 2) ≡ true).
    let q : Some (Elapsed (x % 2 ^ 30)) ≡ Some e = rw (a, b, d) at h in
    let r : Elapsed (x % 2 ^ 30) ≡ e = cc in
    let l : x / 2 ^ 30 ≡ 2 = grind (arith, nat_tests) in
    subst (λ y. HasNumber y × (number_of y ≡ x)) r (omega arith, omega arith))
    (λ (d : (x / 2 ^ 30 == 2) ≡ false). let q : None ≡ Some e = rw (a, b, d) at h in cc)
    (cases_Bool (x / 2 ^ 30 == 2)))
    (cases_Bool (x == 2 ^ 30)))
    (cases_Bool (nat_lt x (2 ^ 24)))

-- a number is read as a summary only where it is an entry that follows
taken_on : (unit : ℕ) (start t : Summary) (o : Option Entry) → after_entry unit start o ≡ Some t → (e : Entry) × (o ≡ Some e) × (follows start e ≡ true) × (t ≡ snapshot unit start (e ∷ []))
taken_on unit start t None h = cc
taken_on unit start t (Some e) h =
    ⊎_elim
    (λ (f : follows start e ≡ true). let q : Some (snapshot unit start (e ∷ [])) ≡ Some t = rw f at h in (e, refl, f, cc))
    (λ (f : follows start e ≡ false). let q : None ≡ Some t = rw f at h in cc)
    (cases_Bool (follows start e))

pub read_entry : (unit : ℕ) (start : Summary) (entries : List Entry) (x : ℕ) (t : Summary) → after_number unit (snapshot unit start entries) x ≡ Some t → (e : Entry) × (number_of e ≡ x) × (MayFollow unit start entries e × IsWritten e) × (t ≡ snapshot unit start (e ∷ entries))
read_entry unit start entries x t h =
    let k = taken_on unit (snapshot unit start entries) t (entry_of x) h in
    let n = number_back x k.0 k.1 in
    let f = (follows_is unit (snapshot unit start entries) k.0).0 k.2 in
    (k.0, n.1, ((snapshot_may unit start entries k.0).1 f.0, f.1), k.3 ∙ sym (snapshot_more unit start entries k.0))
