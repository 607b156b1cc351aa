-- Lists in which each is kept once, of what the flash stands for, and of the states of a device of which that is known.
use Rattle.std.proofs.Common.{◌≡◌, ℕ, zero, suc, ◌+◌, ◌<◌, Bool, true, false, ◌==◌, ◌&&◌, List, [], ◌∷◌, ◌++◌, length, map, take, get_or, append-nil, Option, refl, sym, ap, subst, ◌∙◌, ⊎_elim, arith}
use Rattle.std.specs.List.{filter, flat_map, list_any}
use Rattle.std.proofs.lemmas.Bool.{cases_Bool}
use Rattle.std.proofs.lemmas.Bool.Decides.{nat_tests}
use Rattle.std.proofs.lemmas.Grind.{flat_map-append}
use Rattle.std.proofs.lemmas.List.{map-append, take_more}
use Rattle.std.proofs.lemmas.List.Elements.{filter-append}
use Rattle.std.proofs.lemmas.Slice.Eq.{bytes_eq-Decides}
use Rattle.paygo_spec.specs.declared.Event.{Event}
use Rattle.paygo_spec.specs.declared.Reply.{Reply}
use Rattle.paygo_spec.specs.Machine.{State, Stored}
use Rattle.paygo_spec.specs.Pad.{Keys}
use Rattle.log_check.specs.declared.outcomes.Foreseen.{Foreseen}
use Rattle.log_check.specs.declared.standing.Standing.{Standing}
use Rattle.log_check.specs.After.{Outcome, Choice, after}
use Rattle.log_check.specs.Fits.{says, choices, going_on}
use Rattle.log_check.specs.Same.{same_bool, same_stored, same_keys, same_state, put, put_all}
use Rattle.log_check.specs.Standing.{stored_of, outcome_of, IsStanding}
use Rattle.log_check.specs.Keeping.{AreStandings, AreForetold, storeds_of, put_stored, put_storeds, AreOnce, state_as, states_as, outcomes_at, told_by, told_from}

pub put_append : (a b c : List Stored) → put_storeds a (b ++ c) ≡ put_storeds (put_storeds a b) c
put_append a [] c = refl
put_append a (x ∷ b) c = put_append (put_stored a x) b c

told_append : (text : List ℕ) (xs ys : List Outcome) → told_by text (xs ++ ys) ≡ told_by text xs ++ told_by text ys
told_append text xs ys =
    ap (map (λ outcome. outcome.stored)) (filter-append (λ outcome. says text outcome.reply) xs ys)
    ∙ map-append (λ outcome. outcome.stored) (filter (λ outcome. says text outcome.reply) xs)
    (filter (λ outcome. says text outcome.reply) ys)

-- one more of what may be answered
pub gather_more : (text : List ℕ) (start now new : List Stored) (list : List Foreseen) (i : ℕ) (x : Foreseen)
    → i < length list
    → x ≡ get_or list i x
    → now ≡ put_storeds start (told_by text (map outcome_of (take i list)))
    → new ≡ put_storeds now (told_by text (outcome_of x ∷ []))
    → new ≡ put_storeds start (told_by text (map outcome_of (take (i + 1) list)))
gather_more text start now new list i x within is h k =
    k ∙ ap (λ l. put_storeds l (told_by text (outcome_of x ∷ []))) h
    ∙ sym (put_append start (told_by text (map outcome_of (take i list))) (told_by text (outcome_of x ∷ [])))
    ∙ ap (put_storeds start) (sym (told_append text (map outcome_of (take i list)) (outcome_of x ∷ [])))
    ∙ ap (λ l. put_storeds start (told_by text l)) (sym (map-append outcome_of (take i list) (x ∷ [])))
    ∙ ap (λ y. put_storeds start (told_by text (map outcome_of (take i list ++ y ∷ [])))) is
    ∙ ap (λ l. put_storeds start (told_by text (map outcome_of l))) (sym (take_more list i x within))

module _ (next : List ℕ → ℕ → ℕ) (text : List ℕ) (event : Event) (keys : Keys) where
  abbrev behind : Stored → List Stored
  behind stored = told_by text (outcomes_at next event keys stored)

  told_one : (xs : List Stored) (y : Stored) → told_from next text event keys (xs ++ y ∷ []) ≡ told_from next text event
      keys xs ++ behind y
  told_one xs y =
      flat_map-append behind xs (y ∷ [])
      ∙ ap (λ (l : List Stored). flat_map behind xs ++ l) (append-nil (behind y))

  -- one more of the standings
  pub goes_more : (now new : List Stored) (list : List Standing) (i : ℕ) (x : Standing) → i < length list
      → x ≡ get_or list i x
      → now ≡ put_storeds [] (told_from next text event keys (storeds_of (take i list)))
      → new ≡ put_storeds now (behind (stored_of x))
      → new ≡ put_storeds [] (told_from next text event keys (storeds_of (take (i + 1) list)))
  goes_more now new list i x within is h k =
      let y = stored_of x in
      k ∙ ap (λ l. put_storeds l (behind y)) h
      ∙ sym (put_append [] (told_from next text event keys (storeds_of (take i list))) (behind y))
      ∙ ap (put_storeds []) (sym (told_one (storeds_of (take i list)) y))
      ∙ ap (λ l. put_storeds [] (told_from next text event keys l)) (sym (map-append stored_of (take i list) (x ∷ [])))
      ∙ ap (λ z. put_storeds [] (told_from next text event keys (storeds_of (take i list ++ z ∷ [])))) is
      ∙ ap (λ l. put_storeds [] (told_from next text event keys (storeds_of l))) (sym (take_more list i x within))

pub put_old : (list : List Stored) (y : Stored) → list_any (same_stored y) list ≡ true → put_stored list y ≡ list
put_old list y t = rw t refl

pub put_new : (list : List Stored) (y : Stored) → list_any (same_stored y) list ≡ false
    → put_stored list y ≡ list ++ y ∷ []
put_new list y t = rw t refl

once_put : (list : List Stored) (y : Stored) → AreOnce list → AreOnce (put_stored list y)
once_put list y h =
    ⊎_elim
    (λ (t : list_any (same_stored y) list ≡ true). subst AreOnce (sym (put_old list y t)) h)
    (λ (t : list_any (same_stored y) list ≡ false).
    let once : AreOnce (list ++ y ∷ []) = put_append [] list (y ∷ []) ∙ ap (λ l. put_stored l y) h ∙ put_new list y t in
    subst AreOnce (sym (put_new list y t)) once)
    (cases_Bool (list_any (same_stored y) list))

-- a list to which each is put once has each once
pub once_all : (list more : List Stored) → AreOnce list → AreOnce (put_storeds list more)
once_all list [] h = h
once_all list (y ∷ more) h = once_all (put_stored list y) more (once_put list y h)

bool_same : (b : Bool) → same_bool b b ≡ true
bool_same true = refl
bool_same false = refl

nat_same : (n : ℕ) → (n == n) ≡ true
nat_same n = grind (arith, nat_tests)

keys_same : (keys : Keys) → same_keys keys keys ≡ true
keys_same keys =
    ap (λ (b : Bool). b && (keys.seconds == keys.seconds)) ((bytes_eq-Decides keys.pressed keys.pressed).1 refl)
    ∙ nat_same keys.seconds

and_true : (b : Bool) → (b && true) ≡ b
and_true true = refl
and_true false = refl

module _ (on : Bool) (keys : Keys) (faults : ℕ) where
  abbrev state_at : Stored → State
  state_at = state_as on keys faults

  same_as : (a b : Stored) → same_state (state_at a) (state_at b) ≡ same_stored a b
  same_as a b =
      ap (λ (x : Bool). x && (same_stored a b && (same_keys keys keys && (faults == faults)))) (bool_same on)
      ∙ ap (λ (x : Bool). same_stored a b && (x && (faults == faults))) (keys_same keys)
      ∙ ap (λ (x : Bool). same_stored a b && x) (nat_same faults)
      ∙ and_true (same_stored a b)

  any_as : (a : Stored) (list : List Stored) → list_any (same_state (state_at a)) (map state_at list) ≡ list_any
      (same_stored a) list
  any_as a [] = refl
  any_as a (b ∷ list) =
      ⊎_elim
      (λ (t : same_stored a b ≡ true). rw (same_as a b ∙ t, t) refl)
      (λ (t : same_stored a b ≡ false). rw (same_as a b ∙ t, t) (any_as a list))
      (cases_Bool (same_stored a b))

  put_as : (list : List Stored) (y : Stored) → put (map state_at list) (state_at y) ≡ map state_at (put_stored list y)
  put_as list y =
      ⊎_elim
      (λ (t : list_any (same_stored y) list ≡ true). rw (any_as y list ∙ t, t) refl)
      (λ (t : list_any (same_stored y) list ≡ false). rw (any_as y list ∙ t, t)
      (sym (map-append state_at list (y ∷ []))))
      (cases_Bool (list_any (same_stored y) list))

  -- putting states is putting what their flash stands for
  pub put_all_as : (list more : List Stored) → put_all (map state_at list) (map state_at more) ≡ map state_at
      (put_storeds list more)
  put_all_as list [] = refl
  put_all_as list (y ∷ more) = ap (λ l. put_all l (map state_at more)) (put_as list y)
      ∙ put_all_as (put_stored list y) more

-- The states of the choices that pass this test.
abbrev pub passing : (Option Reply → Bool) → List Choice → List State
passing test list = map (λ c. c.state) (filter (λ c. test c.reply) list)

passing_append : (test : Option Reply → Bool) (xs ys : List Choice)
    → passing test (xs ++ ys) ≡ passing test xs ++ passing test ys
passing_append test xs ys =
    ap (map (λ c. c.state)) (filter-append (λ c. test c.reply) xs ys)
    ∙ map-append (λ c. c.state) (filter (λ c. test c.reply) xs) (filter (λ c. test c.reply) ys)

-- This is true of each of them.
abbrev pub Each : (Stored → Type 0) → List Stored → Type 0
Each P [] = Unit {0}
Each P (stored ∷ storeds) = P stored × Each P storeds

module _ (next : List ℕ → ℕ → ℕ) (test : Option Reply → Bool) (event : Event) (old new : Stored → State) (to : Stored
    → List Stored) (P : Stored → Type 0)
    (goes : (s : Stored) → P s → passing test (after next (old s) event) ≡ map new (to s)) where
  passing_from : (storeds : List Stored) → Each P storeds
      → passing test (choices next event (map old storeds)) ≡ map new (flat_map to storeds)
  passing_from [] each = refl
  passing_from (s ∷ storeds) each =
      passing_append test (after next (old s) event) (choices next event (map old storeds))
      ∙ ap (λ (l : List State). l ++ passing test (choices next event (map old storeds))) (goes s each.0)
      ∙ ap (λ (l : List State). map new (to s) ++ l) (passing_from storeds each.1)
      ∙ sym (map-append new (to s) (flat_map to storeds))

-- where each state goes on so, all of them do
pub goes_as : (next : List ℕ → ℕ → ℕ) (test : Option Reply → Bool) (event : Event) (old : Stored → State) (on : Bool)
    (keys : Keys) (faults : ℕ) (to : Stored → List Stored) (P : Stored → Type 0)
    → ((s : Stored) → P s → passing test (after next (old s) event) ≡ map (state_as on keys faults) (to s))
    → (storeds : List Stored) → Each P storeds
    → going_on next test event (map old storeds) ≡ states_as on keys faults (put_storeds [] (flat_map to storeds))
goes_as next test event old on keys faults to P goes storeds each =
    ap (put_all []) (passing_from next test event old (state_as on keys faults) to P goes storeds each)
    ∙ put_all_as on keys faults [] (flat_map to storeds)

any_map : {A B : Type 0} (f : A → B) (p : B → Bool) (xs : List A) → list_any p (map f xs) ≡ list_any (λ x. p (f x)) xs
any_map f p [] = refl
any_map f p (x ∷ xs) =
    ⊎_elim
    (λ (t : p (f x) ≡ true). rw t refl)
    (λ (t : p (f x) ≡ false). rw t (any_map f p xs))
    (cases_Bool (p (f x)))

-- whether one is among the standings is whether what it stands for is
pub among_is : (standings : List Standing) (standing : Standing) (b : Bool)
    → list_any (λ other. same_stored (stored_of standing) (stored_of other)) standings ≡ b
    → list_any (same_stored (stored_of standing)) (storeds_of standings) ≡ b
among_is standings standing b h = any_map stored_of (same_stored (stored_of standing)) standings ∙ h

-- the range of a list of standings
pub standings_more : (xs : List Standing) (y : Standing) → AreStandings xs → IsStanding y → AreStandings (xs ++ y ∷ [])
standings_more [] y h k = (k, tt)
standings_more (x ∷ xs) y h k = (h.0, standings_more xs y h.1 k)

pub standing_at : (xs : List Standing) (i : ℕ) (d : Standing) → i < length xs → AreStandings xs
    → IsStanding (get_or xs i d)
standing_at [] i d within are = absurd (omega (arith, within))
standing_at (x ∷ xs) zero d within are = are.0
standing_at (x ∷ xs) (suc i) d within are = standing_at xs i d (omega (arith, within)) are.1

pub foretold_at : (xs : List Foreseen) (i : ℕ) (d : Foreseen) → i < length xs → AreForetold xs
    → IsStanding (get_or xs i d).standing
foretold_at [] i d within are = absurd (omega (arith, within))
foretold_at (x ∷ xs) zero d within are = are.0
foretold_at (x ∷ xs) (suc i) d within are = foretold_at xs i d (omega (arith, within)) are.1
