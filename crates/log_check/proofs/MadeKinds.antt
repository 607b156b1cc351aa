-- Where devices are on, a device was made on the flash of each or of none: replies with one text say which.
use Rattle.std.proofs.Common.{◌≡◌, ℕ, Bool, true, false, not, ◌==◌, List, [], ◌∷◌, ◌++◌, map, get_or, Some, refl, sym, ap, subst, ◌∙◌, ⊎_elim, arith}
use Rattle.std.specs.Prelude.{codes}
use Rattle.std.specs.List.{list_any}
use Rattle.std.specs.Str.{bytes_eq}
use Rattle.std.proofs.lemmas.Bool.{cases_Bool}
use Rattle.std.proofs.lemmas.Bool.Decides.{nat_tests}
use Rattle.std.proofs.lemmas.Slice.Eq.{bytes_eq-Decides}
use Rattle.paygo_spec.specs.declared.Event.{Event}
use Rattle.paygo_spec.specs.declared.Event.TheVariants.{Power, Make, Key, Tick, Show, Raise}
use Rattle.paygo_spec.specs.declared.Entry.{Entry}
use Rattle.paygo_spec.specs.declared.Reply.TheVariants as reply_is
use Rattle.paygo_spec.specs.Layout.{Position, last_bank, room}
use Rattle.paygo_spec.specs.Machine.{Stored, History, Effect, Answers, Adds, Raises, clock_at, effect_of}
use Rattle.paygo_spec.specs.Pad.{Keys}
use Rattle.paygo_spec.specs.Text.{text_of}
use Rattle.log_check.specs.declared.standing.Standing.{Standing}
use Rattle.log_check.specs.declared.standing.Standing.TheVariants.{Blank, Made}
use Rattle.log_check.specs.After.{Outcome, with_reply, moved, left_at, adding, raising, by_effect}
use Rattle.log_check.specs.Fits.{says}
use Rattle.log_check.specs.Same.{same_stored}
use Rattle.log_check.specs.Standing.{stored_of, history_of}
use Rattle.log_check.specs.Keeping.{storeds_of, put_stored, put_storeds, is_made, AllMade, AreAlike, outcomes_at, told_by, told_from, is_cut}
use Rattle.log_check.proofs.Gathering.{Each}

all_append : (made : Bool) (xs ys : List Stored) → AllMade made xs → AllMade made ys → AllMade made (xs ++ ys)
all_append made [] ys h k = k
all_append made (x ∷ xs) ys h k = (h.0, all_append made xs ys h.1 k)

all_put : (made : Bool) (xs : List Stored) (y : Stored) → AllMade made xs → is_made y ≡ made
    → AllMade made (put_stored xs y)
all_put made xs y h k =
    ⊎_elim
    (λ (t : list_any (same_stored y) xs ≡ true). rw t h)
    (λ (t : list_any (same_stored y) xs ≡ false). rw t (all_append made xs (y ∷ []) h (k, tt)))
    (cases_Bool (list_any (same_stored y) xs))

all_put_all : (made : Bool) (xs ys : List Stored) → AllMade made xs → AllMade made ys → AllMade made (put_storeds xs ys)
all_put_all made xs [] h k = h
all_put_all made xs (y ∷ ys) h k = all_put_all made (put_stored xs y) ys (all_put made xs y h k.0) k.1

-- what is made or not in all of them is so in the first one
alike_by : (made : Bool) (storeds : List Stored) → AllMade made storeds → AreAlike storeds
alike_by made [] h = tt
alike_by made (s ∷ storeds) h = subst (λ (m : Bool). AllMade m (s ∷ storeds)) (sym h.0) h

-- Of what may be answered with this text, all are made or none.
abbrev Kinds : Bool → List ℕ → List Outcome → Type 0
Kinds made text [] = Unit {0}
Kinds made text (outcome ∷ list) = (says text outcome.reply ≡ true → is_made outcome.stored ≡ made)
    × Kinds made text list

told_kinds : (made : Bool) (text : List ℕ) (list : List Outcome) → Kinds made text list
    → AllMade made (told_by text list)
told_kinds made text [] k = tt
told_kinds made text (outcome ∷ list) k =
    ⊎_elim
    (λ (t : says text outcome.reply ≡ true). rw t (k.0 t, told_kinds made text list k.1))
    (λ (t : says text outcome.reply ≡ false). rw t (told_kinds made text list k.1))
    (cases_Bool (says text outcome.reply))

-- on a flash on which a device was made one is made
moved_kinds : (text : List ℕ) (history : History) (places : List Position)
    → Kinds true text (map (λ at. with_reply (Some reply_is.Down) (moved history at)) places)
moved_kinds text history [] = tt
moved_kinds text history (at ∷ places) = (λ t. refl, moved_kinds text history places)

adding_kinds : (text : List ℕ) (history : History) (entry : Entry) → Kinds true text (adding history entry)
adding_kinds text history entry =
    ⊎_elim
    (λ (t : (room history.at == 0) ≡ true). rw t (λ u. refl, tt))
    (λ (t : (room history.at == 0) ≡ false). rw t
    (λ u. refl, (λ u. refl, moved_kinds text history (left_at history.at))))
    (cases_Bool (room history.at == 0))

raising_kinds : (text : List ℕ) (history : History) → Kinds true text (raising history)
raising_kinds text history =
    ⊎_elim
    (λ (t : (history.at.number == last_bank) ≡ true). rw t (λ u. refl, tt))
    (λ (t : (history.at.number == last_bank) ≡ false). rw t (λ u. refl, (λ u. refl, (λ u. refl, tt))))
    (cases_Bool (history.at.number == last_bank))

effect_kinds : (text : List ℕ) (history : History) (effect : Effect) → Kinds true text (by_effect history effect)
effect_kinds text history (Answers reply entries) = (λ t. refl, tt)
effect_kinds text history (Adds entry) = adding_kinds text history entry
effect_kinds text history Raises = raising_kinds text history

-- Where the event isn't Power, a device was made or not, as this says.
abbrev pub Like : Event → Bool → Stored → Type 0
Like Power made stored = Unit {0}
Like event made stored = is_made stored ≡ made

-- Whether devices that were made or not, as this says, are made behind an answer with this text.
abbrev kind_after : Event → List ℕ → Bool → Bool
kind_after Power text made = not (bytes_eq text (codes "unmade"))
kind_after (Make config) text made = true
kind_after event text made = made

same_text : (a b : List ℕ) → bytes_eq a b ≡ true → a ≡ b
same_text a b t = (bytes_eq-Decides a b).0 t

text_same : (a b : List ℕ) → a ≡ b → bytes_eq a b ≡ true
text_same a b e = (bytes_eq-Decides a b).1 e

not_both : (b : Bool) → b ≡ true → b ≡ false → ⊥
not_both true e f = cc
not_both false e f = cc

other : (a b : ℕ) → a ≡ b → (a == b) ≡ false → ⊥
other a b e h = grind (arith, nat_tests)

abbrev second : List ℕ → ℕ
second text = get_or text 1 0

up_text : (count left : ℕ) (free : Bool) (block : ℕ) → text_of (reply_is.Up count left free block) ≡ codes "unmade" → ⊥
up_text count left true block e = other 112 110 (ap second e) refl
up_text count left false block e = other 112 110 (ap second e) refl

module _ (text : List ℕ) (uncut : is_cut text ≡ false) where
  -- the text isn't that of a cut
  down_not : (made is : Bool) → bytes_eq (codes "down") text ≡ true → is ≡ made
  down_not made is t = absurd (not_both (is_cut text) (text_same text (codes "down")
      (sym (same_text (codes "down") text t))) uncut)

  unmade_says : bytes_eq (codes "unmade") text ≡ true → false ≡ not (bytes_eq text (codes "unmade"))
  unmade_says t = ap not (sym (text_same text (codes "unmade") (sym (same_text (codes "unmade") text t))))

  up_says : (count left : ℕ) (free : Bool) (block : ℕ)
      → bytes_eq (text_of (reply_is.Up count left free block)) text ≡ true
      → true ≡ not (bytes_eq text (codes "unmade"))
  up_says count left free block t =
      ⊎_elim
      (λ (u : bytes_eq text (codes "unmade") ≡ true).
      absurd (up_text count left free block (same_text (text_of (reply_is.Up count left free block)) text t
      ∙ same_text text (codes "unmade") u)))
      (λ (u : bytes_eq text (codes "unmade") ≡ false). ap not (sym u))
      (cases_Bool (bytes_eq text (codes "unmade")))

  kinds_at : (next : List ℕ → ℕ → ℕ) (event : Event) (keys : Keys) (made : Bool) (standing : Standing)
      → Like event made (stored_of standing)
      → Kinds (kind_after event text made) text (outcomes_at next event keys (stored_of standing))
  kinds_at next Power keys made Blank like = (unmade_says, (down_not (kind_after Power text made) false, tt))
  kinds_at next Power keys made (Made m) like =
      let clock = clock_at (history_of m) [] in
      (λ t. up_says _ clock.left clock.free clock.block t, (down_not (kind_after Power text made) true, tt))
  kinds_at next (Make config) keys made Blank like = (λ t. refl, (down_not true false, (λ t. refl, tt)))
  kinds_at next (Key key) keys made Blank like = (λ t. like, tt)
  kinds_at next (Tick seconds) keys made Blank like = (λ t. like, tt)
  kinds_at next Show keys made Blank like = (λ t. like, tt)
  kinds_at next Raise keys made Blank like = (λ t. like, tt)
  kinds_at next (Make config) keys made (Made m) like = effect_kinds text (history_of m)
      (effect_of next (history_of m) keys (Make config))
  kinds_at next (Key key) keys made (Made m) like =
      subst (λ (k : Bool). Kinds k text (by_effect (history_of m) (effect_of next (history_of m) keys (Key key)))) like
      (effect_kinds text (history_of m) (effect_of next (history_of m) keys (Key key)))
  kinds_at next (Tick seconds) keys made (Made m) like =
      subst (λ (k : Bool). Kinds k text (by_effect (history_of m) (effect_of next (history_of m) keys (Tick seconds))))
      like
      (effect_kinds text (history_of m) (effect_of next (history_of m) keys (Tick seconds)))
  kinds_at next Show keys made (Made m) like =
      subst (λ (k : Bool). Kinds k text (by_effect (history_of m) (effect_of next (history_of m) keys Show))) like
      (effect_kinds text (history_of m) (effect_of next (history_of m) keys Show))
  kinds_at next Raise keys made (Made m) like =
      subst (λ (k : Bool). Kinds k text (by_effect (history_of m) (effect_of next (history_of m) keys Raise))) like
      (effect_kinds text (history_of m) (effect_of next (history_of m) keys Raise))

  kinds_from : (next : List ℕ → ℕ → ℕ) (event : Event) (keys : Keys) (made : Bool) (standings : List Standing)
      → Each (Like event made) (storeds_of standings)
      → AllMade (kind_after event text made) (told_from next text event keys (storeds_of standings))
  kinds_from next event keys made [] like = tt
  kinds_from next event keys made (s ∷ standings) like =
      all_append (kind_after event text made) (told_by text (outcomes_at next event keys (stored_of s)))
      (told_from next text event keys (storeds_of standings))
      (told_kinds (kind_after event text made) text (outcomes_at next event keys (stored_of s))
      (kinds_at next event keys made s like.0))
      (kinds_from next event keys made standings like.1)

  -- behind an answer that leaves the device on, all are made or none
  pub alike_from : (next : List ℕ → ℕ → ℕ) (event : Event) (keys : Keys) (made : Bool) (standings : List Standing)
      → Each (Like event made) (storeds_of standings)
      → AreAlike (put_storeds [] (told_from next text event keys (storeds_of standings)))
  alike_from next event keys made standings like =
      alike_by (kind_after event text made) (put_storeds [] (told_from next text event keys (storeds_of standings)))
      (all_put_all (kind_after event text made) [] (told_from next text event keys (storeds_of standings)) tt
      (kinds_from next event keys made standings like))
