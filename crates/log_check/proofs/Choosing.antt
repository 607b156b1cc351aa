-- A pair stands in the list of choices exactly where the machine allows it.
use Rattle.std.proofs.Common.{◌≡◌, ◌≢◌, ℕ, ◌<◌, Bool, true, false, ◌==◌, List, [], ◌∷◌, map, Option, Some, refl, sym, ap, subst, ◌∙◌, inl, inr, ◌⊎◌, ⊎_elim, arith, if◌then◌else◌}
use Rattle.std.specs.List.{Contains}
use Rattle.std.proofs.lemmas.Bool.{cases_Bool}
use Rattle.std.proofs.lemmas.Bool.Decides.{nat_tests}
use Rattle.paygo_spec.specs.declared.Entry.{Entry}
use Rattle.paygo_spec.specs.declared.Entry.TheVariants.{Accept, Bad, Elapsed, Raised}
use Rattle.paygo_spec.specs.declared.Reply.{Reply}
use Rattle.paygo_spec.specs.declared.Reply.TheVariants as reply_is
use Rattle.paygo_spec.specs.declared.TokenKind.{TokenKind}
use Rattle.paygo_spec.specs.declared.TokenKind.TheVariants as kind_is
use Rattle.paygo_spec.specs.History.{Summary, kind_of}
use Rattle.paygo_spec.specs.Clock.{ClockView}
use Rattle.paygo_spec.specs.Layout.{Position, last_bank, room, further, turned, Leaves}
use Rattle.paygo_spec.specs.Snapshot.{snapshot}
use Rattle.paygo_spec.specs.Machine.{Stored, Journal, History, Effect, Answers, Adds, Raises, gone_on, unit_for, clock_at, reply_to_entry, reply_to_token, MayAdd, MayRaise, Meets}
use Rattle.paygo_spec.proofs.Snapshots.{snapshot_more}
use Rattle.device_core.specs.Decided.{forgotten}
use Rattle.log_check.specs.After.{Outcome, with_reply, summed, moved, taken, left_at, adding, raising, by_effect}
use Rattle.log_check.proofs.Effects.{StaysBy}
use Rattle.log_check.proofs.Members.{one_in, later_in, cases_in, in_one, map_in, in_map}

same_is : (a b : ℕ) → a ≡ b → (a == b) ≡ true
same_is a b e = grind (arith, nat_tests)

other_is : (a b : ℕ) → a ≢ b → (a == b) ≡ false
other_is a b e = grind (arith, nat_tests)

is_same : (a b : ℕ) → (a == b) ≡ true → a ≡ b
is_same a b e = grind (arith, nat_tests)

is_other : (a b : ℕ) → (a == b) ≡ false → a ≢ b
is_other a b e = grind (arith, nat_tests)

-- What the machine allows leads to this outcome, with the history forgotten.
abbrev pub LeadsTo : (Option Reply → Stored → Type 0) → Outcome → Type 0
LeadsTo meets outcome = (new : Stored) × meets outcome.reply new × (outcome.stored ≡ summed new)

taken_is : (history : History) (entry : Entry) (at : Position)
    → taken (forgotten history) entry at ≡ summed (Journal (gone_on history (entry ∷ history.entries) at))
taken_is history entry at =
    ap (λ (s : Summary). Journal (record { config = history.config; start = s; entries = []; at = at }))
    (sym (snapshot_more (unit_for history) history.start history.entries entry))

-- the reply to an entry is neither of the two that have their own case
abbrev IsFair : Reply → Type 0
IsFair reply = (reply ≢ reply_is.Down) × (reply ≢ reply_is.Worn)

token_fair : (kind : Option TokenKind) (count value : ℕ) (clock : ClockView)
    → IsFair (reply_to_token kind count value clock)
token_fair (Some kind_is.Add) count value clock = (λ e. absurd cc, λ e. absurd cc)
token_fair (Some kind_is.Set) count value clock = (λ e. absurd cc, λ e. absurd cc)
token_fair (Some kind_is.Free) count value clock = (λ e. absurd cc, λ e. absurd cc)
token_fair _ count value clock = (λ e. absurd cc, λ e. absurd cc)

entry_fair : (entry : Entry) (clock : ClockView) → IsFair (reply_to_entry entry clock)
entry_fair (Accept count value) clock = token_fair (kind_of count value) count value clock
entry_fair Bad clock = (λ e. absurd cc, λ e. absurd cc)
entry_fair (Elapsed seconds) clock = (λ e. absurd cc, λ e. absurd cc)
entry_fair Raised clock = (λ e. absurd cc, λ e. absurd cc)

fair_adds : (history : History) (entry : Entry) (reply : Reply) (new : Stored) → IsFair reply → 0 < room history.at
    → reply ≡ reply_to_entry entry (clock_at history (entry ∷ history.entries))
    → new ≡ Journal (gone_on history (entry ∷ history.entries) (further history.at))
    → MayAdd history entry (Some reply) new
fair_adds history entry reply_is.Worn new fair free is stands = absurd (fair.1 refl)
fair_adds history entry reply_is.Down new fair free is stands = absurd (fair.0 refl)
fair_adds history entry _ new fair free is stands = (free, ap Some is, stands)

module _ (history : History) (entry : Entry) where
  abbrev old : History
  old = forgotten history

  abbrev answer : Reply
  answer = reply_to_entry entry (clock_at history (entry ∷ history.entries))

  abbrev grown : Position → Stored
  grown at = Journal (gone_on history (entry ∷ history.entries) at)

  abbrev worn : Outcome
  worn = with_reply (Some reply_is.Worn) (Journal old)

  abbrev cut : Position → Outcome
  cut at = with_reply (Some reply_is.Down) (moved old at)

  abbrev cuts : List Outcome
  cuts = map cut (left_at history.at)

  abbrev rest : List Outcome
  rest = with_reply (Some reply_is.Down) (taken old entry (further history.at)) ∷ cuts

  abbrev turns : List Position
  turns = if history.at.place == 512 then turned history.at ∷ [] else []

  abbrev furthers : List Position
  furthers = further history.at ∷ turns

  -- the position after a cut that left no entry
  turn_in : (at : Position) → Contains turns at → (history.at.place ≡ 512) × (at ≡ turned history.at)
  turn_in at d =
      ⊎_elim
      (λ (t : (history.at.place == 512) ≡ true). let d' : Contains (turned history.at ∷ []) at = rw t at d in
      (is_same history.at.place 512 t, sym (in_one (turned history.at) at d')))
      (λ (t : (history.at.place == 512) ≡ false). let d' : Contains [] at = rw t at d in absurd (omega (arith, d'.1)))
      (cases_Bool (history.at.place == 512))

  left_in : (at : Position) → Contains (left_at history.at) at → Leaves history.at false at
  left_in at h =
      ⊎_elim (λ (e : history.at ≡ at). inl (sym e))
      (λ (c : Contains furthers at). inr (⊎_elim (λ (e : further history.at ≡ at). inl (sym e))
      (λ (d : Contains turns at). inr (turn_in at d)) (cases_in (further history.at) at turns c)))
      (cases_in history.at at furthers h)

  in_turn : (at : Position) → history.at.place ≡ 512 → at ≡ turned history.at → Contains turns at
  in_turn at full is = rw (same_is history.at.place 512 full) (one_in (turned history.at) at [] (sym is))

  in_left : (at : Position) → Leaves history.at false at → Contains (left_at history.at) at
  in_left at (inl e) = one_in history.at at furthers (sym e)
  in_left at (inr (inl e)) = later_in history.at at furthers (one_in (further history.at) at turns (sym e))
  in_left at (inr (inr h)) = later_in history.at at furthers
      (later_in (further history.at) at turns (in_turn at h.0 h.1))

  adds_full : (outcome : Outcome) → room history.at ≡ 0 → worn ≡ outcome → LeadsTo (MayAdd history entry) outcome
  adds_full outcome none e = subst (LeadsTo (MayAdd history entry)) e (Journal history, (none, refl), refl)

  adds_answered : (outcome : Outcome) → 0 < room history.at
      → with_reply (Some answer) (taken old entry (further history.at)) ≡ outcome
      → LeadsTo (MayAdd history entry) outcome
  adds_answered outcome free e =
      subst (LeadsTo (MayAdd history entry)) e (
        grown (further history.at),
        fair_adds history entry answer (grown (further history.at))
            (entry_fair entry (clock_at history (entry ∷ history.entries))) free refl refl,
        taken_is history entry
            (further history.at),
      )

  adds_counted : (outcome : Outcome) → 0 < room history.at
      → with_reply (Some reply_is.Down) (taken old entry (further history.at)) ≡ outcome
      → LeadsTo (MayAdd history entry) outcome
  adds_counted outcome free e = subst (LeadsTo (MayAdd history entry)) e (
    grown (further history.at),
    (free, (true, further history.at, refl, refl)),
    taken_is history entry
        (further history.at),
  )

  adds_cut : (outcome : Outcome) → 0 < room history.at → Contains cuts outcome → LeadsTo (MayAdd history entry) outcome
  adds_cut outcome free h =
      let r = in_map cut (left_at history.at) outcome h in
      subst (LeadsTo (MayAdd history entry)) r.2
      (Journal (gone_on history history.entries r.0), (free, (false, r.0, left_in r.0 r.1, refl)), refl)

  pub adds_may : (outcome : Outcome) → Contains (adding old entry) outcome → LeadsTo (MayAdd history entry) outcome
  adds_may outcome h =
      ⊎_elim
      (λ (t : (room history.at == 0) ≡ true). let h' : Contains (worn ∷ []) outcome = rw t at h in adds_full outcome
      (is_same (room history.at) 0 t) (in_one worn outcome h'))
      (λ (t : (room history.at == 0) ≡ false).
      let h' : Contains (with_reply (Some answer) (taken old entry (further history.at)) ∷ rest) outcome = rw t at h in
      let other : room history.at ≢ 0 = is_other (room history.at) 0 t in
      let free : 0 < room history.at = omega arith in
      ⊎_elim (λ e. adds_answered outcome free e)
      (λ (c : Contains rest outcome). ⊎_elim (λ e. adds_counted outcome free e)
      (λ (d : Contains cuts outcome). adds_cut outcome free d) (cases_in _ outcome cuts c))
      (cases_in _ outcome rest h'))
      (cases_Bool (room history.at == 0))

  not_full : 0 < room history.at → (room history.at == 0) ≡ false
  not_full free = other_is (room history.at) 0 (λ e. omega arith)

  down_adds : (counted : Bool) (at : Position) (new : Stored) → 0 < room history.at → Leaves history.at counted at
      → new ≡ Journal (gone_on history (if counted then entry ∷ history.entries else history.entries) at)
      → Contains (adding old entry) (with_reply (Some reply_is.Down) (summed new))
  down_adds true at new free leaves is =
      let same : taken old entry (further history.at) ≡ summed new = taken_is history entry (further history.at)
      ∙ ap (λ (p : Position). summed (grown p)) (sym leaves) ∙ ap summed (sym is) in
      rw (not_full free) (later_in _ _ rest (one_in _ _ cuts (ap (with_reply (Some reply_is.Down)) same)))
  down_adds false at new free leaves is =
      let same : Contains cuts (with_reply (Some reply_is.Down) (summed new)) = subst
      (λ (s : Stored). Contains cuts (with_reply (Some reply_is.Down) (summed s))) (sym is)
      (map_in cut (left_at history.at) at (in_left at leaves)) in
      rw (not_full free) (later_in _ _ rest (later_in _ _ cuts same))

  answer_adds : (reply : Option Reply) (new : Stored) → 0 < room history.at → reply ≡ Some answer
      → new ≡ grown (further history.at) → Contains (adding old entry) (with_reply reply (summed new))
  answer_adds reply new free says is =
      let same : with_reply (Some answer) (taken old entry (further history.at)) ≡ with_reply reply (summed new) =
      ap (with_reply (Some answer)) (taken_is history entry (further history.at) ∙ ap summed (sym is))
      ∙ ap (λ (r : Option Reply). with_reply r (summed new)) (sym says) in
      rw (not_full free) (one_in _ _ rest same)

  pub may_add : (reply : Option Reply) (new : Stored) → MayAdd history entry reply new
      → Contains (adding old entry) (with_reply reply (summed new))
  may_add (Some reply_is.Worn) new h = rw (same_is (room history.at) 0 h.0)
      (one_in _ _ [] (ap (λ (s : Stored). with_reply (Some reply_is.Worn) (summed s)) (sym h.1)))
  may_add (Some reply_is.Down) new h = down_adds h.1.0 h.1.1 new h.0 h.1.2 h.1.3
  may_add reply new h = answer_adds reply new h.0 h.1 h.2

module _ (history : History) where
  abbrev raised_now : Stored
  raised_now = Journal (gone_on history (Raised ∷ history.entries) (turned history.at))

  abbrev raise_worn : Outcome
  raise_worn = with_reply (Some reply_is.Worn) (Journal (forgotten history))

  abbrev raise_down : Outcome
  raise_down = with_reply (Some reply_is.Down) (taken (forgotten history) Raised (turned history.at))

  abbrev raise_cut : List Outcome
  raise_cut = with_reply (Some reply_is.Down) (Journal (forgotten history)) ∷ raise_down ∷ []

  pub raises_may : (outcome : Outcome) → Contains (raising (forgotten history)) outcome
      → LeadsTo (MayRaise history) outcome
  raises_may outcome h =
      ⊎_elim
      (λ (t : (history.at.number == last_bank) ≡ true). let h' : Contains (raise_worn ∷ []) outcome = rw t at h in
      subst (LeadsTo (MayRaise history)) (in_one raise_worn outcome h')
      (Journal history, (is_same history.at.number last_bank t, refl), refl))
      (λ (t : (history.at.number == last_bank) ≡ false).
      let h' : Contains (with_reply (Some reply_is.Raised) (taken (forgotten history) Raised (turned history.at)) ∷
      raise_cut) outcome = rw t at h in
      let other : history.at.number ≢ last_bank = is_other history.at.number last_bank t in
      ⊎_elim (λ e. subst (LeadsTo (MayRaise history)) e
      (raised_now, (other, refl, refl), taken_is history Raised (turned history.at)))
      (λ (c : Contains raise_cut outcome). ⊎_elim
      (λ e. subst (LeadsTo (MayRaise history)) e (Journal history, (other, inl refl), refl))
      (λ (d : Contains (raise_down ∷ []) outcome). subst (LeadsTo (MayRaise history)) (in_one raise_down outcome d)
      (raised_now, (other, inr refl), taken_is history Raised (turned history.at)))
      (cases_in _ outcome (raise_down ∷ []) c))
      (cases_in _ outcome raise_cut h'))
      (cases_Bool (history.at.number == last_bank))

  raise_answered : (reply : Option Reply) (new : Stored) → history.at.number ≢ last_bank → reply ≡ Some reply_is.Raised
      → new ≡ raised_now → Contains (raising (forgotten history)) (with_reply reply (summed new))
  raise_answered reply new other says is =
      let same : with_reply (Some reply_is.Raised) (taken (forgotten history) Raised (turned history.at)) ≡ with_reply
      reply (summed new) =
      ap (with_reply (Some reply_is.Raised)) (taken_is history Raised (turned history.at) ∙ ap summed (sym is))
      ∙ ap (λ (r : Option Reply). with_reply r (summed new)) (sym says) in
      rw (other_is history.at.number last_bank other) (one_in _ _ raise_cut same)

  raise_fell : (new : Stored) → history.at.number ≢ last_bank → (new ≡ Journal history) ⊎ (new ≡ raised_now)
      → Contains (raising (forgotten history)) (with_reply (Some reply_is.Down) (summed new))
  raise_fell new other (inl is) = rw (other_is history.at.number last_bank other)
      (later_in _ _ raise_cut (one_in _ _ (raise_down ∷ []) (ap
      (λ (s : Stored). with_reply (Some reply_is.Down) (summed s)) (sym is))))
  raise_fell new other (inr is) =
      let same : taken (forgotten history) Raised (turned history.at) ≡ summed new = taken_is history Raised
      (turned history.at) ∙ ap summed (sym is) in
      rw (other_is history.at.number last_bank other)
      (later_in _ _ raise_cut (later_in _ _ (raise_down ∷ [])
      (one_in _ _ [] (ap (with_reply (Some reply_is.Down)) same))))

  pub may_raise : (reply : Option Reply) (new : Stored) → MayRaise history reply new
      → Contains (raising (forgotten history)) (with_reply reply (summed new))
  may_raise (Some reply_is.Worn) new h = rw (same_is history.at.number last_bank h.0)
      (one_in _ _ [] (ap (λ (s : Stored). with_reply (Some reply_is.Worn) (summed s)) (sym h.1)))
  may_raise (Some reply_is.Down) new h = raise_fell new h.0 h.1
  may_raise reply new h = raise_answered reply new h.0 h.1 h.2

  answer_stays : (entries : List Entry) → snapshot (unit_for history) history.start entries ≡ snapshot
      (unit_for history) history.start history.entries
      → Journal (forgotten history) ≡ summed (Journal (gone_on history entries history.at))
  answer_stays entries same = ap (λ (s : Summary). Journal (record
      { config = history.config; start = s; entries = []; at = history.at })) (sym same)

  pub effect_may : (effect : Effect) (outcome : Outcome) → StaysBy history effect
      → Contains (by_effect (forgotten history) effect) outcome → LeadsTo (Meets history effect) outcome
  effect_may (Answers reply entries) outcome same h =
      subst (LeadsTo (Meets history (Answers reply entries)))
      (in_one (with_reply reply (Journal (forgotten history))) outcome h)
      (Journal (gone_on history entries history.at), (refl, refl), answer_stays entries same)
  effect_may (Adds entry) outcome same h = adds_may history entry outcome h
  effect_may Raises outcome same h = raises_may outcome h

  pub may_effect : (effect : Effect) (reply : Option Reply) (new : Stored) → StaysBy history effect
      → Meets history effect reply new → Contains (by_effect (forgotten history) effect) (with_reply reply (summed new))
  may_effect (Answers answer entries) reply new same h =
      one_in _ _ [] (ap (with_reply answer) (answer_stays entries same ∙ ap summed (sym h.1))
      ∙ ap (λ (r : Option Reply). with_reply r (summed new)) (sym h.0))
  may_effect (Adds entry) reply new same h = may_add history entry reply new h
  may_effect Raises reply new same h = may_raise reply new h
