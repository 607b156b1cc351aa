-- Two states whose histories are forgotten are one where the test says so, and each is kept once in a list.
use Rattle.std.proofs.Common.{◌≡◌, ℕ, Bool, true, false, ◌==◌, ◌&&◌, List, [], ◌∷◌, ◌++◌, refl, sym, ap, subst, ◌∙◌, inl, inr, ◌⊎◌, ⊎_elim, arith}
use Rattle.std.specs.List.{Contains, list_any}
use Rattle.std.specs.Str.{bytes_eq}
use Rattle.std.proofs.lemmas.Bool.{cases_Bool, and_parts}
use Rattle.std.proofs.lemmas.Bool.Decides.{nat_tests}
use Rattle.std.proofs.lemmas.List.Elements.{Contains-append_left, Contains-append_right, Contains-append_cases}
use Rattle.std.proofs.lemmas.Slice.Eq.{bytes_eq-Decides}
use Rattle.paygo_spec.specs.declared.Config.{Config}
use Rattle.paygo_spec.specs.declared.Form.{Form}
use Rattle.paygo_spec.specs.declared.Form.TheVariants.{Nine, Fifteen}
use Rattle.paygo_spec.specs.History.{Summary}
use Rattle.paygo_spec.specs.Layout.{Position}
use Rattle.paygo_spec.specs.Machine.{State, Stored, Blank, Broken, Journal, History}
use Rattle.paygo_spec.specs.Pad.{Keys}
use Rattle.ledger_spec.specs.Ledger.{same_form}
use Rattle.log_check.specs.After.{summed, summed_state}
use Rattle.log_check.specs.Same.{same_bool, same_config, same_position, same_summary, same_stored, same_keys, same_state, put, put_all}
use Rattle.log_check.proofs.Members.{none_in, first_in, one_in, later_in, cases_in, in_one}

bool_is : (a b : Bool) → same_bool a b ≡ true → a ≡ b
bool_is true true h = refl
bool_is true false h = absurd cc
bool_is false true h = absurd cc
bool_is false false h = refl

form_is : (a b : Form) → same_form a b ≡ true → a ≡ b
form_is Nine Nine h = refl
form_is Fifteen Fifteen h = refl
form_is Nine Fifteen h = absurd cc
form_is Fifteen Nine h = absurd cc

nat_is : (a b : ℕ) → (a == b) ≡ true → a ≡ b
nat_is a b h = grind (arith, nat_tests)

abbrev config_with : List ℕ → ℕ → ℕ → Form → Config
config_with key start divider form = record { key = key; start = start; divider = divider; form = form }

config_is : (a b : Config) → same_config a b ≡ true → a ≡ b
config_is a b h =
    let p = and_parts (bytes_eq a.key b.key) ((a.start == b.start) &&
    ((a.divider == b.divider) && same_form a.form b.form)) h in
    let q = and_parts (a.start == b.start) ((a.divider == b.divider) && same_form a.form b.form) p.1 in
    let r = and_parts (a.divider == b.divider) (same_form a.form b.form) q.1 in
    ap (λ k. config_with k a.start a.divider a.form) ((bytes_eq-Decides a.key b.key).0 p.0)
    ∙ ap (λ s. config_with b.key s a.divider a.form) (nat_is a.start b.start q.0)
    ∙ ap (λ d. config_with b.key b.start d a.form) (nat_is a.divider b.divider r.0)
    ∙ ap (λ f. config_with b.key b.start b.divider f) (form_is a.form b.form r.1)

abbrev position_with : ℕ → ℕ → Position
position_with number place = record { number = number; place = place }

position_is : (a b : Position) → same_position a b ≡ true → a ≡ b
position_is a b h =
    let p = and_parts (a.number == b.number) (a.place == b.place) h in
    ap (λ n. position_with n a.place) (nat_is a.number b.number p.0)
    ∙ ap (λ n. position_with b.number n) (nat_is a.place b.place p.1)

abbrev summary_with : ℕ → ℕ → ℕ → ℕ → Bool → ℕ → ℕ → Summary
summary_with limit last bits left free fails block = record
    { limit = limit; last = last; bits = bits; left = left; free = free; fails = fails; block = block }

summary_is : (a b : Summary) → same_summary a b ≡ true → a ≡ b
summary_is a b h =
    let p = and_parts (a.limit == b.limit) _ h in
    let q = and_parts (a.last == b.last) _ p.1 in
    let r = and_parts (a.bits == b.bits) _ q.1 in
    let s = and_parts (a.left == b.left) _ r.1 in
    let t = and_parts (same_bool a.free b.free) _ s.1 in
    let u = and_parts (a.fails == b.fails) (a.block == b.block) t.1 in
    ap (λ x. summary_with x a.last a.bits a.left a.free a.fails a.block) (nat_is a.limit b.limit p.0)
    ∙ ap (λ x. summary_with b.limit x a.bits a.left a.free a.fails a.block) (nat_is a.last b.last q.0)
    ∙ ap (λ x. summary_with b.limit b.last x a.left a.free a.fails a.block) (nat_is a.bits b.bits r.0)
    ∙ ap (λ x. summary_with b.limit b.last b.bits x a.free a.fails a.block) (nat_is a.left b.left s.0)
    ∙ ap (λ x. summary_with b.limit b.last b.bits b.left x a.fails a.block) (bool_is a.free b.free t.0)
    ∙ ap (λ x. summary_with b.limit b.last b.bits b.left b.free x a.block) (nat_is a.fails b.fails u.0)
    ∙ ap (λ x. summary_with b.limit b.last b.bits b.left b.free b.fails x) (nat_is a.block b.block u.1)

-- The history is forgotten: no entry is left.
abbrev pub Forgets : Stored → Type 0
Forgets (Journal history) = history.entries ≡ []
Forgets stored = Unit {0}

abbrev history_with : Config → Summary → Position → Stored
history_with config start at = Journal (record { config = config; start = start; entries = []; at = at })

no_entries : (a : History) → a.entries ≡ [] → Journal a ≡ history_with a.config a.start a.at
no_entries a e = ap (λ l. Journal (record { config = a.config; start = a.start; entries = l; at = a.at })) e

stored_is : (a b : Stored) → same_stored a b ≡ true → Forgets a → Forgets b → a ≡ b
stored_is Blank Blank h f g = refl
stored_is (Broken word) (Broken place) h f g = ap Broken (nat_is word place h)
stored_is (Journal a) (Journal b) h f g =
    let p = and_parts (same_config a.config b.config) _ h in
    let q = and_parts (same_summary a.start b.start) (same_position a.at b.at) p.1 in
    no_entries a f ∙ ap (λ c. history_with c a.start a.at) (config_is a.config b.config p.0)
    ∙ ap (λ s. history_with b.config s a.at) (summary_is a.start b.start q.0)
    ∙ ap (λ p. history_with b.config b.start p) (position_is a.at b.at q.1) ∙ sym (no_entries b g)
stored_is Blank (Broken place) h f g = absurd cc
stored_is Blank (Journal b) h f g = absurd cc
stored_is (Broken word) Blank h f g = absurd cc
stored_is (Broken word) (Journal b) h f g = absurd cc
stored_is (Journal a) Blank h f g = absurd cc
stored_is (Journal a) (Broken place) h f g = absurd cc

abbrev keys_with : List ℕ → ℕ → Keys
keys_with pressed seconds = record { pressed = pressed; seconds = seconds }

keys_is : (a b : Keys) → same_keys a b ≡ true → a ≡ b
keys_is a b h =
    let p = and_parts (bytes_eq a.pressed b.pressed) (a.seconds == b.seconds) h in
    ap (λ l. keys_with l a.seconds) ((bytes_eq-Decides a.pressed b.pressed).0 p.0)
    ∙ ap (λ n. keys_with b.pressed n) (nat_is a.seconds b.seconds p.1)

abbrev state_with : Bool → Stored → Keys → ℕ → State
state_with on stored keys faults = record { on = on; stored = stored; keys = keys; faults = faults }

pub same_state_is : (a b : State) → same_state a b ≡ true → Forgets a.stored → Forgets b.stored → a ≡ b
same_state_is a b h f g =
    let p = and_parts (same_bool a.on b.on) _ h in
    let q = and_parts (same_stored a.stored b.stored) _ p.1 in
    let r = and_parts (same_keys a.keys b.keys) (a.faults == b.faults) q.1 in
    ap (λ x. state_with x a.stored a.keys a.faults) (bool_is a.on b.on p.0)
    ∙ ap (λ x. state_with b.on x a.keys a.faults) (stored_is a.stored b.stored q.0 f g)
    ∙ ap (λ x. state_with b.on b.stored x a.faults) (keys_is a.keys b.keys r.0)
    ∙ ap (λ x. state_with b.on b.stored b.keys x) (nat_is a.faults b.faults r.1)

-- All histories of these states are forgotten.
abbrev pub AllForget : List State → Type 0
AllForget states = (x : State) → Contains states x → Forgets x.stored

any_is : (states : List State) (x : State) → AllForget states → Forgets x.stored → list_any (same_state x) states ≡ true
    → Contains states x
any_is [] x forget f h = absurd cc
any_is (y ∷ states) x forget f h =
    ⊎_elim
    (λ (t : same_state x y ≡ true). one_in y x states (sym (same_state_is x y t f (forget y (first_in y states)))))
    (λ (t : same_state x y ≡ false). let h' : list_any (same_state x) states ≡ true = rw t at h in later_in y x states
    (any_is states x (λ z c. forget z (later_in y z states c)) f h'))
    (cases_Bool (same_state x y))

put_keeps : (states : List State) (y x : State) → Contains states x → Contains (put states y) x
put_keeps states y x h =
    ⊎_elim (λ (t : list_any (same_state y) states ≡ true). rw t h)
    (λ (t : list_any (same_state y) states ≡ false). rw t (Contains-append_left states (y ∷ []) x h))
    (cases_Bool (list_any (same_state y) states))

put_has : (states : List State) (y : State) → AllForget states → Forgets y.stored → Contains (put states y) y
put_has states y forget f =
    ⊎_elim (λ (t : list_any (same_state y) states ≡ true). rw t (any_is states y forget f t))
    (λ (t : list_any (same_state y) states ≡ false). rw t (Contains-append_right states (y ∷ []) y (first_in y [])))
    (cases_Bool (list_any (same_state y) states))

in_put : (states : List State) (y x : State) → Contains (put states y) x → Contains states x ⊎ (y ≡ x)
in_put states y x h =
    ⊎_elim (λ (t : list_any (same_state y) states ≡ true). let h' : Contains states x = rw t at h in inl h')
    (λ (t : list_any (same_state y) states ≡ false). let h' : Contains (states ++ y ∷ []) x = rw t at h in
    ⊎_elim (λ (c : Contains states x). inl c) (λ (c : Contains (y ∷ []) x). inr (in_one y x c))
    (Contains-append_cases states (y ∷ []) x h'))
    (cases_Bool (list_any (same_state y) states))

put_forgets : (states : List State) (y : State) → AllForget states → Forgets y.stored → AllForget (put states y)
put_forgets states y forget f x h = ⊎_elim (λ (c : Contains states x). forget x c)
    (λ (e : y ≡ x). subst (λ (s : State). Forgets s.stored) e f) (in_put states y x h)

pub in_put_all : (states more : List State) (x : State) → Contains (put_all states more) x → Contains states x
    ⊎ Contains more x
in_put_all states [] x h = inl h
in_put_all states (y ∷ more) x h =
    ⊎_elim
    (λ (c : Contains (put states y) x). ⊎_elim (λ (d : Contains states x). inl d)
    (λ (e : y ≡ x). inr (one_in y x more e)) (in_put states y x c))
    (λ (c : Contains more x). inr (later_in y x more c))
    (in_put_all (put states y) more x h)

put_all_keeps : (states more : List State) (x : State) → Contains states x → Contains (put_all states more) x
put_all_keeps states [] x h = h
put_all_keeps states (y ∷ more) x h = put_all_keeps (put states y) more x (put_keeps states y x h)

pub put_all_has : (states more : List State) (x : State) → AllForget states → AllForget more → Contains more x
    → Contains (put_all states more) x
put_all_has states [] x forget forgets h = absurd (none_in x h)
put_all_has states (y ∷ more) x forget forgets h =
    let f : Forgets y.stored = forgets y (first_in y more) in
    ⊎_elim
    (λ (e : y ≡ x). put_all_keeps (put states y) more x (subst (Contains (put states y)) e (put_has states y forget f)))
    (λ (c : Contains more x). put_all_has (put states y) more x (put_forgets states y forget f)
    (λ z d. forgets z (later_in y z more d)) c)
    (cases_in y x more h)

stored_forgets : (stored : Stored) → Forgets (summed stored)
stored_forgets Blank = tt
stored_forgets (Broken word) = tt
stored_forgets (Journal history) = refl

pub summed_forgets : (state : State) → Forgets (summed_state state).stored
summed_forgets state = stored_forgets state.stored
