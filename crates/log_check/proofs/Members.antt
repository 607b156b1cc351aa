-- What is an element of a list made by `∷`, `++`, `map`, `flat_map` and `filter`.
use Rattle.std.proofs.Common.{◌≡◌, ℕ, zero, suc, ◌<◌, Bool, true, false, List, [], ◌∷◌, length, map, refl, sym, ap, subst, ◌∙◌, inl, inr, ◌⊎◌, ⊎_elim, arith}
use Rattle.std.specs.Prelude.{slice_index_or}
use Rattle.std.specs.List.{Contains, filter, flat_map}
use Rattle.std.proofs.lemmas.Bool.{cases_Bool}
use Rattle.std.proofs.lemmas.List.Elements.{Contains-append_left, Contains-append_right, Contains-append_cases}

pub none_in : {X : Type 0} (x : X) → Contains [] x → ⊥
none_in x h = omega (arith, h.1)

pub first_in : {X : Type 0} (x : X) (xs : List X) → Contains (x ∷ xs) x
first_in x xs = (0, omega arith, refl)

pub one_in : {X : Type 0} (y x : X) (xs : List X) → y ≡ x → Contains (y ∷ xs) x
one_in y x xs e = subst (λ z. Contains (y ∷ xs) z) e (first_in y xs)

pub later_in : {X : Type 0} (y x : X) (xs : List X) → Contains xs x → Contains (y ∷ xs) x
later_in y x xs h = (suc h.0, omega (arith, h.1), h.2)

at_cases : {X : Type 0} (y x : X) (xs : List X) (k : ℕ) → k < length (y ∷ xs) → slice_index_or (y ∷ xs) k x ≡ x
    → (y ≡ x) ⊎ Contains xs x
at_cases y x xs zero l e = inl e
at_cases y x xs (suc k) l e = inr (k, omega (arith, l), e)

pub cases_in : {X : Type 0} (y x : X) (xs : List X) → Contains (y ∷ xs) x → (y ≡ x) ⊎ Contains xs x
cases_in y x xs h = at_cases y x xs h.0 h.1 h.2

pub in_one : {X : Type 0} (y x : X) → Contains (y ∷ []) x → y ≡ x
in_one y x h = ⊎_elim (λ (e : y ≡ x). e) (λ (c : Contains [] x). absurd (none_in x c)) (cases_in y x [] h)

pub map_in : {X Y : Type 0} (f : X → Y) (xs : List X) (x : X) → Contains xs x → Contains (map f xs) (f x)
map_in f [] x h = absurd (none_in x h)
map_in f (y ∷ xs) x h = ⊎_elim (λ (e : y ≡ x). one_in (f y) (f x) (map f xs) (ap f e))
    (λ (c : Contains xs x). later_in (f y) (f x) (map f xs) (map_in f xs x c)) (cases_in y x xs h)

pub in_map : {X Y : Type 0} (f : X → Y) (xs : List X) (y : Y) → Contains (map f xs) y → (x : X) × Contains xs x
    × (f x ≡ y)
in_map f [] y h = absurd (none_in y h)
in_map {X} f (x ∷ xs) y h =
    ⊎_elim (λ (e : f x ≡ y). (x, first_in x xs, e))
    (λ (c : Contains (map f xs) y). let r = in_map f xs y c in (r.0, later_in x r.0 xs r.1, r.2))
    (cases_in (f x) y (map f xs) h)

pub flat_in : {X Y : Type 0} (f : X → List Y) (xs : List X) (x : X) (y : Y) → Contains xs x → Contains (f x) y
    → Contains (flat_map f xs) y
flat_in f [] x y h i = absurd (none_in x h)
flat_in f (z ∷ xs) x y h i =
    ⊎_elim (λ (e : z ≡ x). Contains-append_left (f z) (flat_map f xs) y (subst (λ w. Contains (f w) y) (sym e) i))
    (λ (c : Contains xs x). Contains-append_right (f z) (flat_map f xs) y (flat_in f xs x y c i))
    (cases_in z x xs h)

pub in_flat : {X Y : Type 0} (f : X → List Y) (xs : List X) (y : Y) → Contains (flat_map f xs) y → (x : X)
    × Contains xs x × Contains (f x) y
in_flat f [] y h = absurd (none_in y h)
in_flat f (x ∷ xs) y h =
    ⊎_elim (λ (c : Contains (f x) y). (x, first_in x xs, c))
    (λ (c : Contains (flat_map f xs) y). let r = in_flat f xs y c in (r.0, later_in x r.0 xs r.1, r.2))
    (Contains-append_cases (f x) (flat_map f xs) y h)

pub filter_in : {X : Type 0} (test : X → Bool) (xs : List X) (x : X) → Contains xs x → test x ≡ true
    → Contains (filter test xs) x
filter_in test [] x h t = absurd (none_in x h)
filter_in test (y ∷ xs) x h t =
    ⊎_elim
    (λ (e : y ≡ x). let t' : test y ≡ true = ap test e ∙ t in rw t' (one_in y x (filter test xs) e))
    (λ (c : Contains xs x). ⊎_elim
    (λ (a : test y ≡ true). rw a (later_in y x (filter test xs) (filter_in test xs x c t)))
    (λ (a : test y ≡ false). rw a (filter_in test xs x c t))
    (cases_Bool (test y)))
    (cases_in y x xs h)

pub in_filter : {X : Type 0} (test : X → Bool) (xs : List X) (x : X) → Contains (filter test xs) x → Contains xs x
    × (test x ≡ true)
in_filter test [] x h = absurd (none_in x h)
in_filter test (y ∷ xs) x h =
    ⊎_elim
    (λ (a : test y ≡ true).
    let h' : Contains (y ∷ filter test xs) x = rw a at h in
    ⊎_elim (λ (e : y ≡ x). (one_in y x xs e, subst (λ w. test w ≡ true) e a))
    (λ (c : Contains (filter test xs) x). let r = in_filter test xs x c in (later_in y x xs r.0, r.1))
    (cases_in y x (filter test xs) h'))
    (λ (a : test y ≡ false). let h' : Contains (filter test xs) x = rw a at h in let r = in_filter test xs x h' in
    (later_in y x xs r.0, r.1))
    (cases_Bool (test y))
