-- What was read of a list of columns, one after another.
use Rattle.std.proofs.Common.{subst, ◌≡◌, ℕ, ◌+◌, ◌<◌, List, [], ◌∷◌, ◌++◌, length, map, take, get_or, Option, Some, None, refl, sym, ap, ◌∙◌}
use Rattle.std.specs.Prelude.{All, IfSome, IsSomeAnd}
use Rattle.std.proofs.lemmas.List.{map_more, map-append}

module _ {C X : Type 0} (f : C → Option X) where
  -- one more that is read
  pub said_more : (all : List C) (i : ℕ) (c : C) (xs : List X) (x : X) → i < length all → c ≡ get_or all i c → map Some xs ≡ map f (take i all) → f c ≡ Some x → map Some (xs ++ x ∷ []) ≡ map f (take (i + 1) all)
  said_more all i c xs x inside here read is =
      map-append Some xs (x ∷ []) ∙ ap (λ l. l ++ Some x ∷ []) read
      ∙ ap (λ o. map f (take i all) ++ o ∷ []) (sym is ∙ ap f here) ∙ sym (map_more f all i c inside)

  module _ (InRange : X → Type 0) where
    -- one that isn't in range
    not_said : (o : Option X) → IfSome o (λ x. ¬ (InRange x)) → ¬ (IsSomeAnd o InRange)
    not_said None not is = is
    not_said (Some x) not is = not is

    pub not_all : (all : List C) (i : ℕ) (c : C) → i < length all → c ≡ get_or all i c → IfSome (f c) (λ x. ¬ (InRange x)) → ¬ (All (λ c. IsSomeAnd (f c) InRange) all)
    not_all all i c inside here not are = not_said (f c) not (subst (λ d. IsSomeAnd (f d) InRange) (sym here) (are i c inside))
