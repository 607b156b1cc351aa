-- What becomes of the words of a flash, where they are told.
use Rattle.std.proofs.Common.{◌≡◌, ℕ, List, Option, Some, None, IfSome, Result, Ok, Err, subst, sym}
use Rattle.std.specs.Prelude.{OnOk, OnErr}
use Rattle.std.specs.Option.{option_map}
use Rattle.paygo_spec.specs.Flash.{Becomes}

-- the words were changed
pub told_change : (P : List ℕ → Type 0) (Q : List ℕ → List ℕ → Type 0) (change : List ℕ → List ℕ) (o n : Option (List ℕ)) → IfSome o P → n ≡ option_map change o → ((a : List ℕ) → P a → Q a (change a)) → Becomes Q o n
told_change P Q change None None p e f = tt
told_change P Q change None (Some b) p e f = cc
told_change P Q change (Some a) None p e f = cc
told_change P Q change (Some a) (Some b) p e f = let z : b ≡ change a = cc in subst (λ x. Q a x) (sym z) (f a p)

-- a call was cut off
pub told_cut : (P V : List ℕ → Type 0) (R Q : List ℕ → List ℕ → Type 0) (o n : Option (List ℕ)) → IfSome o P → IfSome n V → Becomes R o n → ((a b : List ℕ) → P a → V b → R a b → Q a b) → Becomes Q o n
told_cut P V R Q None None p v r f = tt
told_cut P V R Q None (Some b) p v r f = absurd r
told_cut P V R Q (Some a) None p v r f = absurd r
told_cut P V R Q (Some a) (Some b) p v r f = f a b p v r

-- the words were changed once more
pub told_more : (V : List ℕ → Type 0) (R T : List ℕ → List ℕ → Type 0) (change : List ℕ → List ℕ) (o m n : Option (List ℕ)) → Becomes R o m → IfSome m V → n ≡ option_map change m → ((a b : List ℕ) → R a b → V b → T a (change b)) → Becomes T o n
told_more V R T change None None None r v e f = tt
told_more V R T change None None (Some c) r v e f = cc
told_more V R T change None (Some b) n r v e f = absurd r
told_more V R T change (Some a) None n r v e f = absurd r
told_more V R T change (Some a) (Some b) None r v e f = cc
told_more V R T change (Some a) (Some b) (Some c) r v e f = let z : c ≡ change b = cc in subst (λ x. T a x) (sym z) (f a b r v)

-- what was known of the words before
pub told_with : (P : List ℕ → Type 0) (R : List ℕ → List ℕ → Type 0) (o n : Option (List ℕ)) → IfSome o P → Becomes R o n → Becomes (λ a b. P a × R a b) o n
told_with P R None None p r = tt
told_with P R None (Some b) p r = absurd r
told_with P R (Some a) None p r = absurd r
told_with P R (Some a) (Some b) p r = (p, r)

-- a call was cut off after they were changed
pub told_more_cut : (V W : List ℕ → Type 0) (R S T : List ℕ → List ℕ → Type 0) (o m n : Option (List ℕ)) → Becomes R o m → IfSome m V → IfSome n W → Becomes S m n → ((a b c : List ℕ) → R a b → V b → W c → S b c → T a c) → Becomes T o n
told_more_cut V W R S T None None None r v w s f = tt
told_more_cut V W R S T None None (Some c) r v w s f = absurd s
told_more_cut V W R S T None (Some b) n r v w s f = absurd r
told_more_cut V W R S T (Some a) None n r v w s f = absurd r
told_more_cut V W R S T (Some a) (Some b) None r v w s f = absurd s
told_more_cut V W R S T (Some a) (Some b) (Some c) r v w s f = f a b c r v w s

-- more became of them
pub told_then : (R S T : List ℕ → List ℕ → Type 0) (o m n : Option (List ℕ)) → Becomes R o m → Becomes S m n → ((a b c : List ℕ) → R a b → S b c → T a c) → Becomes T o n
told_then R S T None None None r s f = tt
told_then R S T None None (Some c) r s f = absurd s
told_then R S T None (Some b) n r s f = absurd r
told_then R S T (Some a) None n r s f = absurd r
told_then R S T (Some a) (Some b) None r s f = absurd s
told_then R S T (Some a) (Some b) (Some c) r s f = f a b c r s

-- what is known of the words then
pub told_now : (R : List ℕ → List ℕ → Type 0) (V : List ℕ → Type 0) (o n : Option (List ℕ)) → Becomes R o n → ((a b : List ℕ) → R a b → V b) → IfSome n V
told_now R V None None r f = tt
told_now R V None (Some b) r f = absurd r
told_now R V (Some a) None r f = tt
told_now R V (Some a) (Some b) r f = f a b r

-- both
pub told_both : (P V : List ℕ → Type 0) (o : Option (List ℕ)) → IfSome o P → IfSome o V → IfSome o (λ ws. P ws × V ws)
told_both P V None p v = tt
told_both P V (Some a) p v = (p, v)

pub told_all : (P V : List ℕ → Type 0) (o : Option (List ℕ)) → IfSome o P → ((ws : List ℕ) → P ws → V ws) → IfSome o V
told_all P V None p f = tt
told_all P V (Some a) p f = f a p

-- what holds where a call answers Ok, and where it doesn't
pub on_ok : {T E : Type 0} (r : Result T E) (P V : Type 0) → OnOk r P → (P → V) → OnOk r V
on_ok (Ok v) P V p f = f p
on_ok (Err e) P V p f = tt

pub on_err : {T E : Type 0} (r : Result T E) (P V : Type 0) → OnErr r P → (P → V) → OnErr r V
on_err (Ok v) P V p f = tt
on_err (Err e) P V p f = f p

-- a fact holds wherever a call doesn't answer Ok
pub any_err : {T E : Type 0} (r : Result T E) (P : Type 0) → P → OnErr r P
any_err (Ok v) P p = tt
any_err (Err e) P p = p
