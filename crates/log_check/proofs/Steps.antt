-- Steps that may be asked for, runs with one step more, and what is told by a reply.
use Rattle.std.proofs.Common.{◌≡◌, ℕ, true, false, List, [], ◌∷◌, ◌++◌, length, append-nil, length-append, Option, Some, None, refl, sym, ap, subst, ◌∙◌, ⊎_elim, arith}
use Rattle.std.specs.Prelude.{is_none}
use Rattle.std.specs.List.{Contains}
use Rattle.std.specs.Str.{bytes_eq}
use Rattle.std.proofs.lemmas.Bool.{cases_Bool}
use Rattle.std.proofs.lemmas.Grind.{flat_map-append}
use Rattle.std.proofs.lemmas.Slice.Eq.{bytes_eq-Decides}
use Rattle.paygo_spec.specs.declared.Reply.{Reply}
use Rattle.paygo_spec.specs.Machine.{State, IsEvent}
use Rattle.paygo_spec.specs.Text.{text_of}
use Rattle.ledger_spec.specs.Ledger.{IsCommand}
use Rattle.run_spec.specs.Run.{Step, Say, Do, Act, Answer, World, MayAnswer, Run}
use Rattle.log_check.specs.Fits.{says, if_says}
use Rattle.log_check.specs.Logs.{texts_of, texts}
use Rattle.log_check.proofs.Alike.{heads, tails}
use Rattle.log_check.proofs.Members.{none_in}

-- A step may be asked for.
abbrev pub IsStep : Step → Type 0
IsStep (Say text) = Unit {0}
IsStep (Do command) = IsCommand command
IsStep (Act event) = IsEvent event

abbrev pub AreSteps : List Step → Type 0
AreSteps [] = Unit {0}
AreSteps (step ∷ steps) = IsStep step × AreSteps steps

-- a run with one step more, and the last step of a run
pub run_snoc : (next : List ℕ → ℕ → ℕ) (a m b : World) (steps : List Step) (answers : List (Option Answer))
    (step : Step) (answer : Option Answer) → Run next a steps answers m → MayAnswer next step answer m b
    → Run next a (steps ++ step ∷ []) (answers ++ answer ∷ []) b
run_snoc next a m b [] [] step answer h k = (b, subst (λ (w : World). MayAnswer next step answer w b) h k, refl)
run_snoc next a m b (s ∷ steps) (x ∷ answers) step answer h k =
    (h.0, h.1, run_snoc next h.0 m b steps answers step answer h.2 k)
run_snoc next a m b [] (x ∷ answers) step answer h k = absurd h
run_snoc next a m b (s ∷ steps) [] step answer h k = absurd h

pub record Last (next : List ℕ → ℕ → ℕ) (a b : World) (steps : List Step) (step : Step)
    (answers : List (Option Answer)) : Type 0 where
  pub earlier : List (Option Answer)
  pub answer : Option Answer
  pub mid : World
  pub split : answers ≡ earlier ++ answer ∷ []
  pub run : Run next a steps earlier mid
  pub may : MayAnswer next step answer mid b

-- the last answer, where there is no other
last_one : (next : List ℕ → ℕ → ℕ) (a b m : World) (step : Step) (x : Option Answer) (answers : List (Option Answer))
    → MayAnswer next step x a m → Run next m [] answers b → Last next a b [] step (x ∷ answers)
last_one next a b m step x [] h k = record {
  earlier = [];
  answer = x;
  mid = a;
  split = refl;
  run = refl;
  may = subst (λ (w : World). MayAnswer next step x a w) (sym k) h;
}
last_one next a b m step x (y ∷ answers) h k = absurd k

last_more : (next : List ℕ → ℕ → ℕ) (a b m : World) (s : Step) (steps : List Step) (step : Step) (x : Option Answer)
    (answers : List (Option Answer)) → MayAnswer next s x a m → Last next m b steps step answers
    → Last next a b (s ∷ steps) step (x ∷ answers)
last_more next a b m s steps step x answers h l = record {
  earlier = x ∷ l.earlier;
  answer = l.answer;
  mid = l.mid;
  split = ap (λ (r : List (Option Answer)). x ∷ r) l.split;
  run = (m, h, l.run);
  may = l.may;
}

pub snoc_run : (next : List ℕ → ℕ → ℕ) (a b : World) (steps : List Step) (step : Step) (answers : List (Option Answer))
    → Run next a (steps ++ step ∷ []) answers b → Last next a b steps step answers
snoc_run next a b [] step [] h = absurd h
snoc_run next a b [] step (x ∷ answers) h = last_one next a b h.0 step x answers h.1 h.2
snoc_run next a b (s ∷ steps) step [] h = absurd h
snoc_run next a b (s ∷ steps) step (x ∷ answers) h = last_more next a b h.0 s steps step x answers h.1
    (snoc_run next h.0 b steps step answers h.2)

pub texts_snoc : (answers : List (Option Answer)) (answer : Option Answer)
    → texts (answers ++ answer ∷ []) ≡ texts answers ++ texts_of answer
texts_snoc answers answer = flat_map-append texts_of answers (answer ∷ [])
    ∙ ap (λ (l : List (List ℕ)). texts answers ++ l) (append-nil (texts_of answer))

-- a list isn't as long as itself with one more
pub longer : {A : Type 0} (xs : List A) (x : A) → xs ≡ xs ++ x ∷ [] → ⊥
longer xs x e = omega (arith, ap length e, length-append xs (x ∷ []))

pub snoc_first : {A : Type 0} (xs ys : List A) (x y : A) → xs ++ x ∷ [] ≡ ys ++ y ∷ [] → (xs ≡ ys) × (x ≡ y)
snoc_first [] [] x y e = (refl, heads x y [] [] e)
snoc_first {A} (a ∷ xs) (b ∷ ys) x y e =
    let r = snoc_first xs ys x y (tails a b (xs ++ x ∷ []) (ys ++ y ∷ []) e) in
    (ap (λ (c : A). c ∷ xs) (heads a b (xs ++ x ∷ []) (ys ++ y ∷ []) e) ∙ ap (λ (l : List A). b ∷ l) r.0, r.1)
snoc_first [] (b ∷ ys) x y e = absurd (omega (arith, ap length e, length-append ys (y ∷ [])))
snoc_first (a ∷ xs) [] x y e = absurd (omega (arith, ap length e, length-append xs (x ∷ [])))

pub none_is : (reply : Option Reply) → is_none reply ≡ true → reply ≡ None
none_is None h = refl
none_is (Some reply) h = absurd cc

pub says_is : (text : List ℕ) (reply : Option Reply) → says text reply ≡ true → (r : Reply) × (reply ≡ Some r)
    × (text_of r ≡ text)
says_is text None h = absurd cc
says_is text (Some reply) h = (reply, refl, (bytes_eq-Decides (text_of reply) text).0 h)

-- a text that is said, and states that say it
pub if_in_text : (said text : List ℕ) (states : List State) (x : State) → Contains (if_says said text states) x
    → (said ≡ text) × Contains states x
if_in_text said text states x h =
    ⊎_elim (λ (t : bytes_eq said text ≡ true). let h' : Contains states x = rw t at h in
    ((bytes_eq-Decides said text).0 t, h'))
    (λ (t : bytes_eq said text ≡ false). let h' : Contains [] x = rw t at h in absurd (none_in x h'))
    (cases_Bool (bytes_eq said text))
