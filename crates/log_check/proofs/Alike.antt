-- Two runs over the same steps whose answers have the same texts so far are alike: as many steps were answered, and the
-- device is on in both or in neither.
use Rattle.std.proofs.Common.{◌≡◌, ℕ, Bool, true, false, ◌==◌, ◌&&◌, List, [], ◌∷◌, ◌++◌, get_or, drop, append_assoc, Option, Some, None, refl, sym, ap, ◌∙◌, inl, inr, ◌⊎◌, ⊎_elim, arith}
use Rattle.std.specs.Prelude.{is_some, codes}
use Rattle.std.proofs.lemmas.Bool.Decides.{nat_tests}
use Rattle.paygo_spec.specs.declared.Event.{Event}
use Rattle.paygo_spec.specs.declared.Event.TheVariants.{Power, Make, Key, Tick, Show, Raise}
use Rattle.paygo_spec.specs.declared.Reply.{Reply}
use Rattle.paygo_spec.specs.declared.Reply.TheVariants.{Set, Added, Free, Synced, Old, Invalid, Blocked, Length, Digits, Worn, Down, Up, Ticked, Unmade, Made, Damaged, Shown, Raised}
use Rattle.paygo_spec.specs.Machine.{State}
use Rattle.paygo_spec.specs.Text.{text_of}
use Rattle.ledger_spec.specs.AnswerText.{text_of_answer}
use Rattle.run_spec.specs.Run.{Step, Say, Do, Act, Answer, Said, Did, Told, World, MayAnswer, Run}
use Rattle.log_check.specs.Fits.{has_reply}
use Rattle.log_check.specs.Logs.{texts_of, texts}
use Rattle.log_check.proofs.Replying.{on_after, Answering, acts_answering}

-- Two texts are not one where their second letters differ.
abbrev second : List ℕ → ℕ
second text = get_or text 1 0

abbrev first : List ℕ → ℕ
first text = get_or text 0 0

other : (a b : ℕ) → a ≡ b → (a == b) ≡ false → ⊥
other a b e h = grind (arith, nat_tests)

-- the text `down` is that of one reply
pub down_text : (reply : Reply) (on : Bool) → text_of reply ≡ codes "down" → on_after (Some reply) on ≡ false
down_text Down on e = refl
down_text (Set count value left) on e = absurd (other 101 111 (ap second e) refl)
down_text (Added count value left true) on e = absurd (other 100 111 (ap second e) refl)
down_text (Added count value left false) on e = absurd (other 100 111 (ap second e) refl)
down_text (Free count) on e = absurd (other 114 111 (ap second e) refl)
down_text (Synced count) on e = absurd (other 121 111 (ap second e) refl)
down_text Old on e = absurd (other 108 111 (ap second e) refl)
down_text (Invalid block) on e = absurd (other 110 111 (ap second e) refl)
down_text (Blocked block) on e = absurd (other 108 111 (ap second e) refl)
down_text (Length n) on e = absurd (other 101 111 (ap second e) refl)
down_text (Digits place) on e = absurd (other 105 111 (ap second e) refl)
down_text Worn on e = absurd (other 119 100 (ap first e) refl)
down_text Raised on e = absurd (other 97 111 (ap second e) refl)
down_text (Up count left true block) on e = absurd (other 112 111 (ap second e) refl)
down_text (Up count left false block) on e = absurd (other 112 111 (ap second e) refl)
down_text (Ticked left true block) on e = absurd (other 105 111 (ap second e) refl)
down_text (Ticked left false block) on e = absurd (other 105 111 (ap second e) refl)
down_text Unmade on e = absurd (other 110 111 (ap second e) refl)
down_text (Made number) on e = absurd (other 97 111 (ap second e) refl)
down_text (Damaged place) on e = absurd (other 97 111 (ap second e) refl)
down_text (Shown count left true fails block held room) on e = absurd (other 104 111 (ap second e) refl)
down_text (Shown count left false fails block held room) on e = absurd (other 104 111 (ap second e) refl)

is_down : Reply → Bool
is_down Down = true
is_down _ = false

-- a reply is `down`, or leaves the device on
abbrev pub Either : Reply → Type 0
Either reply = (text_of reply ≡ codes "down") ⊎ ((on : Bool) → on_after (Some reply) on ≡ true)

pub either : (reply : Reply) → Either reply
either Down = inl refl
either _ = inr (λ on. refl)

pub same_text_on : (a b : Reply) (on : Bool) → text_of a ≡ text_of b → on_after (Some a) on ≡ on_after (Some b) on
same_text_on a b on e =
    ⊎_elim (λ (d : text_of a ≡ codes "down"). down_text a on d ∙ sym (down_text b on (sym e ∙ d)))
    (λ (u : (on : Bool) → on_after (Some a) on ≡ true).
    ⊎_elim (λ (d : text_of b ≡ codes "down"). down_text a on (e ∙ d) ∙ sym (down_text b on d))
    (λ (v : (on : Bool) → on_after (Some b) on ≡ true). u on ∙ sym (v on)) (either b))
    (either a)

pub has_reply_on : (event : Event) (a b : State) → a.on ≡ b.on → has_reply event a ≡ has_reply event b
has_reply_on Power a b e = refl
has_reply_on (Make config) a b e = e
has_reply_on (Key key) a b e = ap (λ (x : Bool). x && (key == 35)) e
has_reply_on (Tick seconds) a b e = e
has_reply_on Show a b e = e
has_reply_on Raise a b e = e

pub heads : {A : Type 0} (x y : A) (xs ys : List A) → x ∷ xs ≡ y ∷ ys → x ≡ y
heads {A} x y xs ys e = ap (λ (l : List A). get_or l 0 x) e

pub tails : {A : Type 0} (x y : A) (xs ys : List A) → x ∷ xs ≡ y ∷ ys → xs ≡ ys
tails {A} x y xs ys e = ap (λ (l : List A). drop 1 l) e

-- After an answer: as many texts, the same ones behind them, and the device on in both or in neither.
pub record Alike (x y : Option Answer) (u v : List (List ℕ)) (a b : World) : Type 0 where
  pub texts_same : texts_of x ≡ texts_of y
  pub rest_same : u ≡ v
  pub on_same : a.device.on ≡ b.device.on

told_alike : (event : Event) (x y : Option Reply) (old old' new new' : State) → old.on ≡ old'.on
    → Answering event x old new → Answering event y old' new'
    → is_some x ≡ is_some y
told_alike event x y old old' new new' same h k = h.0 ∙ has_reply_on event old old' same ∙ sym k.0

module _ (next : List ℕ → ℕ → ℕ) (u v : List (List ℕ)) (a b m n : World) (same : a.device.on ≡ b.device.on) where
  step_alike : (step : Step) (x y : Option Answer) → MayAnswer next step x a m → MayAnswer next step y b n
      → texts_of x ++ u ≡ texts_of y ++ v → Alike x y u v m n
  step_alike (Say text) (Some (Said s)) (Some (Said t)) h k e = record {
    texts_same = ap (λ (l : List ℕ). l ∷ []) (h.0 ∙ sym k.0);
    rest_same = tails s t u v e;
    on_same = ap (λ (w : World). w.device.on) h.1 ∙ same ∙ sym (ap (λ (w : World). w.device.on) k.1);
  }
  step_alike (Do command) (Some (Did s)) (Some (Did t)) h k e = record {
    texts_same = ap (λ (l : List ℕ). l ∷ []) (heads (text_of_answer s) (text_of_answer t) u v e);
    rest_same = tails (text_of_answer s) (text_of_answer t) u v e;
    on_same = ap (λ (w : State). w.on) h.1 ∙ same ∙ sym (ap (λ (w : State). w.on) k.1);
  }
  step_alike (Act event) None None h k e = record {
    texts_same = refl;
    rest_same = e;
    on_same = (acts_answering next event None a.device m.device h.0.1).1 ∙ same
        ∙ sym (acts_answering next event None b.device n.device k.0.1).1;
  }
  step_alike (Act event) (Some (Told s)) (Some (Told t)) h k e = record {
    texts_same = ap (λ (l : List ℕ). l ∷ []) (heads (text_of s) (text_of t) u v e);
    rest_same = tails (text_of s) (text_of t) u v e;
    on_same =
        (acts_answering next event (Some s) a.device m.device h.0.1).1
        ∙ same_text_on s t a.device.on (heads (text_of s) (text_of t) u v e)
        ∙ ap (on_after (Some t)) same
        ∙ sym (acts_answering next event (Some t) b.device n.device k.0.1).1;
  }
  step_alike (Act event) None (Some (Told t)) h k e =
      let q : false ≡ true = told_alike event None (Some t) a.device b.device m.device n.device same
      (acts_answering next event None a.device m.device h.0.1)
      (acts_answering next event (Some t) b.device n.device k.0.1) in absurd cc
  step_alike (Act event) (Some (Told s)) None h k e =
      let q : true ≡ false = told_alike event (Some s) None a.device b.device m.device n.device same
      (acts_answering next event (Some s) a.device m.device h.0.1)
      (acts_answering next event None b.device n.device k.0.1) in absurd cc
  step_alike (Say text) (Some (Said s)) y h k e = absurd k
  step_alike (Do command) (Some (Did s)) y h k e = absurd k
  step_alike (Act event) None y h k e = absurd k
  step_alike (Act event) (Some (Told s)) y h k e = absurd k
  step_alike step x y h k e = absurd h

-- what is told by answers, joined with what is told behind them
texts_more : (x : Option Answer) (answers : List (Option Answer)) (u : List (List ℕ))
    → texts (x ∷ answers) ++ u ≡ texts_of x ++ (texts answers ++ u)
texts_more x answers u = append_assoc (texts_of x) (texts answers) u

pub runs_alike : (next : List ℕ → ℕ → ℕ) (steps : List Step) (xs ys : List (Option Answer)) (u v : List (List ℕ))
    (a b m n : World) → a.device.on ≡ b.device.on
    → Run next a steps xs m → Run next b steps ys n → texts xs ++ u ≡ texts ys ++ v → (texts xs ≡ texts ys)
    × (m.device.on ≡ n.device.on)
runs_alike next [] [] [] u v a b m n same h k e =
    (refl, ap (λ (w : World). w.device.on) h ∙ same ∙ sym (ap (λ (w : World). w.device.on) k))
runs_alike next (step ∷ steps) (x ∷ xs) (y ∷ ys) u v a b m n same h k e =
    let one = step_alike next (texts xs ++ u) (texts ys ++ v) a b h.0 k.0 same step x y h.1 k.1 (sym (texts_more x xs u)
    ∙ e ∙ texts_more y ys v) in
    let rest = runs_alike next steps xs ys u v h.0 k.0 m n one.on_same h.2 k.2 one.rest_same in (
      ap (λ (l : List (List ℕ)). l ++ texts xs) one.texts_same
          ∙ ap (λ (l : List (List ℕ)). texts_of y ++ l) rest.0,
      rest.1,
    )
runs_alike next [] (x ∷ xs) ys u v a b m n same h k e = absurd h
runs_alike next [] [] (y ∷ ys) u v a b m n same h k e = absurd k
runs_alike next (step ∷ steps) [] ys u v a b m n same h k e = absurd h
runs_alike next (step ∷ steps) (x ∷ xs) [] u v a b m n same h k e = absurd k
