-- What a reply of the device says and tells, as a move of the deal.
use Rattle.std.proofs.Common.{◌≡◌, ℕ, ◌^◌, ◌<◌, ◌==◌, nat_le, IsSome, true, false, List, Option, Some, None, refl, ap, ⊎_elim, arith, eqb-true}
use Rattle.std.proofs.lemmas.Bool.{cases_Bool}
use Rattle.paygo_spec.specs.declared.Entry.{Entry}
use Rattle.paygo_spec.specs.declared.Entry.TheVariants as entry_is
use Rattle.paygo_spec.specs.declared.Form.{Form}
use Rattle.paygo_spec.specs.declared.Form.TheVariants.{Nine, Fifteen}
use Rattle.paygo_spec.specs.declared.Reply.{Reply}
use Rattle.paygo_spec.specs.declared.TokenKind.{TokenKind}
use Rattle.paygo_spec.specs.declared.TokenKind.TheVariants as kind_is
use Rattle.paygo_spec.specs.Clock.{ClockView}
use Rattle.paygo_spec.specs.Digits.{token_limit}
use Rattle.paygo_spec.specs.History.{kind_of}
use Rattle.paygo_spec.specs.Machine.{reply_to_token, reply_to_entry}
use Rattle.deal_spec.specs.Deal.{Item, Accepted, Move, Counts, Idle, clock, is_odd, newest, Clock}
use Rattle.deal_laws.specs.Meaning.{IsReplied, Tells}
use Rattle.deal_laws.proofs.Books.{view}

-- The move of a reply, or of none, and what it tells.
abbrev pub IsReplyOf : List Item → Option Reply → Move → Type 0
IsReplyOf book None move = move ≡ Idle
IsReplyOf book (Some reply) move = IsReplied book reply move

abbrev pub TellsOf : Clock → ℕ → Option Reply → Type 0
TellsOf clock newest None = Unit {0}
TellsOf clock newest (Some reply) = Tells clock newest reply

pub fits_form : (form : Form) (token : ℕ) → token < 10 ^ 9 → token < token_limit form
fits_form Nine token small = small
fits_form Fifteen token small = omega arith

-- what is said of an entry is the clock's
kind_tells : (kind : Option TokenKind) (n v : ℕ) (c : Clock) (count : ℕ) → Tells c count (reply_to_token kind n v (view c))
kind_tells (Some kind_is.Add) n v c count = (refl, refl)
kind_tells (Some kind_is.Set) n v c count = refl
kind_tells (Some kind_is.Free) n v c count = tt
kind_tells (Some kind_is.Sync) n v c count = tt
kind_tells None n v c count = tt

pub entry_tells : (entry : Entry) (c : Clock) (count : ℕ) → Tells c count (reply_to_entry entry (view c))
entry_tells (entry_is.Accept n v) c count = kind_tells (kind_of n v) n v c count
entry_tells entry_is.Bad c count = refl
entry_tells (entry_is.Elapsed s) c count = (refl, refl, refl)
entry_tells entry_is.Raised c count = tt

-- the reply to an accepted token says its count and its value
says_free : (n v : ℕ) → kind_of n v ≡ Some kind_is.Free → v ≡ 998
says_free n v e =
    ⊎_elim
    (λ (h : nat_le v 995 ≡ true). ⊎_elim
    (λ (o : is_odd n ≡ true). let bad : Some kind_is.Set ≡ Some kind_is.Free = rw (h, o) at e in cc)
    (λ (o : is_odd n ≡ false). let bad : Some kind_is.Add ≡ Some kind_is.Free = rw (h, o) at e in cc)
    (cases_Bool (is_odd n)))
    (λ (h : nat_le v 995 ≡ false). ⊎_elim
    (λ (o : is_odd n ≡ true). ⊎_elim
    (λ (a : (v == 998) ≡ true). eqb-true v 998 a)
    (λ (a : (v == 998) ≡ false). ⊎_elim
    (λ (b : (v == 999) ≡ true). let bad : Some kind_is.Sync ≡ Some kind_is.Free = rw (h, o, a, b) at e in cc)
    (λ (b : (v == 999) ≡ false). let bad : None ≡ Some kind_is.Free = rw (h, o, a, b) at e in cc)
    (cases_Bool (v == 999)))
    (cases_Bool (v == 998)))
    (λ (o : is_odd n ≡ false). let bad : None ≡ Some kind_is.Free = rw (h, o) at e in cc)
    (cases_Bool (is_odd n)))
    (cases_Bool (nat_le v 995))

says_sync : (n v : ℕ) → kind_of n v ≡ Some kind_is.Sync → v ≡ 999
says_sync n v e =
    ⊎_elim
    (λ (h : nat_le v 995 ≡ true). ⊎_elim
    (λ (o : is_odd n ≡ true). let bad : Some kind_is.Set ≡ Some kind_is.Sync = rw (h, o) at e in cc)
    (λ (o : is_odd n ≡ false). let bad : Some kind_is.Add ≡ Some kind_is.Sync = rw (h, o) at e in cc)
    (cases_Bool (is_odd n)))
    (λ (h : nat_le v 995 ≡ false). ⊎_elim
    (λ (o : is_odd n ≡ true). ⊎_elim
    (λ (a : (v == 998) ≡ true). let bad : Some kind_is.Free ≡ Some kind_is.Sync = rw (h, o, a) at e in cc)
    (λ (a : (v == 998) ≡ false). ⊎_elim
    (λ (b : (v == 999) ≡ true). eqb-true v 999 b)
    (λ (b : (v == 999) ≡ false). let bad : None ≡ Some kind_is.Sync = rw (h, o, a, b) at e in cc)
    (cases_Bool (v == 999)))
    (cases_Bool (v == 998)))
    (λ (o : is_odd n ≡ false). let bad : None ≡ Some kind_is.Sync = rw (h, o) at e in cc)
    (cases_Bool (is_odd n)))
    (cases_Bool (nat_le v 995))

accepted_kind : (book : List Item) (kind : Option TokenKind) (n v t : ℕ) (c : ClockView) → kind_of n v ≡ kind → IsSome kind → IsReplied book (reply_to_token kind n v c) (Counts (Accepted n v t))
accepted_kind book (Some kind_is.Add) n v t c is some = (t, refl)
accepted_kind book (Some kind_is.Set) n v t c is some = (t, refl)
accepted_kind book (Some kind_is.Free) n v t c is some = (t, ap (λ w. Counts (Accepted n w t)) (says_free n v is))
accepted_kind book (Some kind_is.Sync) n v t c is some = (t, ap (λ w. Counts (Accepted n w t)) (says_sync n v is))
accepted_kind book None n v t c is some = absurd (let bad : false ≡ true = some in cc)

pub accepted_reply : (book : List Item) (n v t : ℕ) (c : ClockView) → IsSome (kind_of n v) → IsReplied book (reply_to_token (kind_of n v) n v c) (Counts (Accepted n v t))
accepted_reply book n v t c some = accepted_kind book (kind_of n v) n v t c refl some
