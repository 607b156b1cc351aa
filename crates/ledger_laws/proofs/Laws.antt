-- The laws of the ledger, as the public functions state them.
use Rattle.std.proofs.Common.{◌≡◌, ℕ, zero, suc, ◌+◌, ◌*◌, ◌/◌, ◌%◌, ◌<◌, ◌≤◌, List, [], ◌∷◌, Bool, true, false, max, not, ◌||◌, inl, inr, Option, Some, None, Result, Ok, Err, refl, sym, ap, subst, ◌∙◌, ◌⊎◌, add-one, nat_eq, nat_lt, arith}
use Rattle.std.specs.Prelude.{IfSome}
use Rattle.std.specs.Result.{result_ok}
use Rattle.std.proofs.lemmas.Bool.{eqb-true, eq-eqb, ltb-true, ltb-false}
use Rattle.paygo_spec.specs.declared.TheConstants.{LAST}
use Rattle.paygo_spec.specs.Chain.{token_at, code_from, first_code, with_base}
use Rattle.paygo_spec.specs.Searched.{IsClean}
use Rattle.ledger_spec.specs.declared.Row.{Row}
use Rattle.ledger_spec.specs.declared.Order.{Order}
use Rattle.ledger_spec.specs.declared.Answer.{Answer}
use Rattle.ledger_spec.specs.declared.LedgerFault.{LedgerFault}
use Rattle.ledger_spec.specs.declared.LedgerFault.TheVariants.{Keeper, Memory}
use Rattle.ledger_spec.specs.declared.Command.{Command}
use Rattle.ledger_spec.specs.Tables.{Tables, no_tables, row_of, order_of, Kept}
use Rattle.ledger_spec.specs.Issuing.{is_clean, stands_alone, differs}
use Rattle.ledger_spec.specs.Keeper.{KeeperView}
use Rattle.ledger_spec.specs.Applied.{Applies, AppliedTo}
use Rattle.ledger_spec.specs.Ledger.{done, IsCommand}
use Rattle.ledger_spec.proofs.Alone.{alone_says, alone_none, alone_more}
use Rattle.ledger_spec.proofs.KeptLemmas.{some_is, order_kept}
use Rattle.ledger_spec.specs.Sound.{StaysBelow, Sound}
use Rattle.ledger_laws.specs.Later.{GoesOn, Later, Asked, Runs}
use Rattle.ledger_laws.proofs.LaterLemmas.{done_well, run_well}
use Rattle.ledger_laws.proofs.Retries.{found_id}
use Rattle.ledger_laws.proofs.SoundLemmas.{sound_done}

-- tables with nothing in them are sound
pub empty_sound : (next : List ℕ → ℕ → ℕ) → Sound next no_tables
empty_sound next = record {
  kept = record { rows = tt; orders = tt; changes = tt };
  issued = λ id order row is own. cc;
  counts = λ id other order second is too same count. cc;
  replayed = λ serial row is. cc;
}

-- a command leaves sound tables sound
pub command_sound : (next : List ℕ → ℕ → ℕ) → StaysBelow next → (t : Tables) (command : Command) → IsCommand command → Sound next t → Sound next (done next t command).tables
command_sound next below t command may sound = sound_done next below t command sound may

-- and tables in order in order, with all that there was
pub command_keeps : (next : List ℕ → ℕ → ℕ) → StaysBelow next → (t : Tables) (command : Command) → IsCommand command → Kept t → Kept (done next t command).tables × Later t (done next t command).tables
command_keeps next below t command may kept = let well = done_well next below t command kept may in (well.kept, well.later)

-- an order stays, and so does what its device was enrolled with
pub order_stays_kept : (next : List ℕ → ℕ → ℕ) → StaysBelow next → (t : Tables) (command : Command) → IsCommand command → Kept t → (id : List ℕ) (order : Order) (row : Row) → order_of t id ≡ Some order → row_of t order.serial ≡ Some row
    → (order_of (done next t command).tables id ≡ Some order) × ((now : Row) × (row_of (done next t command).tables order.serial ≡ Some now) × GoesOn row now)
order_stays_kept next below t command may kept id order row is own =
    let well = done_well next below t command kept may in
    (well.later.orders id order is, well.later.rows order.serial row own)

one_order : (a b : Order) → Some a ≡ Some b → a ≡ b
one_order a b is = cc

-- two orders with one id are one
pub one_of_id : (t : Tables) (id other : List ℕ) (order second : Order) → order_of t id ≡ Some order → order_of t other ≡ Some second → order.id ≡ second.id → order ≡ second
one_of_id t id other order second is too same =
    let ids : id ≡ other = sym (found_id t.orders id order is) ∙ same ∙ found_id t.orders other second too in
    one_order order second (sym is ∙ ap (λ i. order_of t i) ids ∙ too)

pub runs_keep : (next : List ℕ → ℕ → ℕ) → StaysBelow next → (old new : Tables) (commands : List Command) (answers : List (Option Answer)) → Kept old → Runs next old commands answers new → Kept new × Later old new
runs_keep next below old new commands answers kept runs = let well = run_well next below commands answers old new kept runs in (well.kept, well.later)

asked_sound : (next : List ℕ → ℕ → ℕ) → StaysBelow next → (t new : Tables) (command : Command) (answer : Option Answer) → Sound next t → IsCommand command → Asked next t command answer new → Sound next new
asked_sound next below t new command answer sound may (inl whole) = subst (λ (u : Tables). Sound next u) (sym whole.1) (sound_done next below t command sound may)
asked_sound next below t new command answer sound may (inr (none, inl same)) = subst (λ (u : Tables). Sound next u) (sym same) sound
asked_sound next below t new command answer sound may (inr (none, inr whole)) = subst (λ (u : Tables). Sound next u) (sym whole) (sound_done next below t command sound may)

run_sound : (next : List ℕ → ℕ → ℕ) → StaysBelow next → (commands : List Command) (answers : List (Option Answer)) (old new : Tables) → Sound next old → Runs next old commands answers new → Sound next new
run_sound next below [] [] old new sound runs = subst (λ (u : Tables). Sound next u) (sym runs) sound
run_sound next below [] (answer ∷ answers) old new sound runs = absurd runs
run_sound next below (command ∷ commands) [] old new sound runs = absurd runs
run_sound next below (command ∷ commands) (answer ∷ answers) old new sound runs = run_sound next below commands answers runs.0 new (asked_sound next below old runs.0 command answer sound runs.1 runs.2) runs.3

pub runs_sound : (next : List ℕ → ℕ → ℕ) → StaysBelow next → (old new : Tables) (commands : List Command) (answers : List (Option Answer)) → Sound next old → Runs next old commands answers new → Sound next new
runs_sound next below old new commands answers sound runs = run_sound next below commands answers old new sound runs

told_sound : (next : List ℕ → ℕ → ℕ) → StaysBelow next → (command : Command) (result : Result Answer LedgerFault) (old new : Option Tables) → IsCommand command → IfSome old (Sound next) → AppliedTo (λ t. done next t command) result old new → IfSome new (Sound next)
told_sound next below command (Ok answer) None new may sound applied = subst (λ (o : Option Tables). IfSome o (Sound next)) (sym applied.1) tt
told_sound next below command (Ok answer) (Some t) new may sound applied = subst (λ (o : Option Tables). IfSome o (Sound next)) (sym applied.1) (sound_done next below t command sound may)
told_sound next below command (Err Keeper) old new may sound (inl same) = subst (λ (o : Option Tables). IfSome o (Sound next)) (sym same) sound
told_sound next below command (Err Keeper) None new may sound (inr whole) = subst (λ (o : Option Tables). IfSome o (Sound next)) (sym whole) tt
told_sound next below command (Err Keeper) (Some t) new may sound (inr whole) = subst (λ (o : Option Tables). IfSome o (Sound next)) (sym whole) (sound_done next below t command sound may)
told_sound next below command (Err Memory) old new may sound applied = subst (λ (o : Option Tables). IfSome o (Sound next)) (sym applied) sound

pub calls_sound : (next : List ℕ → ℕ → ℕ) → StaysBelow next → (command : Command) (result : Result Answer LedgerFault) (old new : KeeperView) → IsCommand command → IfSome old.tables (Sound next) → Applies (λ t. done next t command) result old new → IfSome new.tables (Sound next)
calls_sound next below command result old new may sound applies = told_sound next below command result old.tables new.tables may sound applies.tables

-- the last three digits of a token say its value
pub base_is : (code b : ℕ) → b < 1000 → with_base code b % 1000 ≡ b
base_is code b low = let parts : 1000 * (code / 1000) + code % 1000 ≡ code = omega arith in let whole : with_base code b ≡ 1000 * (code / 1000) + b = omega arith in omega arith

value_is : (start v w : ℕ) → v ≤ 999 → w ≤ 999 → (start % 1000 + v) % 1000 ≡ (start % 1000 + w) % 1000 → v ≡ w
value_is start v w low high same = omega arith

pub same_value : (next : ℕ → ℕ) (start v w n m : ℕ) → v ≤ 999 → w ≤ 999 → token_at next start v n ≡ token_at next start w m → v ≡ w
same_value next start v w n m low high same =
    let one : (start % 1000 + v) % 1000 < 1000 = omega arith in
    let two : (start % 1000 + w) % 1000 < 1000 = omega arith in
    value_is start v w low high (sym (base_is (code_from next (first_code start v) n) _ one) ∙ ap (λ k. k % 1000) same ∙ base_is (code_from next (first_code start w) m) _ two)

greater_of : (n m : ℕ) → (n ≤ m) ⊎ (m ≤ n)
greater_of n m = (elim (nat_lt m n) as (λ t. nat_lt m n ≡ t → (n ≤ m) ⊎ (m ≤ n)) [
  | true ↦ λ is. let low : m < n = ltb-true m n is in inr (omega arith)
  | false ↦ λ is. inl (ltb-false m n is)
]) refl

-- of two counts that are clean the greater one tells them apart
clean_apart : (next : ℕ → ℕ) (start v w n m : ℕ) → v ≡ w → IsClean next start n v → IsClean next start m w → token_at next start w n ≡ token_at next start w m → n ≡ m
clean_apart next start v w n m same first second token = elim (greater_of n m) [
  | inl low ↦ second n (omega arith) token
  | inr low ↦ sym (first m (omega arith) (ap (λ x. token_at next start x m) same ∙ sym token ∙ ap (λ x. token_at next start x n) (sym same)))
]

pub tokens_differ : (next : List ℕ → ℕ → ℕ) (tables : Tables) → Sound next tables → (id other : List ℕ) (order second : Order) → order_of tables id ≡ Some order → order_of tables other ≡ Some second
    → order.serial ≡ second.serial → order.token ≡ second.token → order ≡ second
tokens_differ next tables sound id other order second is too serial token =
    let first_ok = order_kept tables.rows tables.orders id order sound.kept.orders is in
    let second_ok = order_kept tables.rows tables.orders other second sound.kept.orders too in
    let row = some_is (row_of tables order.serial) first_ok.1 in
    let row_too : row_of tables second.serial ≡ Some row.0 = ap (λ s. row_of tables s) (sym serial) ∙ row.1 in
    let one = sound.issued id order row.0 is row.1 in
    let two = sound.issued other second row.0 too row_too in
    let tokens : token_at (next row.0.key) row.0.start order.value order.count ≡ token_at (next row.0.key) row.0.start second.value second.count = sym one.token ∙ token ∙ two.token in
    let values : order.value ≡ second.value = same_value (next row.0.key) row.0.start order.value second.value order.count second.count first_ok.0.value second_ok.0.value tokens in
    let count : order.count ≡ second.count = clean_apart (next row.0.key) row.0.start order.value second.value order.count second.count values one.clean two.clean (ap (λ v. token_at (next row.0.key) row.0.start v order.count) (sym values) ∙ tokens) in
    sound.counts id other order second is too serial count

or_true : (b : Bool) → (b || true) ≡ true
or_true true = refl
or_true false = refl

differs_yes : (f : ℕ → ℕ) (n m : ℕ) → (f m ≡ f n → m ≡ n) → differs f n m ≡ true
differs_yes f n m own = (elim (nat_eq (f m) (f n)) as (λ t. nat_eq (f m) (f n) ≡ t → (nat_eq m n || not t) ≡ true) [
  | true ↦ λ same. let one : m ≡ n = own (eqb-true (f m) (f n) same) in ap (λ b. b || false) (eq-eqb m n one)
  | false ↦ λ same. or_true (nat_eq m n)
]) refl

-- a number stands alone where its value is its own
from_alone : (f : ℕ → ℕ) (n bound : ℕ) → ((m : ℕ) → m < bound → f m ≡ f n → m ≡ n) → stands_alone f n bound ≡ true
from_alone f n zero own = alone_none f n
from_alone f n (suc bound) own =
    subst (λ k. stands_alone f n k ≡ true) (add-one bound) (alone_more f n bound (from_alone f n bound (λ m below same. own m (omega arith) same)) (differs_yes f n bound (own bound (omega arith))))

pub clean_is : (next : ℕ → ℕ) (start value count : ℕ) → (is_clean next start value count ≡ true → IsClean next start count value) × (IsClean next start count value → is_clean next start value count ≡ true)
clean_is next start value count = (
  λ clean m within same. alone_says (token_at next start value) count (max LAST count + 1) clean m (omega arith) same,
  λ clean. from_alone (token_at next start value) count (max LAST count + 1) (λ m below same. clean m (omega arith) same),
)

-- a call over a keeper that tells its tables is a step of a run
told_asked : (next : List ℕ → ℕ → ℕ) (command : Command) (result : Result Answer LedgerFault) (t : Tables) (new : Option Tables) → AppliedTo (λ u. done next u command) result (Some t) new → (u : Tables) × (new ≡ Some u) × Asked next t command (result_ok result) u
told_asked next command (Ok answer) t new applied = ((done next t command).tables, applied.1, inl (ap (λ (a : Answer). Some a) applied.0, refl))
told_asked next command (Err Keeper) t new (inl same) = (t, same, inr (refl, inl refl))
told_asked next command (Err Keeper) t new (inr whole) = ((done next t command).tables, whole, inr (refl, inr refl))
told_asked next command (Err Memory) t new applied = (t, applied, inr (refl, inl refl))

pub asked_by : (next : List ℕ → ℕ → ℕ) (command : Command) (result : Result Answer LedgerFault) (old new : KeeperView) (t : Tables) → old.tables ≡ Some t → Applies (λ u. done next u command) result old new
    → (u : Tables) × (new.tables ≡ Some u) × Asked next t command (result_ok result) u
asked_by next command result old new t is applies = told_asked next command result t new.tables (subst (λ (o : Option Tables). AppliedTo (λ u. done next u command) result o new.tables) is applies.tables)
