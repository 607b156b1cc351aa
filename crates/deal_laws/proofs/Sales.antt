-- What a command of the shop is in a deal.
use Rattle.std.proofs.Common.{◌≡◌, ℕ, ◌+◌, ◌<◌, ◌==◌, nat_le, nat_lt, true, false, Bool, cond, filter, inl, inr, List, [], ◌∷◌, Option, Some, None, Result, Ok, Err, refl, sym, ap, ◌∙◌, subst, arith}
use Rattle.paygo_spec.specs.declared.Config.{Config}
use Rattle.paygo_spec.specs.declared.Form.{Form}
use Rattle.paygo_spec.specs.declared.TheConstants.{LAST}
use Rattle.ledger_spec.specs.declared.Answer.{Answer as LedgerAnswer}
use Rattle.ledger_spec.specs.declared.Answer.TheVariants as answer_is
use Rattle.ledger_spec.specs.declared.Ask.{Ask}
use Rattle.ledger_spec.specs.declared.Ask.TheVariants as asks
use Rattle.ledger_spec.specs.declared.Command.{Command}
use Rattle.ledger_spec.specs.declared.Command.TheVariants as command_is
use Rattle.ledger_spec.specs.declared.Enrol.{Enrol}
use Rattle.ledger_spec.specs.declared.Issue.{Issue}
use Rattle.ledger_spec.specs.declared.Order.{Order}
use Rattle.ledger_spec.specs.declared.PriceChange.{PriceChange}
use Rattle.ledger_spec.specs.declared.Row.{Row}
use Rattle.ledger_spec.specs.Ledger.{Done, done, enrolled, asked, asked_of, issued, issued_at, offered, order_at, raises, raised_at, repriced, changed_of, changed_at, change_to, skipped, skipped_at, lifted_at}
use Rattle.ledger_spec.specs.Issuing.{pick}
use Rattle.ledger_spec.specs.Names.{same_name}
use Rattle.ledger_spec.specs.Tables.{Tables, row_of, order_of, change_of}
use Rattle.ledger_spec.specs.Sorted.{is_for}
use Rattle.ledger_spec.specs.Replay.{orders_back, FallBelow}
use Rattle.ledger_spec.specs.Sound.{Sound, StaysBelow}
use Rattle.ledger_laws.proofs.Laws.{tokens_differ}
use Rattle.run_spec.specs.Run.{World}
use Rattle.deal_spec.specs.Deal.{Item, Sold, Has, MaySell}
use Rattle.deal_laws.specs.Lives.{AreOf}
use Rattle.deal_laws.proofs.Books.{sold_has}
use Rattle.deal_laws.proofs.Standing.{Stands, order_is_of, on_chain, accepted_alone}

-- A command sells nothing, or it puts one order in front of the others, and answers with it.
pub data Sale (tables : Tables) (did : Done) : Type 0 where
  NoSale : did.tables.orders ≡ tables.orders → Sale tables did
  NewSale : (order : Order) (form : Form) → did.answer ≡ answer_is.Order order form → did.tables.orders ≡ order ∷ tables.orders → Sale tables did

module _ (next : List ℕ → ℕ → ℕ) (t : Tables) where
  issued_sale : (id : List ℕ) (ask : Ask) (issue : Issue) (count : Option ℕ) → Sale t (issued_at next t id ask issue count)
  issued_sale id ask issue None = NoSale refl
  issued_sale id ask issue (Some count) = NewSale (order_at next id ask issue count) issue.row.form refl refl

  offered_sale : (id : List ℕ) (ask : Ask) (what : Result Issue LedgerAnswer) → Sale t (issued next t id ask what)
  offered_sale id ask (Err refusal) = NoSale refl
  offered_sale id ask (Ok issue) = issued_sale id ask issue (pick (next issue.row.key) issue.row.start issue.row.limit issue.row.last issue.kind issue.value)

  asked_of_sale : (id serial : List ℕ) (ask : Ask) (row : Row) (found : Option Order) → Sale t (asked_of next t id serial ask row found)
  asked_of_sale id serial ask row (Some order) = NoSale refl
  asked_of_sale id serial ask row None = offered_sale id ask (offered t row ask)

  asked_sale : (id serial : List ℕ) (ask : Ask) (found : Option Row) → Sale t (asked next t id serial ask found)
  asked_sale id serial ask None = NoSale refl
  asked_sale id serial ask (Some row) = asked_of_sale id serial ask row (order_of t id)

  enrolled_sale : (enrol : Enrol) (found : Option Row) → Sale t (enrolled t enrol found)
  enrolled_sale enrol None = NoSale refl
  enrolled_sale enrol (Some row) = NoSale refl

  raised_sale : (row : Row) (low : Bool) → Sale t (raised_at t row low)
  raised_sale row true = NoSale refl
  raised_sale row false = NoSale refl

  raises_sale : (found : Option Row) → Sale t (raises t found)
  raises_sale None = NoSale refl
  raises_sale (Some row) = raised_sale row (row.limit == LAST)

  changed_at_sale : (change : PriceChange) (row : Row) (newest : Bool) → Sale t (changed_at t change row newest)
  changed_at_sale change row true = NoSale refl
  changed_at_sale change row false = NoSale refl

  changed_of_sale : (change : PriceChange) (row : Row) (found : Option PriceChange) → Sale t (changed_of t change row found)
  changed_of_sale change row (Some old) = NoSale refl
  changed_of_sale change row None = changed_at_sale change row (change.from == row.last)

  repriced_sale : (change : PriceChange) (found : Option Row) → Sale t (repriced t change found)
  repriced_sale change None = NoSale refl
  repriced_sale change (Some row) = changed_of_sale change row (change_of t change.serial change.from)

  lifted_sale : (to : ℕ) (row : Row) (within : Bool) → Sale t (lifted_at t to row within)
  lifted_sale to row true = NoSale refl
  lifted_sale to row false = NoSale refl

  skipped_row_sale : (to : ℕ) (row : Row) (above : Bool) → Sale t (skipped_at t to row above)
  skipped_row_sale to row true = lifted_sale to row (nat_le to row.limit)
  skipped_row_sale to row false = NoSale refl

  skipped_sale : (to : ℕ) (found : Option Row) → Sale t (skipped t to found)
  skipped_sale to None = NoSale refl
  skipped_sale to (Some row) = skipped_row_sale to row (nat_lt row.last to)

  pub sale : (command : Command) → Sale t (done next t command)
  sale (command_is.Enroll enrol) = enrolled_sale enrol (row_of t enrol.serial)
  sale (command_is.Pay id serial amount) = asked_sale id serial (asks.Pay amount) (row_of t serial)
  sale (command_is.Set id serial units) = asked_sale id serial (asks.Set units) (row_of t serial)
  sale (command_is.Disable id serial) = asked_sale id serial asks.Disable (row_of t serial)
  sale (command_is.Sync id serial) = asked_sale id serial asks.Sync (row_of t serial)
  sale (command_is.Order id) = NoSale refl
  sale (command_is.Show serial) = NoSale refl
  sale (command_is.Raise serial) = raises_sale (row_of t serial)
  sale (command_is.Price serial from price) = repriced_sale (change_to serial from price) (row_of t serial)
  sale (command_is.Quote serial amount) = NoSale refl
  sale (command_is.Skip serial to) = skipped_sale to (row_of t serial)

-- the counts of orders fall
falls_has : (bound : ℕ) (orders : List Order) (order : Order) → FallBelow bound orders → Has orders order → order.count < bound
falls_has bound [] order falls has = absurd has
falls_has bound (o ∷ orders) order falls (inl e) = subst (λ (x : Order). x.count < bound) (sym e) falls.0
falls_has bound (o ∷ orders) order falls (inr has) =
    let rest : order.count < o.count = falls_has o.count orders order falls.1 has in
    let here : o.count < bound = falls.0 in
    omega arith

one_order : (a b : Order) → Some a ≡ Some b → a ≡ b
one_order a b e = cc

not_below : (a b : Order) → a ≡ b → a.count < b.count → ⊥
not_below a b e below = let same : a.count ≡ b.count = ap (λ (x : Order). x.count) e in omega arith

module _ (next : List ℕ → ℕ → ℕ) (below : StaysBelow next) (serial : List ℕ) (config : Config) (old new : World) (book : List Item) (stands : Stands next serial config old book) (are : AreOf serial config new)
    (device : new.device ≡ old.device) (sound : Sound next new.tables) where
  -- a new order of this device may be sold
  pub may_sell : (order : Order) → orders_back new.tables serial ≡ order ∷ orders_back old.tables serial → MaySell book order
  may_sell order is = record { differs = differs; alone = accepted_alone next serial config old.device.stored book order stands.history stands.searched stands.tokens (on_chain next serial config new order sound are here) }
    where
      here : Has (orders_back new.tables serial) order
      here = subst (λ (os : List Order). Has os order) (sym is) (inl refl)

      differs : (other : Order) → Has book (Sold other) → (other.count < order.count) × (other.id ≡ order.id → ⊥) × (other.token ≡ order.token → ⊥)
      differs other has =
          let older : Has (orders_back old.tables serial) other = subst (λ (os : List Order). Has os other) stands.orders (sold_has book other has) in
          let there : Has (orders_back new.tables serial) other = subst (λ (os : List Order). Has os other) (sym is) (inr older) in
          let first = order_is_of new.tables serial order sound.kept here in
          let second = order_is_of new.tables serial other sound.kept there in
          let row_is : row_of new.tables serial ≡ Some first.row = ap (λ s. row_of new.tables s) (sym first.own) ∙ first.row_is in
          let falls : FallBelow (first.row.last + 1) (order ∷ orders_back old.tables serial) = subst (FallBelow (first.row.last + 1)) is (sound.replayed serial first.row row_is).falls in
          let low : other.count < order.count = falls_has order.count (orders_back old.tables serial) other falls.1 older in (
            low,
            λ same. not_below other order (one_order other order (sym second.found ∙ ap (order_of new.tables) same ∙ first.found)) low,
            λ same. not_below other order (tokens_differ next new.tables sound other.id order.id other order second.found first.found (second.own ∙ sym first.own) same) low,
          )

-- the orders of a device behind a new one
pub back_same : (serial : List ℕ) (old new : Tables) (order : Order) → new.orders ≡ order ∷ old.orders → same_name order.serial serial ≡ true → orders_back new serial ≡ order ∷ orders_back old serial
back_same serial old new order is own = ap (filter (is_for serial)) is ∙ ap (λ b. cond b (order ∷ orders_back old serial) (orders_back old serial)) own

pub back_other : (serial : List ℕ) (old new : Tables) (order : Order) → new.orders ≡ order ∷ old.orders → same_name order.serial serial ≡ false → orders_back new serial ≡ orders_back old serial
back_other serial old new order is other = ap (filter (is_for serial)) is ∙ ap (λ b. cond b (order ∷ orders_back old serial) (orders_back old serial)) other
