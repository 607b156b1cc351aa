-- Each life of shop and device is a deal.
use Rattle.std.proofs.Common.{◌≡◌, ℕ, true, false, Bool, inl, inr, List, [], ◌∷◌, ◌++◌, filter, Option, Some, None, refl, sym, ap, ◌∙◌, subst, ⊎_elim}
use Rattle.paygo_spec.specs.declared.Config.{Config}
use Rattle.paygo_spec.specs.declared.Event.{Event}
use Rattle.paygo_spec.specs.declared.Event.TheVariants as event_is
use Rattle.paygo_spec.specs.declared.Form.{Form}
use Rattle.paygo_spec.specs.declared.Reply.{Reply}
use Rattle.paygo_spec.specs.Clock.{unit_of}
use Rattle.paygo_spec.specs.Machine.{History, Journal, State, Acts, IsEvent}
use Rattle.paygo_spec.specs.Searched.{SearchedOn}
use Rattle.paygo_spec.proofs.StayingFound.{acted}
use Rattle.ledger_spec.specs.declared.Answer.{Answer as LedgerAnswer}
use Rattle.ledger_spec.specs.declared.Answer.TheVariants as answer_is
use Rattle.ledger_spec.specs.declared.Command.{Command}
use Rattle.ledger_spec.specs.declared.Order.{Order}
use Rattle.ledger_spec.specs.declared.Row.{Row}
use Rattle.ledger_spec.specs.Ledger.{done, IsCommand}
use Rattle.ledger_spec.specs.Names.{same_name}
use Rattle.ledger_spec.specs.Tables.{Tables, Kept}
use Rattle.ledger_spec.specs.Sorted.{is_for}
use Rattle.ledger_spec.specs.Replay.{orders_back}
use Rattle.ledger_spec.specs.Sound.{Sound, StaysBelow}
use Rattle.ledger_laws.specs.Later.{GoesOn, Later}
use Rattle.ledger_laws.proofs.Laws.{empty_sound}
use Rattle.ledger_laws.proofs.LaterLemmas.{done_well, later_still}
use Rattle.ledger_laws.proofs.Retries.{answered_is_kept}
use Rattle.ledger_laws.proofs.SoundLemmas.{sound_done}
use Rattle.run_spec.specs.Run.{Step, Say, Do, Act, Answer, Said, Did, Told, World, Run}
use Rattle.run_spec.specs.Headline.{IsMatched}
use Rattle.run_spec.specs.declared.Mode.{Mode}
use Rattle.run_spec.specs.declared.Status.{Status}
use Rattle.run_spec.specs.declared.Status.TheVariants as status
use Rattle.run_spec.specs.Meaning.{steps_of_line}
use Rattle.run_spec.specs.Ran.{IsBefore, AsksFor, MayChange, EndsBy}
use Rattle.deal_spec.specs.Deal.{Item, Sold, Move, Counts, Cut, Again, Starts, Idle, Has, MaySell, MayMove, after, Deals}
use Rattle.deal_spec.specs.Promises.{Typed, Waited}
use Rattle.deal_laws.specs.Meaning.{Turn, Answered, Unanswered, Restarted, Seen, nothing_seen, seen_after, IsFor, IsOrder, IsMove, IsTyped, IsWaited, TellsRight, Means, MeanAll, IsDeal}
use Rattle.deal_laws.specs.Lives.{Happens, Lives, first_day, AreOf}
use Rattle.deal_laws.specs.Runs.{turns_of, IsLife}
use Rattle.deal_laws.proofs.Books.{sold_has, has_sold, IsHistory}
use Rattle.deal_laws.proofs.Standing.{Stands, filter_has, found_has, IsOnChain, on_chain}
use Rattle.deal_laws.proofs.Sales.{Sale, NoSale, NewSale, sale, may_sell, back_same, back_other}
use Rattle.deal_laws.proofs.Moving.{Moved, TypedOn, moved}
use Rattle.deal_laws.proofs.Answering.{answers_for}
use Rattle.deal_laws.proofs.Seeing.{KeepsConfig, acts_keeps, Fits, event_fits, nothing_fits}

module _ (next : List ℕ → ℕ → ℕ) (below : StaysBelow next) where
  -- What a turn leaves: tables in order, later than those before, and the device's configuration.
  pub record GoesFrom (old new : World) : Type 0 where
    pub kept : Kept new.tables
    pub later : Later old.tables new.tables
    pub config : (history : History) → old.device.stored ≡ Journal history → KeepsConfig history new.device.stored

  still : (old new : World) → Kept old.tables → new.tables ≡ old.tables → ((history : History) → old.device.stored ≡ Journal history → KeepsConfig history new.device.stored) → GoesFrom old new
  still old new kept same config = record {
    kept = subst Kept (sym same) kept;
    later = subst (Later old.tables) (sym same) (later_still old.tables);
    config = config;
  }

  same_device : (old new : World) → new.device.stored ≡ old.device.stored → (history : History) → old.device.stored ≡ Journal history → KeepsConfig history new.device.stored
  same_device old new same history is = record { later = history; stored_is = same ∙ is; same = refl }

  served : (old new : World) (command : Command) → Kept old.tables → IsCommand command → new.tables ≡ (done next old.tables command).tables → new.device.stored ≡ old.device.stored → GoesFrom old new
  served old new command kept is same device =
      let well = done_well next below old.tables command kept is in
      record { kept = subst Kept (sym same) well.kept; later = subst (Later old.tables) (sym same) well.later; config = same_device old new device }

  goes_from : (turn : Turn) (old new : World) → Kept old.tables → Happens next turn old new → GoesFrom old new
  goes_from (Answered (Say text) None) old new kept h = absurd h
  goes_from (Answered (Say text) (Some (Said said))) old new kept h = still old new kept (ap (λ (w : World). w.tables) h.1) (same_device old new (ap (λ (w : World). w.device.stored) h.1))
  goes_from (Answered (Say text) (Some (Did answer))) old new kept h = absurd h
  goes_from (Answered (Say text) (Some (Told reply))) old new kept h = absurd h
  goes_from (Answered (Do command) None) old new kept h = absurd h
  goes_from (Answered (Do command) (Some (Said said))) old new kept h = absurd h
  goes_from (Answered (Do command) (Some (Did answer))) old new kept h = served old new command kept h.0.0 h.0.2 (ap (λ (s : State). s.stored) h.1)
  goes_from (Answered (Do command) (Some (Told reply))) old new kept h = absurd h
  goes_from (Answered (Act event) None) old new kept h = still old new kept h.1 (λ history is. acts_keeps next event None old.device new.device history is h.0.1)
  goes_from (Answered (Act event) (Some (Said said))) old new kept h = absurd h
  goes_from (Answered (Act event) (Some (Did answer))) old new kept h = absurd h
  goes_from (Answered (Act event) (Some (Told reply))) old new kept h = still old new kept h.1 (λ history is. acts_keeps next event (Some reply) old.device new.device history is h.0.1)
  goes_from (Unanswered command) old new kept h = ⊎_elim
      (λ same. still old new kept (ap (λ (w : World). w.tables) same) (same_device old new (ap (λ (w : World). w.device.stored) same)))
      (λ whole. served old new command kept h.0 (ap (λ (w : World). w.tables) whole) (ap (λ (w : World). w.device.stored) whole))
      h.1
  goes_from (Restarted faults) old new kept h = still old new kept (ap (λ (w : World). w.tables) h) (same_device old new (ap (λ (w : World). w.device.stored) h))

  module _ (serial : List ℕ) (config : Config) where
    matched_before : (old now : Row) → GoesOn old now → IsMatched now config → IsMatched old config
    matched_before old now goes is = record {
      key = sym goes.key ∙ is.key;
      start = sym goes.start ∙ is.start;
      divider = sym goes.divider ∙ is.divider;
      form = sym goes.form ∙ is.form;
    }

    -- a row and a device that hold the same held it before
    are_before : (old new : World) → GoesFrom old new → AreOf serial config new → AreOf serial config old
    are_before old new goes are = record {
      row = λ row is. let now = goes.later.rows serial row is in matched_before row now.0 now.2 (are.row now.0 now.1);
      device = λ history is. let keeps = goes.config history is in sym keeps.same ∙ are.device keeps.later keeps.stored_is;
    }

    are_back : (turns : List Turn) (old now : World) → Kept old.tables → Lives next old turns now → AreOf serial config now → AreOf serial config old
    are_back [] old now kept lives are = subst (AreOf serial config) lives are
    are_back (turn ∷ turns) old now kept lives are =
        let goes = goes_from turn old lives.0 kept lives.1 in
        are_before old lives.0 goes (are_back turns lives.0 now goes.kept lives.2 are)

    -- What a turn is in the deal.
    pub record Turned (turn : Turn) (seen : Seen) (old new : World) (book : List Item) : Type 0 where
      pub move : Move
      pub may : MayMove (unit_of config.divider) book move
      pub means : Means serial config turn seen book move
      pub stands : Stands next serial config new (after move book)

    -- the book stays
    same_stands : (old new : World) (book : List Item) → Stands next serial config old book → Sound next new.tables → orders_back new.tables serial ≡ orders_back old.tables serial → new.device.stored ≡ old.device.stored
        → Stands next serial config new book
    same_stands old new book stands sound orders device = record {
      sound = sound;
      orders = stands.orders ∙ sym orders;
      searched = subst (SearchedOn next) (sym device) stands.searched;
      history = subst (IsHistory config book) (sym device) stands.history;
      tokens = stands.tokens;
    }

    -- Nothing was asked of the device.
    record Unasked (turn : Turn) (seen : Seen) : Type 0 where
      pub typed : (token : ℕ) → IsTyped config turn seen token → ⊥
      pub waited : (seconds : ℕ) → IsWaited turn seen seconds → ⊥

    untyped_do : (command : Command) (answer : Option Answer) (seen : Seen) → Unasked (Answered (Do command) answer) seen
    untyped_do command answer seen = record {
      typed = λ token typed. let bad : Answered (Do command) answer ≡ Answered (Act (event_is.Key 35)) typed.answer = typed.turn_is in cc;
      waited = λ seconds waited. let bad : Answered (Do command) answer ≡ Answered (Act (event_is.Tick seconds)) waited.answer = waited.turn_is in cc;
    }

    untyped_say : (text : List ℕ) (answer : Option Answer) (seen : Seen) → Unasked (Answered (Say text) answer) seen
    untyped_say text answer seen = record {
      typed = λ token typed. let bad : Answered (Say text) answer ≡ Answered (Act (event_is.Key 35)) typed.answer = typed.turn_is in cc;
      waited = λ seconds waited. let bad : Answered (Say text) answer ≡ Answered (Act (event_is.Tick seconds)) waited.answer = waited.turn_is in cc;
    }

    untyped_none : (command : Command) (seen : Seen) → Unasked (Unanswered command) seen
    untyped_none command seen = record {
      typed = λ token typed. let bad : Unanswered command ≡ Answered (Act (event_is.Key 35)) typed.answer = typed.turn_is in cc;
      waited = λ seconds waited. let bad : Unanswered command ≡ Answered (Act (event_is.Tick seconds)) waited.answer = waited.turn_is in cc;
    }

    untyped_start : (faults : ℕ) (seen : Seen) → Unasked (Restarted faults) seen
    untyped_start faults seen = record {
      typed = λ token typed. let bad : Restarted faults ≡ Answered (Act (event_is.Key 35)) typed.answer = typed.turn_is in cc;
      waited = λ seconds waited. let bad : Restarted faults ≡ Answered (Act (event_is.Tick seconds)) waited.answer = waited.turn_is in cc;
    }

    -- nothing of this deal
    quiet : (turn : Turn) (seen : Seen) (old new : World) (book : List Item) → Stands next serial config old book → Sound next new.tables → orders_back new.tables serial ≡ orders_back old.tables serial → new.device.stored ≡ old.device.stored
        → IsMove serial book turn Idle → Unasked turn seen → TellsRight (unit_of config.divider) book turn → Turned turn seen old new book
    quiet turn seen old new book stands sound orders device is untyped silent = record {
      move = Idle;
      may = tt;
      means = record { move_is = is; typed = λ token t. absurd (untyped.typed token t); waited = λ seconds t. absurd (untyped.waited seconds t); tells = silent };
      stands = same_stands old new book stands sound orders device;
    }

    -- a new order of this device was sold
    sold_stands : (old new : World) (book : List Item) (order : Order) → Stands next serial config old book → Sound next new.tables → orders_back new.tables serial ≡ order ∷ orders_back old.tables serial → new.device.stored ≡ old.device.stored
        → Stands next serial config new (Sold order ∷ book)
    sold_stands old new book order stands sound orders device = record {
      sound = sound;
      orders = ap (λ (os : List Order). order ∷ os) stands.orders ∙ sym orders;
      searched = subst (SearchedOn next) (sym device) stands.searched;
      history = subst (IsHistory config book) (sym device) stands.history;
      tokens = stands.tokens;
    }

    -- a command
    module _ (seen : Seen) (old new : World) (book : List Item) (stands : Stands next serial config old book) (are : AreOf serial config new) (command : Command) (is_command : IsCommand command)
        (tables : new.tables ≡ (done next old.tables command).tables) (device : new.device ≡ old.device) where
      sound_now : Sound next new.tables
      sound_now = subst (Sound next) (sym tables) (sound_done next below old.tables command stands.sound is_command)

      stored : new.device.stored ≡ old.device.stored
      stored = ap (λ (s : State). s.stored) device

      abbrev did : LedgerAnswer → Turn
      did answer = Answered (Do command) (Some (Did answer))

      silent : (answer : LedgerAnswer) → IsMove serial book (did answer) Idle → orders_back new.tables serial ≡ orders_back old.tables serial → Turned (did answer) seen old new book
      silent answer is orders = quiet (did answer) seen old new book stands sound_now orders stored is (untyped_do command (Some (Did answer)) seen) tt

      for_it : (order : Order) (form : Form) → answer_is.Order order form ≡ (done next old.tables command).answer → IsFor command order
      for_it order form is = answers_for next old.tables order form command stands.sound.kept is_command (sym is)

      order_is : (order : Order) (form : Form) (move : Move) (own : Bool) → answer_is.Order order form ≡ (done next old.tables command).answer → same_name order.serial serial ≡ own → IsOrder own order move → IsMove serial book (did (answer_is.Order order form)) move
      order_is order form move own answer is it = (for_it order form answer, subst (λ b. IsOrder b order move) (sym is) it)

      -- it sold nothing
      same_orders : new.tables.orders ≡ old.tables.orders → orders_back new.tables serial ≡ orders_back old.tables serial
      same_orders e = ap (filter (is_for serial)) e

      again : (order : Order) (form : Form) → new.tables.orders ≡ old.tables.orders → answer_is.Order order form ≡ (done next old.tables command).answer → (own : Bool) → same_name order.serial serial ≡ own → Turned (did (answer_is.Order order form)) seen old new book
      again order form e answer true own =
          let kept = answered_is_kept next old.tables command order form stands.sound.kept is_command (sym answer) in
          let has : Has (done next old.tables command).tables.orders order = found_has (done next old.tables command).tables.orders order.id order kept in
          let there : Has old.tables.orders order = subst (λ (os : List Order). Has os order) (sym (ap (λ (t : Tables). t.orders) tables) ∙ e) has in
          let in_book : Has book (Sold order) = has_sold book order (subst (λ (os : List Order). Has os order) (sym stands.orders) (filter_has (is_for serial) old.tables.orders order there own)) in
          record {
            move = Again order;
            may = in_book;
            means = record { move_is = order_is order form (Again order) true answer own (inr refl); typed = λ token t. absurd ((untyped_do command (Some (Did (answer_is.Order order form))) seen).typed token t); waited = λ seconds t. absurd ((untyped_do command (Some (Did (answer_is.Order order form))) seen).waited seconds t); tells = tt };
            stands = same_stands old new book stands sound_now (same_orders e) stored;
          }
      again order form e answer false own = silent (answer_is.Order order form) (order_is order form Idle false answer own refl) (same_orders e)

      told_same : (answer : LedgerAnswer) → new.tables.orders ≡ old.tables.orders → answer ≡ (done next old.tables command).answer → Turned (did answer) seen old new book
      told_same (answer_is.Order order form) e answer = again order form e answer (same_name order.serial serial) refl
      told_same (answer_is.Row row) e answer = silent (answer_is.Row row) refl (same_orders e)
      told_same answer_is.NoDevice e answer = silent answer_is.NoDevice refl (same_orders e)
      told_same (answer_is.IdUsed order form) e answer = silent (answer_is.IdUsed order form) refl (same_orders e)
      told_same (answer_is.SerialUsed row) e answer = silent (answer_is.SerialUsed row) refl (same_orders e)
      told_same told e answer = silent told refl (same_orders e)

      -- it sold an order
      sold_own : (order : Order) → new.tables.orders ≡ order ∷ old.tables.orders → same_name order.serial serial ≡ true → MaySell book order × Stands next serial config new (Sold order ∷ book)
      sold_own order e own =
          let orders = back_same serial old.tables new.tables order e own in
          (may_sell next below serial config old new book stands are device sound_now order orders, sold_stands old new book order stands sound_now orders stored)

      sold : (order : Order) (form : Form) → answer_is.Order order form ≡ (done next old.tables command).answer → new.tables.orders ≡ order ∷ old.tables.orders → (own : Bool) → same_name order.serial serial ≡ own → Turned (did (answer_is.Order order form)) seen old new book
      sold order form answer e true own =
          let both = sold_own order e own in
          record {
            move = Counts (Sold order);
            may = both.0;
            means = record { move_is = order_is order form (Counts (Sold order)) true answer own (inl refl); typed = λ token t. absurd ((untyped_do command (Some (Did (answer_is.Order order form))) seen).typed token t); waited = λ seconds t. absurd ((untyped_do command (Some (Did (answer_is.Order order form))) seen).waited seconds t); tells = tt };
            stands = both.1;
          }
      sold order form answer e false own = silent (answer_is.Order order form) (order_is order form Idle false answer own refl) (back_other serial old.tables new.tables order e own)

      orders_now : (orders : List Order) → (done next old.tables command).tables.orders ≡ orders → new.tables.orders ≡ orders
      orders_now orders e = ap (λ (t : Tables). t.orders) tables ∙ e

      answered : (answer : LedgerAnswer) → answer ≡ (done next old.tables command).answer → Sale old.tables (done next old.tables command) → Turned (did answer) seen old new book
      answered answer is (NoSale e) = told_same answer (orders_now old.tables.orders e) is
      answered answer is (NewSale order form told e) =
          subst (λ (a : LedgerAnswer). Turned (did a) seen old new book) (sym (is ∙ told)) (sold order form (sym told) (orders_now (order ∷ old.tables.orders) e) (same_name order.serial serial) refl)

      -- it wasn't answered
      unsold : orders_back new.tables serial ≡ orders_back old.tables serial → Turned (Unanswered command) seen old new book
      unsold orders = quiet (Unanswered command) seen old new book stands sound_now orders stored (inr refl) (untyped_none command seen) tt

      cut : (order : Order) → IsFor command order → new.tables.orders ≡ order ∷ old.tables.orders → (own : Bool) → same_name order.serial serial ≡ own → Turned (Unanswered command) seen old new book
      cut order for_command e true own =
          let both = sold_own order e own in
          record {
            move = Cut (Sold order) true;
            may = both.0;
            means = record { move_is = inl (order, true, for_command, refl); typed = λ token t. absurd ((untyped_none command seen).typed token t); waited = λ seconds t. absurd ((untyped_none command seen).waited seconds t); tells = tt };
            stands = both.1;
          }
      cut order for_command e false own = unsold (back_other serial old.tables new.tables order e own)

      unanswered : Sale old.tables (done next old.tables command) → Turned (Unanswered command) seen old new book
      unanswered (NoSale e) = unsold (same_orders (orders_now old.tables.orders e))
      unanswered (NewSale order form told e) = cut order (for_it order form (sym told)) (orders_now (order ∷ old.tables.orders) e) (same_name order.serial serial) refl

    -- an event
    module _ (seen : Seen) (old new : World) (book : List Item) (stands : Stands next serial config old book) (fits : Fits seen old.device) (were : AreOf serial config old) (are : AreOf serial config new) (event : Event) (reply : Option Reply) (is_event : IsEvent event)
        (acts : Acts next event reply old.device new.device) (tables : new.tables ≡ old.tables) where
      chained : (order : Order) → Has book (Sold order) → IsOnChain next serial config order
      chained order has = on_chain next serial config old order stands.sound were (subst (λ (os : List Order). Has os order) stands.orders (sold_has book order has))

      abbrev Came : Type 0
      Came = Moved next serial config book stands.tokens chained event (TypedOn next serial config book stands.tokens chained old.device event) reply new.device.stored

      came : Came
      came = moved next serial config book stands.tokens chained old.device stands.history stands.searched event reply new.device are.device acts

      stands_now : Stands next serial config new (after came.move book)
      stands_now = record {
        sound = subst (Sound next) (sym tables) stands.sound;
        orders = came.orders ∙ stands.orders ∙ ap (λ (t : Tables). orders_back t serial) (sym tables);
        searched = acted next event reply old.device new.device is_event stands.searched acts;
        history = came.history;
        tokens = came.kept;
      }

      typed_on : (answer : Option Answer) (token : ℕ) → IsTyped config (Answered (Act event) answer) seen token → TypedOn next serial config book stands.tokens chained old.device event (Typed token)
      typed_on answer token typed =
          let same : Answered (Act event) answer ≡ Answered (Act (event_is.Key 35)) typed.answer = typed.turn_is in
          let hash : event ≡ event_is.Key 35 = cc in
          let up = fits.up typed.up in
          record { on = up.on; history = up.history; made = up.made; at = inl (token, refl, hash, fits.keys _ typed.up typed.digits, typed.small) }

      waited_on : (answer : Option Answer) (seconds : ℕ) → IsWaited (Answered (Act event) answer) seen seconds → TypedOn next serial config book stands.tokens chained old.device event (Waited seconds)
      waited_on answer seconds waited =
          let same : Answered (Act event) answer ≡ Answered (Act (event_is.Tick seconds)) waited.answer = waited.turn_is in
          let tick : event ≡ event_is.Tick seconds = cc in
          let up = fits.up waited.up in
          record { on = up.on; history = up.history; made = up.made; at = inr (seconds, refl, tick) }

      turned_by : (answer : Option Answer) → IsMove serial book (Answered (Act event) answer) came.move → TellsRight (unit_of config.divider) (after came.move book) (Answered (Act event) answer) → Turned (Answered (Act event) answer) seen old new book
      turned_by answer is tells = record {
        move = came.move;
        may = came.may;
        means = record { move_is = is; typed = λ token t. came.typed_is (Typed token) (typed_on answer token t); waited = λ seconds t. came.typed_is (Waited seconds) (waited_on answer seconds t); tells = tells };
        stands = stands_now;
      }

    turned : (turn : Turn) (seen : Seen) (old new : World) (book : List Item) → Stands next serial config old book → Fits seen old.device → AreOf serial config old → AreOf serial config new → Happens next turn old new → Turned turn seen old new book
    turned (Answered (Say text) None) seen old new book stands fits were are h = absurd h
    turned (Answered (Say text) (Some (Said said))) seen old new book stands fits were are h =
        quiet (Answered (Say text) (Some (Said said))) seen old new book stands (subst (λ (w : World). Sound next w.tables) (sym h.1) stands.sound) (ap (λ (w : World). orders_back w.tables serial) h.1) (ap (λ (w : World). w.device.stored) h.1) refl
        (untyped_say text (Some (Said said)) seen) tt
    turned (Answered (Say text) (Some (Did answer))) seen old new book stands fits were are h = absurd h
    turned (Answered (Say text) (Some (Told reply))) seen old new book stands fits were are h = absurd h
    turned (Answered (Do command) None) seen old new book stands fits were are h = absurd h
    turned (Answered (Do command) (Some (Said said))) seen old new book stands fits were are h = absurd h
    turned (Answered (Do command) (Some (Did answer))) seen old new book stands fits were are h = answered seen old new book stands are command h.0.0 h.0.2 h.1 answer h.0.1 (sale next old.tables command)
    turned (Answered (Do command) (Some (Told reply))) seen old new book stands fits were are h = absurd h
    turned (Answered (Act event) None) seen old new book stands fits were are h = turned_by seen old new book stands fits were are event None h.0.0 h.0.1 h.1 None (came seen old new book stands fits were are event None h.0.0 h.0.1 h.1).move_is tt
    turned (Answered (Act event) (Some (Said said))) seen old new book stands fits were are h = absurd h
    turned (Answered (Act event) (Some (Did answer))) seen old new book stands fits were are h = absurd h
    turned (Answered (Act event) (Some (Told reply))) seen old new book stands fits were are h =
        turned_by seen old new book stands fits were are event (Some reply) h.0.0 h.0.1 h.1 (Some (Told reply)) ((came seen old new book stands fits were are event (Some reply) h.0.0 h.0.1 h.1).move_is, (came seen old new book stands fits were are event (Some reply) h.0.0 h.0.1 h.1).asks) (came seen old new book stands fits were are event (Some reply) h.0.0 h.0.1 h.1).tells
    turned (Unanswered command) seen old new book stands fits were are h = ⊎_elim
        (λ same.
        quiet (Unanswered command) seen old new book stands (subst (λ (w : World). Sound next w.tables) (sym same) stands.sound) (ap (λ (w : World). orders_back w.tables serial) same) (ap (λ (w : World). w.device.stored) same) (inr refl)
        (untyped_none command seen) tt)
        (λ whole. unanswered seen old new book stands are command h.0 (ap (λ (w : World). w.tables) whole) (ap (λ (w : World). w.device) whole) (sale next old.tables command))
        h.1
    turned (Restarted faults) seen old new book stands fits were are h = record {
      move = Starts;
      may = tt;
      means = record { move_is = refl; typed = λ token t. absurd ((untyped_start faults seen).typed token t); waited = λ seconds t. absurd ((untyped_start faults seen).waited seconds t); tells = tt };
      stands = same_stands old new book stands (subst (λ (w : World). Sound next w.tables) (sym h) stands.sound) (ap (λ (w : World). orders_back w.tables serial) h) (ap (λ (w : World). w.device.stored) h);
    }

    same_fits : (seen : Seen) (old new : State) → new ≡ old → Fits seen old → Fits seen new
    same_fits seen old new same fits = subst (Fits seen) (sym same) fits

    fits_after : (turn : Turn) (seen : Seen) (old new : World) → Fits seen old.device → Happens next turn old new → Fits (seen_after turn seen) new.device
    fits_after (Answered (Say text) None) seen old new fits h = absurd h
    fits_after (Answered (Say text) (Some (Said said))) seen old new fits h = same_fits seen old.device new.device (ap (λ (w : World). w.device) h.1) fits
    fits_after (Answered (Say text) (Some (Did answer))) seen old new fits h = absurd h
    fits_after (Answered (Say text) (Some (Told reply))) seen old new fits h = absurd h
    fits_after (Answered (Do command) None) seen old new fits h = absurd h
    fits_after (Answered (Do command) (Some (Said said))) seen old new fits h = absurd h
    fits_after (Answered (Do command) (Some (Did answer))) seen old new fits h = same_fits seen old.device new.device h.1 fits
    fits_after (Answered (Do command) (Some (Told reply))) seen old new fits h = absurd h
    fits_after (Answered (Act event) None) seen old new fits h = event_fits next seen old.device new.device fits event None h.0.1
    fits_after (Answered (Act event) (Some (Said said))) seen old new fits h = absurd h
    fits_after (Answered (Act event) (Some (Did answer))) seen old new fits h = absurd h
    fits_after (Answered (Act event) (Some (Told reply))) seen old new fits h = event_fits next seen old.device new.device fits event (Some reply) h.0.1
    fits_after (Unanswered command) seen old new fits h = ⊎_elim
        (λ same. same_fits seen old.device new.device (ap (λ (w : World). w.device) same) fits)
        (λ whole. same_fits seen old.device new.device (ap (λ (w : World). w.device) whole) fits)
        h.1
    fits_after (Restarted faults) seen old new fits h = record { up = λ e. cc; keys = λ keys e is. cc }

    -- What a life is.
    pub record Dealt (turns : List Turn) (seen : Seen) (book : List Item) : Type 0 where
      pub moves : List Move
      pub now : List Item
      pub deals : Deals (unit_of config.divider) book moves now
      pub mean : MeanAll serial config turns seen book moves

    pub lives_dealt : (turns : List Turn) (seen : Seen) (old now : World) (book : List Item) → Stands next serial config old book → Fits seen old.device → Lives next old turns now → AreOf serial config now → Dealt turns seen book
    lives_dealt [] seen old now book stands fits lives are = record { moves = []; now = book; deals = refl; mean = tt }
    lives_dealt (turn ∷ turns) seen old now book stands fits lives are =
        let goes = goes_from turn old lives.0 stands.sound.kept lives.1 in
        let mid_are = are_back turns lives.0 now goes.kept lives.2 are in
        let it = turned turn seen old lives.0 book stands fits (are_before old lives.0 goes mid_are) mid_are lives.1 in
        let rest = lives_dealt turns (seen_after turn seen) lives.0 now (after it.move book) it.stands (fits_after turn seen old lives.0 fits lives.1) lives.2 are in
        record { moves = it.move ∷ rest.moves; now = rest.now; deals = (it.may, rest.deals); mean = (it.means, rest.mean) }

    first_stands : (faults : ℕ) → Stands next serial config (first_day faults) []
    first_stands faults = record { sound = empty_sound next; orders = refl; searched = tt; history = inl (refl, refl); tokens = tt }

    pub life_is_deal : (faults : ℕ) (turns : List Turn) (now : World) → Lives next (first_day faults) turns now → AreOf serial config now → IsDeal serial config turns
    life_is_deal faults turns now lives are =
        let it = lives_dealt turns nothing_seen (first_day faults) now [] (first_stands faults) (nothing_fits (first_day faults).device) lives are in
        record { moves = it.moves; book = it.now; deals = it.deals; mean = it.mean }

-- a run of the program is a life, and so is one life behind another
pub run_lives : (next : List ℕ → ℕ → ℕ) (steps : List Step) (answers : List (Option Answer)) (old new : World) → Run next old steps answers new → Lives next old (turns_of steps answers) new
run_lives next [] [] old new run = run
run_lives next [] (answer ∷ answers) old new run = absurd run
run_lives next (step ∷ steps) [] old new run = absurd run
run_lives next (step ∷ steps) (answer ∷ answers) old new run = (run.0, run.1, run_lives next steps answers run.0 new run.2)

pub lives_then : (next : List ℕ → ℕ → ℕ) (turns more : List Turn) (old mid new : World) → Lives next old turns mid → Lives next mid more new → Lives next old (turns ++ more) new
lives_then next [] more old mid new first second = subst (λ (w : World). Lives next w more new) first second
lives_then next (turn ∷ turns) more old mid new first second = (first.0, first.1, lives_then next turns more first.0 mid new first.2 second)

-- a run that ended so is a life, with the command that it lost
module _ (next : List ℕ → ℕ → ℕ) (mode : Mode) (steps : List Step) (answers : List (Option Answer)) (start reached now : World) (run : Run next start steps answers reached) where
  -- nothing was lost
  whole_life : now ≡ reached → Lives next start (turns_of steps answers ++ []) now
  whole_life same = lives_then next (turns_of steps answers) [] start reached now (run_lives next steps answers start reached run) same

  lost_life : (command : Command) → IsCommand command → now ≡ record reached { tables = (done next reached.tables command).tables } → Lives next start (turns_of steps answers ++ Unanswered command ∷ []) now
  lost_life command is change =
      lives_then next (turns_of steps answers) (Unanswered command ∷ []) start reached now (run_lives next steps answers start reached run) (now, (is, inr change), refl)

  kept_life : (ended : Bool) (taken line : List ℕ) (command : Command) → IsBefore mode line ended taken steps → AsksFor command (steps_of_line mode line) → MayChange next command reached now → IsLife next mode status.Keep ended taken steps answers start now
  kept_life ended taken line command before asks (inl same) = record { lost = []; ends = (line, command, before, asks, inl refl); lives = whole_life same }
  kept_life ended taken line command before asks (inr change) = record { lost = Unanswered command ∷ []; ends = (line, command, before, asks, inr refl); lives = lost_life command asks.range change }

  pub ended_life : (result : Status) (ended : Bool) (taken : List ℕ) → EndsBy next mode result ended taken steps reached now → IsLife next mode result ended taken steps answers start now
  ended_life status.Ok ended taken ends = record { lost = []; ends = (ends.0, refl); lives = whole_life ends.1 }
  ended_life status.Read ended taken ends = record { lost = []; ends = (ends.0, refl); lives = whole_life ends.1 }
  ended_life status.Long ended taken ends = record { lost = []; ends = (ends.0, refl); lives = whole_life ends.1 }
  ended_life status.Write ended taken ends = record { lost = []; ends = (ends.0, refl); lives = whole_life ends.1 }
  ended_life status.Keep ended taken ends = kept_life ended taken ends.0 ends.1 ends.2 ends.3 ends.4
  ended_life status.Memory ended taken ends = record { lost = []; ends = (ends.0, refl); lives = whole_life ends.1 }
  ended_life status.Usage ended taken ends = absurd ends
