-- What an event of the device is in a deal.
use Rattle.std.proofs.Common.{◌≡◌, ◌≢◌, ℕ, ◌^◌, ◌<◌, ◌==◌, nat_lt, true, false, Bool, cond, if◌then◌else◌, ◌⊎◌, inl, inr, List, [], ◌∷◌, length, Option, Some, None, refl, sym, ap, ◌∙◌, subst, ⊎_elim, arith, eqb-true}
use Rattle.std.specs.Prelude.{unwrap_or}
use Rattle.std.proofs.lemmas.Bool.{cond_both}
use Rattle.std.proofs.lemmas.Bool.Decides.{nat_tests}
use Rattle.paygo_spec.specs.declared.Config.{Config}
use Rattle.paygo_spec.specs.declared.Entry.{Entry}
use Rattle.paygo_spec.specs.declared.Entry.TheVariants as entry_is
use Rattle.paygo_spec.specs.declared.Event.{Event}
use Rattle.paygo_spec.specs.declared.Event.TheVariants as event_is
use Rattle.paygo_spec.specs.declared.Found.{Found}
use Rattle.paygo_spec.specs.declared.Found.TheVariants as found_is
use Rattle.paygo_spec.specs.declared.Reply.{Reply}
use Rattle.paygo_spec.specs.declared.Reply.TheVariants as reply_is
use Rattle.paygo_spec.specs.Clock.{ClockView, clock_of, unit_of}
use Rattle.paygo_spec.specs.Digits.{digit_count, digits_of, first_fault}
use Rattle.paygo_spec.specs.Found.{found}
use Rattle.paygo_spec.specs.History.{fresh, first_limit, raised_limit, limit_of, top}
use Rattle.paygo_spec.specs.Layout.{Position, first_position, further, turned}
use Rattle.paygo_spec.specs.Machine.{History, Stored, Blank, Journal, State, new_device, gone_on, clock_at, shows_same, reply_to_entry, reply_to_power, shown, effect_of_typed, effect_of_seconds, effect_of_raise, effect_of, MayAdd, MayRaise, Meets, MayMake, Replies, ActsIf, Powers, Acts, only}
use Rattle.paygo_spec.specs.Pad.{Keys}
use Rattle.paygo_spec.specs.Searched.{Searched, SearchedOn}
use Rattle.paygo_spec.specs.Typed.{Typed as Become, by_found, by_clock, by_digits, by_length, token_in}
use Rattle.paygo_spec.proofs.CleanTokens.{clean_found}
use Rattle.paygo_spec.proofs.Entries.{valid_is}
use Rattle.paygo_spec.proofs.Searching.{found_token, accepted_found}
use Rattle.paygo_spec.proofs.Windows.{limit_kept}
use Rattle.digit_set.proofs.Tokens.{length-digits_of, first_fault-digits_of, value_of-digits_of}
use Rattle.ledger_spec.specs.declared.Order.{Order}
use Rattle.deal_spec.specs.Deal.{Item, Sold, Accepted, Failed, Passed, Raised, Move, Counts, Cut, Worn, Blocked, Old, Idle, Has, limit, clock, IsUsable, IsUseless, MayAccept, MayCount, MayMove, after, newest}
use Rattle.deal_spec.specs.Promises.{Asked, Typed, Waited, asked_in, asked_at}
use Rattle.deal_laws.specs.Meaning.{IsAsked, IsMoveFor, IsReplied, Tells}
use Rattle.deal_laws.proofs.Books.{entries_of, orders_of, AreTokens, IsHistory, device_of, newest_is, limit_is, valid_of, fresh_of, clock_is, left_is, free_is, fails_is, block_is}
use Rattle.deal_laws.proofs.Chains.{same_as_clean}
use Rattle.deal_laws.proofs.Standing.{IsOnChain}
use Rattle.deal_laws.proofs.Untaken.{untaken}
use Rattle.deal_laws.proofs.Replying.{IsReplyOf, TellsOf, fits_form, entry_tells, accepted_reply}

module _ (next : List ℕ → ℕ → ℕ) (serial : List ℕ) (config : Config) (book : List Item) (tokens : AreTokens (next config.key) config.start book)
    (chained : (order : Order) → Has book (Sold order) → IsOnChain next serial config order) where
  abbrev pub unit : ℕ
  unit = unit_of config.divider

  abbrev pub entries : List Entry
  entries = entries_of book

  -- What an event came to in the deal.
  pub record Moved (event : Event) (typed : Asked → Type 0) (reply : Option Reply) (stored : Stored) : Type 0 where
    pub move : Move
    pub may : MayMove unit book move
    pub move_is : IsReplyOf book reply move
    pub asks : IsMoveFor event move
    pub typed_is : (asked : Asked) → typed asked → asked_at move ≡ Some asked
    pub tells : TellsOf (clock unit (after move book)) (newest (after move book)) reply
    pub history : IsHistory config (after move book) stored
    pub kept : AreTokens (next config.key) config.start (after move book)
    pub orders : orders_of (after move book) ≡ orders_of book

  idle : (event : Event) (typed : Asked → Type 0) (reply : Option Reply) (stored : Stored) → IsReplyOf book reply Idle → ((a : Asked) → typed a → ⊥)
      → TellsOf (clock unit book) (newest book) reply → IsHistory config book stored → Moved event typed reply stored
  idle event typed reply stored is none tells history =
      record { move = Idle; may = tt; move_is = is; asks = tt; typed_is = λ a t. absurd (none a t); tells = tells; history = history; kept = tokens; orders = refl }

  -- What an event asks, where the pad holds these keys.
  abbrev pub IsAt : Keys → Event → Asked → Type 0
  IsAt keys event asked =
      ((t : ℕ) × (asked ≡ Typed t) × (event ≡ event_is.Key 35) × (keys.pressed ≡ digits_of config.form t) × (t < 10 ^ 9))
      ⊎ ((seconds : ℕ) × (asked ≡ Waited seconds) × (event ≡ event_is.Tick seconds))

  hash_read : (keys : Keys) (a : Asked) → IsAt keys (event_is.Key 35) a → (t : ℕ) × (a ≡ Typed t) × (keys.pressed ≡ digits_of config.form t) × (t < 10 ^ 9)
  hash_read keys a (inl typed) = (typed.0, typed.1, typed.3, typed.4)
  hash_read keys a (inr waited) = absurd (let bad : event_is.Key 35 ≡ event_is.Tick waited.0 = waited.2 in cc)

  other_key : (key : ℕ) → (key == 35) ≡ false → event_is.Key key ≡ event_is.Key 35 → ⊥
  other_key key is e = let same : key ≡ 35 = cc in grind (arith, nat_tests)

  not_hash : (keys : Keys) (key : ℕ) (a : Asked) → (key == 35) ≡ false → IsAt keys (event_is.Key key) a → ⊥
  not_hash keys key a is (inl typed) = other_key key is typed.2
  not_hash keys key a is (inr waited) = let bad : event_is.Key key ≡ event_is.Tick waited.0 = waited.2 in cc

  not_make : (keys : Keys) (made : Config) (a : Asked) → IsAt keys (event_is.Make made) a → ⊥
  not_make keys made a (inl typed) = let bad : event_is.Make made ≡ event_is.Key 35 = typed.2 in cc
  not_make keys made a (inr waited) = let bad : event_is.Make made ≡ event_is.Tick waited.0 = waited.2 in cc

  tick_read : (keys : Keys) (seconds : ℕ) (a : Asked) → IsAt keys (event_is.Tick seconds) a → a ≡ Waited seconds
  tick_read keys seconds a (inl typed) = absurd (let bad : event_is.Tick seconds ≡ event_is.Key 35 = typed.2 in cc)
  tick_read keys seconds a (inr waited) = let same : event_is.Tick seconds ≡ event_is.Tick waited.0 = waited.2 in let one : seconds ≡ waited.0 = cc in waited.1 ∙ ap (λ s. Waited s) (sym one)

  not_show : (keys : Keys) (a : Asked) → IsAt keys event_is.Show a → ⊥
  not_show keys a (inl typed) = let bad : event_is.Show ≡ event_is.Key 35 = typed.2 in cc
  not_show keys a (inr waited) = let bad : event_is.Show ≡ event_is.Tick waited.0 = waited.2 in cc

  not_raise : (keys : Keys) (a : Asked) → IsAt keys event_is.Raise a → ⊥
  not_raise keys a (inl typed) = let bad : event_is.Raise ≡ event_is.Key 35 = typed.2 in cc
  not_raise keys a (inr waited) = let bad : event_is.Raise ≡ event_is.Tick waited.0 = waited.2 in cc

  module _ (at : Position) (searched : Searched (next config.key) config.start unit fresh entries) where
    abbrev dev : History
    dev = device_of config book at

    abbrev found_now : ℕ → Found
    found_now token = found (next config.key) config.start fresh entries token

    -- an order that may be used is found
    finds : (order : Order) → IsUsable unit book order → found_now order.token ≡ found_is.Valid order.count order.value
    finds order usable =
        let on = chained order usable.sold in
        ap found_now on.on.token
        ∙ clean_found (next config.key) config.start fresh entries order.count order.value on.small on.on.clean (valid_of book order.count order.value usable.fresh)

    useless : (token : ℕ) (answer : Found) → found_now token ≡ answer → ((n v : ℕ) → answer ≡ found_is.Valid n v → ⊥) → IsUseless unit book token
    useless token answer is other order usable e = other order.count order.value (sym is ∙ ap found_now e ∙ finds order usable)

    -- an entry is added to the history
    module _ (item : Item) (entry : Entry) (event : Event) (typed : Asked → Type 0) (entry_is : entries_of (item ∷ book) ≡ entry ∷ entries) (orders_are : orders_of (item ∷ book) ≡ orders_of book)
        (toks : AreTokens (next config.key) config.start (item ∷ book)) (may : MayCount unit book item) (asked : IsAsked event item) (typed_is : (a : Asked) → typed a → asked_in item ≡ Some a) where
      abbrev history_with : List Entry → Position → History
      history_with es now = record { config = config; start = fresh; entries = es; at = now }

      tells_after : Tells (clock unit (item ∷ book)) (newest (item ∷ book)) (reply_to_entry entry (clock_at dev (entry ∷ entries)))
      tells_after =
          subst (λ (c : ClockView). Tells (clock unit (item ∷ book)) (newest (item ∷ book)) (reply_to_entry entry c))
          (clock_is unit (item ∷ book) ∙ ap (clock_of unit fresh) entry_is) (entry_tells entry (clock unit (item ∷ book)) (newest (item ∷ book)))

      cut : (counted : Bool) (now : Position) (new : Stored) → new ≡ Journal (gone_on dev (if counted then entry ∷ entries else entries) now) → Moved event typed (Some reply_is.Down) new
      cut true now new e = record {
        move = Cut item true;
        may = may;
        move_is = inl (item, true, refl);
        asks = asked;
        typed_is = typed_is;
        tells = tt;
        history = inr (now, e ∙ ap (λ es. Journal (history_with es now)) (sym entry_is));
        kept = toks;
        orders = orders_are;
      }
      cut false now new e = record {
        move = Cut item false;
        may = may;
        move_is = inl (item, false, refl);
        asks = asked;
        typed_is = typed_is;
        tells = tt;
        history = inr (now, e);
        kept = tokens;
        orders = refl;
      }

      counts : (reply : Option Reply) (now : Position) (new : Stored) → IsReplied book (reply_to_entry entry (clock_at dev (entry ∷ entries))) (Counts item)
          → reply ≡ Some (reply_to_entry entry (clock_at dev (entry ∷ entries))) → new ≡ Journal (gone_on dev (entry ∷ entries) now) → Moved event typed reply new
      counts reply now new is reply_is e = record {
        move = Counts item;
        may = may;
        move_is = subst (λ (r : Option Reply). IsReplyOf book r (Counts item)) (sym reply_is) is;
        asks = asked;
        typed_is = typed_is;
        tells = subst (λ (r : Option Reply). TellsOf (clock unit (item ∷ book)) (newest (item ∷ book)) r) (sym reply_is) tells_after;
        history = inr (now, e ∙ ap (λ es. Journal (history_with es now)) (sym entry_is));
        kept = toks;
        orders = orders_are;
      }

      added : IsReplied book (reply_to_entry entry (clock_at dev (entry ∷ entries))) (Counts item) → (reply : Option Reply) (new : Stored) → MayAdd dev entry reply new → Moved event typed reply new
      added is (Some reply_is.Worn) new h = record {
        move = Worn item;
        may = may;
        move_is = (item, refl);
        asks = asked;
        typed_is = typed_is;
        tells = tt;
        history = inr (at, h.1);
        kept = tokens;
        orders = refl;
      }
      added is (Some reply_is.Down) new h = cut h.1.0 h.1.1 new h.1.3
      added is reply new h = counts reply (further at) new is h.1 h.2

    -- what is typed
    module _ (pressed : List ℕ) (typed : Asked → Type 0) (reads : (a : Asked) → typed a → (t : ℕ) × (a ≡ Typed t) × (pressed ≡ digits_of config.form t) × (t < 10 ^ 9)) where
      abbrev event : Event
      event = event_is.Key 35

      abbrev token : ℕ
      token = token_in config.form pressed

      token_is : (a : Asked) → typed a → Some (Typed token) ≡ Some a
      token_is a is =
          let read = reads a is in
          ap (λ l. Some (Typed (token_in config.form l))) read.2
          ∙ ap (λ o. Some (Typed (unwrap_or o 0))) (value_of-digits_of config.form read.0 (fits_form config.form read.0 read.3))
          ∙ ap (λ w. Some w) (sym read.1)

      blocked : (said : Reply) (reply : Option Reply) (new : Stored) → MayMove unit book (Blocked token) → IsReplied book said (Blocked token) → Tells (clock unit book) (newest book) said → (reply ≡ Some said) × (new ≡ Journal dev) → Moved event typed reply new
      blocked said reply new none is right h = record {
        move = Blocked token;
        may = none;
        move_is = subst (λ (r : Option Reply). IsReplyOf book r (Blocked token)) (sym h.0) is;
        asks = refl;
        typed_is = token_is;
        tells = subst (λ (r : Option Reply). TellsOf (clock unit book) (newest book) r) (sym h.0) right;
        history = inr (at, h.1);
        kept = tokens;
        orders = refl;
      }

      old : (said : Reply) (reply : Option Reply) (new : Stored) → MayMove unit book (Old token) → IsReplied book said (Old token) → Tells (clock unit book) (newest book) said → (reply ≡ Some said) × (new ≡ Journal dev) → Moved event typed reply new
      old said reply new none is right h = record {
        move = Old token;
        may = none;
        move_is = subst (λ (r : Option Reply). IsReplyOf book r (Old token)) (sym h.0) is;
        asks = refl;
        typed_is = token_is;
        tells = subst (λ (r : Option Reply). TellsOf (clock unit book) (newest book) r) (sym h.0) right;
        history = inr (at, h.1);
        kept = tokens;
        orders = refl;
      }

      moved_found : (answer : Found) → found_now token ≡ answer → (clock_at dev entries).block ≡ 0 → (reply : Option Reply) (new : Stored) → Meets dev (effect_of_typed dev (by_found answer)) reply new → Moved event typed reply new
      moved_found (found_is.Valid n v) is none reply new h =
          let there = found_token (next config.key) config.start fresh entries token n v is in
          let valid = (valid_is fresh entries n v).0 there.1 in
          let were : Searched (next config.key) config.start unit fresh (entry_is.Accept n v ∷ entries) = ((searched.0, (none, valid)), accepted_found (next config.key) config.start fresh entries token n v searched.1 is) in
          let may : MayAccept unit book n v token = record {
            unblocked = block_is unit book ∙ none;
            fresh = fresh_of book n v valid;
            alone = λ order has e.
                let on = chained order has in
                same_as_clean (next config.key) config.start unit fresh order.count order.value on.small on.on.clean entries n v were (there.0 ∙ e ∙ on.on.token);
          } in
          added (Accepted n v token) (entry_is.Accept n v) event typed refl refl (sym there.0, tokens) may refl token_is (accepted_reply book n v token (clock_at dev (entry_is.Accept n v ∷ entries)) valid.2) reply new h
      moved_found (found_is.Old n) is none reply new h = old reply_is.Old reply new (block_is unit book ∙ none, useless token (found_is.Old n) is (λ m w e. cc)) (token, refl) tt h
      moved_found found_is.Invalid is none reply new h =
          added (Failed token) entry_is.Bad event typed refl refl tokens (block_is unit book ∙ none, useless token found_is.Invalid is (λ m w e. cc), untaken (next config.key) config.start unit book token tokens searched is) refl token_is (token, refl) reply new h

      -- What is asked of each thing that may be typed.
      abbrev Handles : Become → Type 0
      Handles made = (reply : Option Reply) (new : Stored) → Meets dev (effect_of_typed dev made) reply new → Moved event typed reply new

      above : (n m : ℕ) → n ≡ m → nat_lt 0 m ≡ true → 0 < n
      above n m same is = grind (arith, nat_tests)

      open_now : (n : ℕ) → nat_lt 0 n ≡ false → n ≡ 0
      open_now n is = grind (arith, nat_tests)

      moved_clock : Handles (by_clock (clock_at dev entries) (found_now token))
      moved_clock =
          cond_both (nat_lt 0 (clock_at dev entries).block) _ _ Handles
          (λ is reply new h.
          blocked (reply_is.Blocked (clock_at dev entries).block) reply new (above (clock unit book).block (clock_at dev entries).block (block_is unit book) is) (token, refl) (sym (block_is unit book)) h)
          (λ is reply new h. moved_found (found_now token) refl (open_now (clock_at dev entries).block is) reply new h)

      -- what is no token is said, and is no move
      no_token : (said : Reply) (reply : Option Reply) (new : Stored) → ((a : Asked) → typed a → ⊥) → IsReplied book said Idle → Tells (clock unit book) (newest book) said → (reply ≡ Some said) × (new ≡ Journal dev) → Moved event typed reply new
      no_token said reply new none is right h =
          idle event typed reply new (subst (λ (r : Option Reply). IsReplyOf book r Idle) (sym h.0) is) none (subst (λ (r : Option Reply). TellsOf (clock unit book) (newest book) r) (sym h.0) right) (inr (at, h.1))

      moved_digits : (fault : Option ℕ) → first_fault config.form pressed ≡ fault → Handles (by_digits (clock_at dev entries) (found_now token) fault)
      moved_digits (Some place) is reply new h =
          no_token (reply_is.Digits place) reply new
          (λ a own. let read = reads a own in let bad : Some place ≡ None = sym is ∙ ap (first_fault config.form) read.2 ∙ first_fault-digits_of config.form read.0 in cc) refl tt h
      moved_digits None is reply new h = moved_clock reply new h

      other_length : (n m : ℕ) → n ≡ m → (n == m) ≡ false → ⊥
      other_length n m e is = grind (arith, nat_tests)

      pub moved_typed : Handles (by_length config.form pressed (clock_at dev entries) (found_now token))
      moved_typed =
          cond_both (length pressed == digit_count config.form) _ _ Handles
          (λ is reply new h. moved_digits (first_fault config.form pressed) refl reply new h)
          (λ is reply new h.
          no_token (reply_is.Length _) reply new
          (λ a own. let read = reads a own in other_length (length pressed) (digit_count config.form) (ap length read.2 ∙ length-digits_of config.form read.0) is) refl tt h)

    -- seconds
    moved_seconds : (seconds : ℕ) (typed : Asked → Type 0) → ((a : Asked) → typed a → a ≡ Waited seconds) → (reply : Option Reply) (new : Stored) → Meets dev (effect_of_seconds dev seconds) reply new → Moved (event_is.Tick seconds) typed reply new
    moved_seconds seconds typed waits =
        cond_both (shows_same (clock_at dev (entry_is.Elapsed seconds ∷ entries)) (clock_at dev entries)) _ _
        (λ effect. (reply : Option Reply) (new : Stored) → Meets dev effect reply new → Moved (event_is.Tick seconds) typed reply new)
        (λ o reply new h.
        counts (Passed seconds) (entry_is.Elapsed seconds) (event_is.Tick seconds) typed refl refl tokens tt refl (λ a own. ap (λ w. Some w) (sym (waits a own))) reply at new (seconds, refl) h.0 h.1)
        (λ o reply new h. added (Passed seconds) (entry_is.Elapsed seconds) (event_is.Tick seconds) typed refl refl tokens tt refl (λ a own. ap (λ w. Some w) (sym (waits a own))) (seconds, refl) reply new h)

    -- a raise
    module _ (typed : Asked → Type 0) (none : (a : Asked) → typed a → ⊥) (low : limit book ≡ 4095) where
      raise_cut : (counted : Bool) (now : Position) (new : Stored) → new ≡ Journal (gone_on dev (if counted then entry_is.Raised ∷ entries else entries) now) → Moved event_is.Raise typed (Some reply_is.Down) new
      raise_cut = cut Raised entry_is.Raised event_is.Raise typed refl refl tokens low tt (λ t own. absurd (none t own))

      raised : (reply : Option Reply) (new : Stored) → MayRaise dev reply new → Moved event_is.Raise typed reply new
      raised (Some reply_is.Worn) new h = record {
        move = Worn Raised;
        may = low;
        move_is = (Raised, refl);
        asks = tt;
        typed_is = λ t own. absurd (none t own);
        tells = tt;
        history = inr (at, h.1);
        kept = tokens;
        orders = refl;
      }
      raised (Some reply_is.Down) new h = ⊎_elim (λ e. raise_cut false at new e) (λ e. raise_cut true (turned at) new e) h.1
      raised reply new h = counts Raised entry_is.Raised event_is.Raise typed refl refl tokens low tt (λ t own. absurd (none t own)) reply (turned at) new (inl refl) h.1 h.2

    not_raised : (limit : ℕ) → (limit ≡ first_limit) ⊎ (limit ≡ raised_limit) → (limit == raised_limit) ≡ false → limit ≡ first_limit
    not_raised limit (inl e) is = e
    not_raised limit (inr e) is = grind (arith, nat_tests)

    moved_raise : (typed : Asked → Type 0) → ((a : Asked) → typed a → ⊥) → (reply : Option Reply) (new : Stored) → Meets dev (effect_of_raise dev) reply new → Moved event_is.Raise typed reply new
    moved_raise typed none =
        cond_both (limit_of fresh entries == raised_limit) _ _ (λ effect. (reply : Option Reply) (new : Stored) → Meets dev effect reply new → Moved event_is.Raise typed reply new)
        (λ o reply new h. idle event_is.Raise typed reply new (subst (λ (r : Option Reply). IsReplyOf book r Idle) (sym h.0) (inr (limit_is book ∙ eqb-true (limit_of fresh entries) raised_limit o, refl))) none (subst (λ (r : Option Reply). TellsOf (clock unit book) (newest book) r) (sym h.0) tt) (inr (at, h.1)))
        (λ o reply new h. raised typed none (limit_is book ∙ not_raised (limit_of fresh entries) (limit_kept unit fresh entries searched.0) o) reply new h)

    -- an event that is answered, and changes nothing
    looked : (event : Event) (typed : Asked → Type 0) (answer : Option Reply) (reply : Option Reply) (new : Stored) → ((a : Asked) → typed a → ⊥) → IsReplyOf book answer Idle
        → TellsOf (clock unit book) (newest book) answer → (reply ≡ answer) × (new ≡ Journal dev) → Moved event typed reply new
    looked event typed answer reply new none is tells h =
        idle event typed reply new (subst (λ (r : Option Reply). IsReplyOf book r Idle) (sym h.0) is) none (subst (λ (r : Option Reply). TellsOf (clock unit book) (newest book) r) (sym h.0) tells) (inr (at, h.1))

    module _ (keys : Keys) (typed : Event → Asked → Type 0) (reads : (event : Event) (a : Asked) → typed event a → IsAt keys event a) where
      moved_key : (key : ℕ) (reply : Option Reply) (new : Stored) → Meets dev (effect_of next dev keys (event_is.Key key)) reply new → Moved (event_is.Key key) (typed (event_is.Key key)) reply new
      moved_key key =
          cond_both (key == 35) _ _ (λ effect. (reply : Option Reply) (new : Stored) → Meets dev effect reply new → Moved (event_is.Key key) (typed (event_is.Key key)) reply new)
          (λ is reply new h.
          let same : key ≡ 35 = eqb-true key 35 is in
          subst (λ (k : ℕ). Moved (event_is.Key k) (typed (event_is.Key k)) reply new) (sym same)
          (moved_typed keys.pressed (typed (event_is.Key 35)) (λ a own. hash_read keys a (reads (event_is.Key 35) a own)) reply new h))
          (λ is reply new h. looked (event_is.Key key) (typed (event_is.Key key)) None reply new (λ a own. not_hash keys key a is (reads (event_is.Key key) a own)) refl tt h)

      -- an event but Power on a device that is on and made
      pub moved_made : (event : Event) (reply : Option Reply) (new : Stored) → Meets dev (effect_of next dev keys event) reply new → event ≢ event_is.Power → Moved event (typed event) reply new
      moved_made event_is.Power reply new h some = absurd (some refl)
      moved_made (event_is.Make made) reply new h some =
          looked (event_is.Make made) (typed (event_is.Make made)) (Some (reply_is.Made at.number)) reply new (λ a own. not_make keys made a (reads (event_is.Make made) a own)) refl tt h
      moved_made (event_is.Key key) reply new h some = moved_key key reply new h
      moved_made (event_is.Tick seconds) reply new h some = moved_seconds seconds (typed (event_is.Tick seconds)) (λ a own. tick_read keys seconds a (reads (event_is.Tick seconds) a own)) reply new h
      moved_made event_is.Show reply new h some =
          looked event_is.Show (typed event_is.Show) (Some (shown dev keys)) reply new (λ a own. not_show keys a (reads event_is.Show a own)) refl (sym (newest_is book), sym (left_is unit book), sym (free_is unit book), sym (fails_is unit book), sym (block_is unit book)) h
      moved_made event_is.Raise reply new h some = moved_raise (typed event_is.Raise) (λ a own. not_raise keys a (reads event_is.Raise a own)) reply new h

  -- What is known of what was asked at an event.
  pub record TypedOn (old : State) (event : Event) (asked : Asked) : Type 0 where
    pub on : old.on ≡ true
    pub history : History
    pub made : old.stored ≡ Journal history
    pub at : IsAt old.keys event asked

  -- a device that isn't made
  unmade_history : (stored : Stored) → stored ≡ Blank → entries ≡ [] → IsHistory config book stored
  unmade_history stored is none = inl (is, none)

  made_now : (made : Config) (new : Stored) → entries ≡ [] → ((history : History) → new ≡ Journal history → history.config ≡ config) → new ≡ Journal (new_device made) → IsHistory config book new
  made_now made new none own e =
      let same : made ≡ config = own (new_device made) e in
      inr (first_position, e ∙ ap (λ (c : Config). Journal (new_device c)) same ∙ ap (λ (es : List Entry). Journal record { config = config; start = fresh; entries = es; at = first_position }) (sym none))

  tells_new : entries ≡ [] → Tells (clock unit book) (newest book) (reply_is.Up 0 0 false 0)
  tells_new none = (
    sym (newest_is book ∙ ap (top fresh) none),
    sym (left_is unit book ∙ ap (λ (es : List Entry). (clock_of unit fresh es).left) none),
    sym (free_is unit book ∙ ap (λ (es : List Entry). (clock_of unit fresh es).free) none),
    sym (block_is unit book ∙ ap (λ (es : List Entry). (clock_of unit fresh es).block) none),
  )

  module _ (old : State) (none : entries ≡ []) where
    moved_make : (made : Config) (reply : Option Reply) (new : Stored) → ((a : Asked) → TypedOn old (event_is.Make made) a → ⊥) → ((history : History) → new ≡ Journal history → history.config ≡ config) → MayMake made reply new
        → Moved (event_is.Make made) (TypedOn old (event_is.Make made)) reply new
    moved_make made (Some reply_is.Down) new untyped own h =
        idle (event_is.Make made) (TypedOn old (event_is.Make made)) (Some reply_is.Down) new (inr refl) untyped tt
        (⊎_elim (λ e. unmade_history new e none) (λ e. made_now made new none own e) h)
    moved_make made reply new untyped own h =
        idle (event_is.Make made) (TypedOn old (event_is.Make made)) reply new (subst (λ (r : Option Reply). IsReplyOf book r Idle) (sym h.0) refl) untyped
        (subst (λ (r : Option Reply). TellsOf (clock unit book) (newest book) r) (sym h.0) (tells_new none))
        (made_now made new none own h.1)

    only_idle : (event : Event) → IsReplyOf book (only event reply_is.Unmade) Idle
    only_idle event_is.Power = refl
    only_idle (event_is.Make made) = refl
    only_idle (event_is.Key key) = (elim (key == 35) as (λ t. IsReplyOf book (cond t (Some reply_is.Unmade) None) Idle) [ true ↦ refl | false ↦ refl ])
    only_idle (event_is.Tick seconds) = refl
    only_idle event_is.Show = refl
    only_idle event_is.Raise = refl

    only_tells : (event : Event) → TellsOf (clock unit book) (newest book) (only event reply_is.Unmade)
    only_tells event_is.Power = tt
    only_tells (event_is.Make made) = tt
    only_tells (event_is.Key key) = (elim (key == 35) as (λ t. TellsOf (clock unit book) (newest book) (cond t (Some reply_is.Unmade) None)) [ true ↦ tt | false ↦ tt ])
    only_tells (event_is.Tick seconds) = tt
    only_tells event_is.Show = tt
    only_tells event_is.Raise = tt

    still_unmade : (event : Event) (reply : Option Reply) (new : Stored) → ((a : Asked) → TypedOn old event a → ⊥) → (reply ≡ only event reply_is.Unmade) × (new ≡ Blank) → Moved event (TypedOn old event) reply new
    still_unmade event reply new untyped h =
        idle event (TypedOn old event) reply new (subst (λ (r : Option Reply). IsReplyOf book r Idle) (sym h.0) (only_idle event)) untyped (subst (λ (r : Option Reply). TellsOf (clock unit book) (newest book) r) (sym h.0) (only_tells event)) (unmade_history new h.1 none)

    moved_unmade : (event : Event) (reply : Option Reply) (new : Stored) → ((a : Asked) → TypedOn old event a → ⊥) → ((history : History) → new ≡ Journal history → history.config ≡ config) → Replies next Blank old.keys event reply new
        → Moved event (TypedOn old event) reply new
    moved_unmade (event_is.Make made) reply new untyped own h = moved_make made reply new untyped own h
    moved_unmade event_is.Power reply new untyped own h = still_unmade event_is.Power reply new untyped h
    moved_unmade (event_is.Key key) reply new untyped own h = still_unmade (event_is.Key key) reply new untyped h
    moved_unmade (event_is.Tick seconds) reply new untyped own h = still_unmade (event_is.Tick seconds) reply new untyped h
    moved_unmade event_is.Show reply new untyped own h = still_unmade event_is.Show reply new untyped h
    moved_unmade event_is.Raise reply new untyped own h = still_unmade event_is.Raise reply new untyped h

  module _ (old : State) (history : IsHistory config book old.stored) (searched : SearchedOn next old.stored) where
    blank_unread : (a : Asked) (event : Event) → old.stored ≡ Blank → TypedOn old event a → ⊥
    blank_unread a event blank own = let bad : Blank ≡ Journal own.history = sym blank ∙ own.made in cc

    moved_on : (event : Event) (reply : Option Reply) (new : Stored) → event ≢ event_is.Power → ((history : History) → new ≡ Journal history → history.config ≡ config) → Replies next old.stored old.keys event reply new → Moved event (TypedOn old event) reply new
    moved_on event reply new some own h = ⊎_elim
        (λ blank. moved_unmade old blank.1 event reply new (λ a typed. blank_unread a event blank.0 typed) own (subst (λ (s : Stored). Replies next s old.keys event reply new) blank.0 h))
        (λ made.
        let were : Searched (next config.key) config.start unit fresh entries = subst (SearchedOn next) made.1 searched in
        moved_made made.0 were old.keys (TypedOn old) (λ e a typed. typed.at) event reply new (subst (λ (s : Stored). Replies next s old.keys event reply new) made.1 h) some)
        history

    moved_if : (on : Bool) → old.on ≡ on → (event : Event) (reply : Option Reply) (new : State) → event ≢ event_is.Power → ((history : History) → new.stored ≡ Journal history → history.config ≡ config) → ActsIf on next event reply old new
        → Moved event (TypedOn old event) reply new.stored
    moved_if true is event reply new some own h = moved_on event reply new.stored some own h.0
    moved_if false is event reply new some own h =
        idle event (TypedOn old event) reply new.stored (subst (λ (r : Option Reply). IsReplyOf book r Idle) (sym h.0) refl)
        (λ a typed. let bad : true ≡ false = sym typed.on ∙ is in cc)
        (subst (λ (r : Option Reply). TellsOf (clock unit book) (newest book) r) (sym h.0) tt)
        (subst (IsHistory config book) (sym h.1) history)

    power_idle : IsReplied book (reply_to_power old.stored) Idle
    power_idle = ⊎_elim
        (λ blank. subst (λ (s : Stored). IsReplied book (reply_to_power s) Idle) (sym blank.0) refl)
        (λ made. subst (λ (s : Stored). IsReplied book (reply_to_power s) Idle) (sym made.1) refl)
        history

    power_tells : Tells (clock unit book) (newest book) (reply_to_power old.stored)
    power_tells = ⊎_elim
        (λ blank. subst (λ (s : Stored). Tells (clock unit book) (newest book) (reply_to_power s)) (sym blank.0) tt)
        (λ made.
        subst (λ (s : Stored). Tells (clock unit book) (newest book) (reply_to_power s)) (sym made.1)
        (sym (newest_is book), sym (left_is unit book), sym (free_is unit book), sym (block_is unit book)))
        history

    not_power : (keys : Keys) (a : Asked) → IsAt keys event_is.Power a → ⊥
    not_power keys a (inl typed) = let bad : event_is.Power ≡ event_is.Key 35 = typed.2 in cc
    not_power keys a (inr waited) = let bad : event_is.Power ≡ event_is.Tick waited.0 = waited.2 in cc

    untyped_power : (a : Asked) → TypedOn old event_is.Power a → ⊥
    untyped_power a typed = not_power old.keys a typed.at

    moved_power : (reply : Option Reply) (new : State) → new.stored ≡ old.stored → Powers reply old new → Moved event_is.Power (TypedOn old event_is.Power) reply new.stored
    moved_power (Some reply_is.Down) new same h =
        idle event_is.Power (TypedOn old event_is.Power) (Some reply_is.Down) new.stored (inr refl) untyped_power tt (subst (IsHistory config book) (sym same) history)
    moved_power reply new same h =
        idle event_is.Power (TypedOn old event_is.Power) reply new.stored (subst (λ (r : Option Reply). IsReplyOf book r Idle) (sym h.0) power_idle) untyped_power
        (subst (λ (r : Option Reply). TellsOf (clock unit book) (newest book) r) (sym h.0) power_tells) (subst (IsHistory config book) (sym same) history)

    pub moved : (event : Event) (reply : Option Reply) (new : State) → ((history : History) → new.stored ≡ Journal history → history.config ≡ config) → Acts next event reply old new → Moved event (TypedOn old event) reply new.stored
    moved event_is.Power reply new own h = moved_power reply new h.0 h.1
    moved (event_is.Make made) reply new own h = moved_if old.on refl (event_is.Make made) reply new (λ e. cc) own h
    moved (event_is.Key key) reply new own h = moved_if old.on refl (event_is.Key key) reply new (λ e. cc) own h
    moved (event_is.Tick seconds) reply new own h = moved_if old.on refl (event_is.Tick seconds) reply new (λ e. cc) own h
    moved event_is.Show reply new own h = moved_if old.on refl event_is.Show reply new (λ e. cc) own h
    moved event_is.Raise reply new own h = moved_if old.on refl event_is.Raise reply new (λ e. cc) own h
