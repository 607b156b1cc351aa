-- A life of the shop and one of the device, mixed.
use Rattle.std.proofs.Common.{◌≡◌, ℕ, inl, inr, ⊎_elim, List, [], ◌∷◌, ◌++◌, Some, None, refl, ap, ◌∙◌, subst}
use Rattle.paygo_spec.specs.Machine.{State}
use Rattle.ledger_spec.specs.Tables.{Tables}
use Rattle.run_spec.specs.Run.{Say, Do, Act, Said, Did, Told, World}
use Rattle.deal_laws.specs.Meaning.{Turn, Answered, Unanswered, Restarted}
use Rattle.deal_laws.specs.Lives.{Happens, Lives}
use Rattle.deal_laws.specs.Parted.{Trades, Works, ShopLives, DeviceLives, IsMix}

-- The shop with these tables, and the device in this state.
abbrev pub both_of : Tables → State → World
both_of tables device = record { tables = tables; device = device }

module _ (next : List ℕ → ℕ → ℕ) where
  traded : (turn : Turn) (old new : Tables) (device : State) → Trades next turn old new → Happens next turn (both_of old device) (both_of new device)
  traded (Answered (Say text) None) old new device h = absurd h
  traded (Answered (Say text) (Some (Said said))) old new device h = (h.0, ap (λ (t : Tables). both_of t device) h.1)
  traded (Answered (Say text) (Some (Did answer))) old new device h = absurd h
  traded (Answered (Say text) (Some (Told reply))) old new device h = absurd h
  traded (Answered (Do command) None) old new device h = absurd h
  traded (Answered (Do command) (Some (Said said))) old new device h = absurd h
  traded (Answered (Do command) (Some (Did answer))) old new device h = (h, refl)
  traded (Answered (Do command) (Some (Told reply))) old new device h = absurd h
  traded (Answered (Act event) None) old new device h = absurd h
  traded (Answered (Act event) (Some (Said said))) old new device h = absurd h
  traded (Answered (Act event) (Some (Did answer))) old new device h = absurd h
  traded (Answered (Act event) (Some (Told reply))) old new device h = absurd h
  traded (Unanswered command) old new device h = (h.0, ⊎_elim (λ same. inl (ap (λ (t : Tables). both_of t device) same)) (λ whole. inr (ap (λ (t : Tables). both_of t device) whole)) h.1)
  traded (Restarted faults) old new device h = absurd h

  worked : (turn : Turn) (old new : State) (tables : Tables) → Works next turn old new → Happens next turn (both_of tables old) (both_of tables new)
  worked (Answered (Say text) None) old new tables h = absurd h
  worked (Answered (Say text) (Some (Said said))) old new tables h = (h.0, ap (both_of tables) h.1)
  worked (Answered (Say text) (Some (Did answer))) old new tables h = absurd h
  worked (Answered (Say text) (Some (Told reply))) old new tables h = absurd h
  worked (Answered (Do command) None) old new tables h = absurd h
  worked (Answered (Do command) (Some (Said said))) old new tables h = absurd h
  worked (Answered (Do command) (Some (Did answer))) old new tables h = absurd h
  worked (Answered (Do command) (Some (Told reply))) old new tables h = absurd h
  worked (Answered (Act event) None) old new tables h = (h, refl)
  worked (Answered (Act event) (Some (Said said))) old new tables h = absurd h
  worked (Answered (Act event) (Some (Did answer))) old new tables h = absurd h
  worked (Answered (Act event) (Some (Told reply))) old new tables h = (h, refl)
  worked (Unanswered command) old new tables h = absurd h
  worked (Restarted faults) old new tables h = ap (both_of tables) h

  pub lives_mixed : (turns shop device : List Turn) (tables tables' : Tables) (state state' : State) → ShopLives next tables shop tables' → DeviceLives next state device state' → IsMix shop device turns → Lives next (both_of tables state) turns (both_of tables' state')
  lives_mixed [] shop device tables tables' state state' trades works mix =
      let stays : tables' ≡ tables = subst (λ (ts : List Turn). ShopLives next tables ts tables') mix.0 trades in
      let stands : state' ≡ state = subst (λ (ts : List Turn). DeviceLives next state ts state') mix.1 works in
      ap (λ (t : Tables). both_of t state') stays ∙ ap (both_of tables) stands
  lives_mixed (turn ∷ turns) shop device tables tables' state state' trades works (inl (rest, is, mix)) =
      let all : ShopLives next tables (turn ∷ rest) tables' = subst (λ (ts : List Turn). ShopLives next tables ts tables') is trades in
      (both_of all.0 state, traded turn tables all.0 state all.1, lives_mixed turns rest device all.0 tables' state state' all.2 works mix)
  lives_mixed (turn ∷ turns) shop device tables tables' state state' trades works (inr (rest, is, mix)) =
      let all : DeviceLives next state (turn ∷ rest) state' = subst (λ (ts : List Turn). DeviceLives next state ts state') is works in
      (both_of tables all.0, worked turn state all.0 tables all.1, lives_mixed turns shop rest tables tables' all.0 state' trades all.2 mix)

  pub shop_then : (turns more : List Turn) (old mid new : Tables) → ShopLives next old turns mid → ShopLives next mid more new → ShopLives next old (turns ++ more) new
  shop_then [] more old mid new first second = subst (λ (t : Tables). ShopLives next t more new) first second
  shop_then (turn ∷ turns) more old mid new first second = (first.0, first.1, shop_then turns more first.0 mid new first.2 second)

  pub device_then : (turns more : List Turn) (old mid new : State) → DeviceLives next old turns mid → DeviceLives next mid more new → DeviceLives next old (turns ++ more) new
  device_then [] more old mid new first second = subst (λ (s : State). DeviceLives next s more new) first second
  device_then (turn ∷ turns) more old mid new first second = (first.0, first.1, device_then turns more first.0 mid new first.2 second)
