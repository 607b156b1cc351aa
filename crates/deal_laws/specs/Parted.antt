-- Shop and device parted, as where each runs a program of its own: the life of each alone, and how the two are mixed.
use Rattle.std.specs.Prelude.{◌≡◌, ℕ, ◌⊎◌, List, [], ◌∷◌, Some, None}
use Rattle.paygo_spec.specs.Machine.{State, Acts, IsEvent, starting}
use Rattle.ledger_spec.specs.Ledger.{IsCommand, done}
use Rattle.ledger_spec.specs.Tables.{Tables}
use Rattle.run_spec.specs.Run.{Say, Do, Act, Said, Did, Told, Serves}
use Rattle.deal_laws.specs.Meaning.{Turn, Answered, Unanswered, Restarted}

-- What may become of the tables at a turn of the shop: a text is said, or a command is answered or lost.
abbrev pub Trades : (List ℕ → ℕ → ℕ) → Turn → Tables → Tables → Type 0
Trades next (Answered (Say text) (Some (Said said))) old new = (said ≡ text) × (new ≡ old)
Trades next (Answered (Do command) (Some (Did answer))) old new = Serves next command answer old new
Trades next (Unanswered command) old new = IsCommand command × ((new ≡ old) ⊎ (new ≡ (done next old command).tables))
Trades next _ old new = ⊥

-- What may become of the device at a turn of its own: a text is said, an event happens, or its program starts.
abbrev pub Works : (List ℕ → ℕ → ℕ) → Turn → State → State → Type 0
Works next (Answered (Say text) (Some (Said said))) old new = (said ≡ text) × (new ≡ old)
Works next (Answered (Act event) (Some (Told reply))) old new = IsEvent event × Acts next event (Some reply) old new
Works next (Answered (Act event) None) old new = IsEvent event × Acts next event None old new
Works next (Restarted faults) old new = new ≡ starting old.stored faults
Works next _ old new = ⊥

-- A life of the shop alone, and one of the device alone.
abbrev pub ShopLives : (List ℕ → ℕ → ℕ) → Tables → List Turn → Tables → Type 0
ShopLives next old [] new = new ≡ old
ShopLives next old (turn ∷ turns) new = (mid : Tables) × Trades next turn old mid × ShopLives next mid turns new

abbrev pub DeviceLives : (List ℕ → ℕ → ℕ) → State → List Turn → State → Type 0
DeviceLives next old [] new = new ≡ old
DeviceLives next old (turn ∷ turns) new = (mid : State) × Works next turn old mid × DeviceLives next mid turns new

-- The third list is made of the first two, each in its order.
abbrev pub IsMix : {A : Type 0} → List A → List A → List A → Type 0
IsMix first second [] = (first ≡ []) × (second ≡ [])
IsMix {A} first second (one ∷ mixed) =
    ((rest : List A) × (first ≡ one ∷ rest) × IsMix rest second mixed)
    ⊎ ((rest : List A) × (second ≡ one ∷ rest) × IsMix first rest mixed)
