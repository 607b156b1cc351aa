-- Histories in which every accepted token was found by the search of its device.
use Rattle.std.specs.Prelude.{◌≡◌, ℕ, ◌+◌, ◌≤◌, ◌==◌, max, List, [], ◌∷◌, if◌then◌else◌}
use Rattle.paygo_spec.specs.declared.Entry.{Entry}
use Rattle.paygo_spec.specs.declared.Entry.TheVariants.{Accept}
use Rattle.paygo_spec.specs.declared.Found.TheVariants.{Valid}
use Rattle.paygo_spec.specs.Chain.{token_at}
use Rattle.paygo_spec.specs.History.{Summary, first_limit}
use Rattle.paygo_spec.specs.Lawful.{Lawful}
use Rattle.paygo_spec.specs.Found.{found}
use Rattle.paygo_spec.specs.Machine.{Stored, Journal, unit_for}

-- Each accepted count and value is what the search made of its token when it was typed. So a token of two counts was only
-- ever taken at the one that the search says.
abbrev pub WereFound : (ℕ → ℕ) → ℕ → Summary → List Entry → Type 0
WereFound next start origin [] = Unit {0}
WereFound next start origin (Accept n v ∷ entries) =
    WereFound next start origin entries × (found next start origin entries (token_at next start v n) ≡ Valid n v)
WereFound next start origin (_ ∷ entries) = WereFound next start origin entries

-- A history that a device can have, and in which each accepted token was found.
abbrev pub Searched : (ℕ → ℕ) → ℕ → ℕ → Summary → List Entry → Type 0
Searched next start unit origin entries = Lawful unit origin entries × WereFound next start origin entries

-- What a flash stands for: where a device was made on it, a history in which each accepted token was found.
abbrev pub SearchedOn : (List ℕ → ℕ → ℕ) → Stored → Type 0
SearchedOn next (Journal history) =
    Searched (next history.config.key) history.config.start (unit_for history) history.start history.entries
SearchedOn next _ = Unit {0}

-- How often a token took effect.
abbrev pub effects : (ℕ → ℕ) → ℕ → ℕ → List Entry → ℕ
effects next start token [] = 0
effects next start token (Accept n v ∷ entries) =
    (if token_at next start v n == token then 1 else 0) + effects next start token entries
effects next start token (_ ∷ entries) = effects next start token entries

-- The token of this count and value is that of no other count up to it, nor up to 4,095.
abbrev pub IsClean : (ℕ → ℕ) → ℕ → ℕ → ℕ → Type 0
IsClean next start count value =
    (m : ℕ) → m ≤ max first_limit count → token_at next start value m ≡ token_at next start value count → m ≡ count
