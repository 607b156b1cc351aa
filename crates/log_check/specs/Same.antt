-- When two states of a device are one, where their histories are forgotten for their summaries; and a list with each
-- kept once.
use Rattle.std.specs.Prelude.{Bool, true, false, not, ◌==◌, ◌&&◌, List, [], ◌∷◌, ◌++◌, if◌then◌else◌}
use Rattle.std.specs.List.{list_any}
use Rattle.std.specs.Str.{bytes_eq}
use Rattle.paygo_spec.specs.declared.Config.{Config}
use Rattle.paygo_spec.specs.History.{Summary}
use Rattle.paygo_spec.specs.Layout.{Position}
use Rattle.paygo_spec.specs.Machine.{State, Stored, Blank, Broken, Journal}
use Rattle.paygo_spec.specs.Pad.{Keys}
use Rattle.ledger_spec.specs.Ledger.{same_form}

abbrev pub same_bool : Bool → Bool → Bool
same_bool a b = if a then b else not b

abbrev pub same_config : Config → Config → Bool
same_config a b =
    bytes_eq a.key b.key && ((a.start == b.start) && ((a.divider == b.divider) && same_form a.form b.form))

abbrev pub same_position : Position → Position → Bool
same_position a b = (a.number == b.number) && (a.place == b.place)

abbrev pub same_summary : Summary → Summary → Bool
same_summary a b =
    (a.limit == b.limit)
    && ((a.last == b.last)
    && ((a.bits == b.bits)
    && ((a.left == b.left) && (same_bool a.free b.free && ((a.fails == b.fails) && (a.block == b.block))))))

-- Whether a flash stands for the same: of a device that was made, its configuration, its summary and its position.
abbrev pub same_stored : Stored → Stored → Bool
same_stored Blank Blank = true
same_stored (Broken word) (Broken place) = word == place
same_stored (Journal a) (Journal b) =
    same_config a.config b.config && (same_summary a.start b.start && same_position a.at b.at)
same_stored _ _ = false

abbrev pub same_keys : Keys → Keys → Bool
same_keys a b = bytes_eq a.pressed b.pressed && (a.seconds == b.seconds)

-- Whether two states are one.
abbrev pub same_state : State → State → Bool
same_state a b =
    same_bool a.on b.on
    && (same_stored a.stored b.stored && (same_keys a.keys b.keys && (a.faults == b.faults)))

-- The states with one more, unless it is among them.
abbrev pub put : List State → State → List State
put states state = if list_any (same_state state) states then states else states ++ state ∷ []

-- The states with these behind them, each kept once.
abbrev pub put_all : List State → List State → List State
put_all states [] = states
put_all states (state ∷ more) = put_all (put states state) more
