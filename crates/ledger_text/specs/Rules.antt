-- The rules that a line keeps or breaks, as a table: which members each command needs, by the numbers of their rules.
use Rattle.std.specs.Prelude.{◌≡◌, ℕ, ◌<◌, Bool, true, false, ◌==◌, List, [], ◌∷◌, Option, None, Some, is_some, if◌then◌else◌}
use Rattle.std.specs.List.{list_any}
use Rattle.serde_json.specs.Data.{Data}
use Rattle.ledger_spec.specs.declared.Verb.{Verb}
use Rattle.ledger_spec.specs.declared.Verb.TheVariants as verb_is
use Rattle.ledger_spec.specs.Reading.{verb_in, serial_in, id_in, secret_in, start_in, divider_in, form_in, price_in, total_in, amount_in, units_in, from_in, to_in}

-- Whether a JSON value keeps a rule: its member is there and of its form.
abbrev pub keeps : Data → ℕ → Bool
keeps value rule =
    if rule == 1 then is_some (verb_in value)
    else if rule == 2 then is_some (serial_in value)
    else if rule == 3 then is_some (id_in value)
    else if rule == 4 then is_some (secret_in value)
    else if rule == 5 then is_some (start_in value)
    else if rule == 6 then is_some (divider_in value)
    else if rule == 7 then is_some (form_in value)
    else if rule == 8 then is_some (price_in value)
    else if rule == 9 then is_some (total_in value)
    else if rule == 10 then is_some (amount_in value)
    else if rule == 11 then is_some (units_in value)
    else if rule == 12 then is_some (from_in value)
    else is_some (to_in value)

-- The rules of the members that a command needs.
abbrev pub needed_by : Verb → List ℕ
needed_by verb_is.Enroll = 2 ∷ 4 ∷ 5 ∷ 6 ∷ 7 ∷ 8 ∷ 9 ∷ []
needed_by verb_is.Pay = 2 ∷ 3 ∷ 10 ∷ []
needed_by verb_is.Set = 2 ∷ 3 ∷ 11 ∷ []
needed_by verb_is.Disable = 2 ∷ 3 ∷ []
needed_by verb_is.Sync = 2 ∷ 3 ∷ []
needed_by verb_is.Order = 3 ∷ []
needed_by verb_is.Show = 2 ∷ []
needed_by verb_is.Raise = 2 ∷ []
needed_by verb_is.Price = 2 ∷ 8 ∷ 12 ∷ []
needed_by verb_is.Quote = 2 ∷ 10 ∷ []
needed_by verb_is.Skip = 2 ∷ 13 ∷ []

-- The rules that a value has to keep: that of `do`, and where it names a command, those of its members.
abbrev pub rules_with : Option Verb → List ℕ
rules_with None = 1 ∷ []
rules_with (Some verb) = 1 ∷ needed_by verb

abbrev pub rules_for : Data → List ℕ
rules_for value = rules_with (verb_in value)

-- Whether a rule is one of these.
abbrev pub is_among : ℕ → List ℕ → Bool
is_among rule rules = list_any (λ other. other == rule) rules

-- The least rule that a value breaks among those that it has to keep.
pub record IsLeastBroken (value : Data) (rule : ℕ) : Type 0 where
  pub needed : is_among rule (rules_for value) ≡ true
  pub broken : keeps value rule ≡ false
  pub least : (smaller : ℕ) → smaller < rule → is_among smaller (rules_for value) ≡ true → keeps value smaller ≡ true
