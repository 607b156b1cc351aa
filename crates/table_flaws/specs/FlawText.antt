-- What is written of a check of a shop's tables: a line for each flaw, one for each pair of devices that take each
-- other's tokens, and then one line with the numbers.
use Rattle.std.specs.Prelude.{ℕ, List, [], ◌∷◌, ◌++◌, length, codes}
use Rattle.std.specs.List.{flat_map}
use Rattle.paygo_spec.specs.Text.{with_number}
use Rattle.table_flaws.specs.declared.flaw.Flaw.{Flaw}
use Rattle.table_flaws.specs.declared.flaw.Flaw.TheVariants as flaw_is
use Rattle.table_flaws.specs.declared.findings.Twins.{Twins}
use Rattle.table_flaws.specs.Found.{Findings}

-- A flaw in words: `flaw`, what is wrong, and the id of the order or the serial of the device that it is in.
abbrev pub flaw_text : Flaw → List ℕ
flaw_text (flaw_is.Count id) = codes "flaw count " ++ id
flaw_text (flaw_is.Parity id) = codes "flaw parity " ++ id
flaw_text (flaw_is.Token id) = codes "flaw token " ++ id
flaw_text (flaw_is.Shared id) = codes "flaw shared " ++ id
flaw_text (flaw_is.Booked id) = codes "flaw booked " ++ id
flaw_text (flaw_is.Price serial) = codes "flaw price " ++ serial
flaw_text (flaw_is.Account serial) = codes "flaw account " ++ serial

-- The line of a flaw.
abbrev pub flaw_line : Flaw → List ℕ
flaw_line flaw = flaw_text flaw ++ 10 ∷ []

-- Two devices that take each other's tokens, in words: `twins`, and their serials.
abbrev pub twins_text : Twins → List ℕ
twins_text twins = ((codes "twins " ++ twins.first) ++ codes " ") ++ twins.second

-- The line of two such devices.
abbrev pub twins_line : Twins → List ℕ
twins_line twins = twins_text twins ++ 10 ∷ []

-- What the last line says: `sound`, and how many devices there are, how many orders, how many flaws, and how many pairs
-- of devices that take each other's tokens. The tables are sound where the third number is 0.
abbrev pub numbers_text : ℕ → ℕ → ℕ → ℕ → List ℕ
numbers_text rows orders flaws twins =
    with_number (with_number (with_number (with_number (codes "sound") rows) orders) flaws) twins

-- The last line.
abbrev pub numbers_line : ℕ → ℕ → ℕ → ℕ → List ℕ
numbers_line rows orders flaws twins = numbers_text rows orders flaws twins ++ 10 ∷ []

-- The text of what a check found. Each line ends with the byte 10.
unfoldable pub text_of_findings : Findings → List ℕ
text_of_findings findings =
    flat_map flaw_line findings.flaws
    ++ (flat_map twins_line findings.twins
    ++ numbers_line findings.rows findings.orders (length findings.flaws) (length findings.twins))
