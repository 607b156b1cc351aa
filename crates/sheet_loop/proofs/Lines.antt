-- The answers to a line, by what stands in it.
use Rattle.std.proofs.Common.{◌≡◌, ◌≢◌, ℕ, ◌<◌, ◌≤◌, true, false, List, [], ◌∷◌, ◌++◌, length, get_or, Result, Err, refl, sym, ap, ◌∙◌, arith}
use Rattle.std.specs.Prelude.{◌==◌, codes, nat_lt}
use Rattle.std.specs.Fmt.{decimal}
use Rattle.std.proofs.lemmas.Bool.Decides.{nat_tests}
use Rattle.std.proofs.lemmas.List.{nil_from_length}
use Rattle.ledger_spec.specs.declared.TextFault.{TextFault}
use Rattle.ledger_spec.specs.declared.TextFault.TheVariants as text_fault
use Rattle.run_spec.specs.Meaning.{trimmed}
use Rattle.sheet_text.specs.declared.asks.Ask.{Ask}
use Rattle.sheet_text.specs.Asks.{ask_in}
use Rattle.sheet_loop.specs.Office.{Office, answers_of_line, answers_of_reading, answers_of_text, says}

-- a line of at most 4,096 bytes
short : (next : List ℕ → ℕ → ℕ) (line : List ℕ) (office : Office) → length line ≤ 4096 → answers_of_line next line office ≡ answers_of_text next (trimmed line) office
short next line office most =
    let test : nat_lt 4096 (length line) ≡ false = grind (arith, nat_tests) in rw test refl

-- a longer one
pub long_said : (next : List ℕ → ℕ → ℕ) (line : List ℕ) (size : ℕ) (office : Office) → length line ≡ size → 4096 < size
    → answers_of_line next line office ≡ says (codes "long " ++ decimal size) office
long_said next line size office is long =
    let test : nat_lt 4096 (length line) ≡ true = grind (arith, nat_tests) in
    rw test (ap (λ n. says (codes "long " ++ decimal n) office) is)

-- an empty text
pub none_said : (next : List ℕ → ℕ → ℕ) (line text : List ℕ) (office : Office) → length line ≤ 4096 → text ≡ trimmed line → length text ≡ 0
    → answers_of_line next line office ≡ []
none_said next line text office most is none =
    short next line office most ∙ ap (λ l. answers_of_text next l office) (sym is ∙ nil_from_length text none)

-- a text that begins with `{`
json_text : (next : List ℕ → ℕ → ℕ) (text : List ℕ) (office : Office) → length text ≢ 0 → get_or text 0 0 ≡ 123
    → answers_of_text next text office ≡ answers_of_reading next (ask_in text) office
json_text next [] office some first = absurd (some refl)
json_text next (c ∷ cs) office some first = let test : (c == 123) ≡ true = grind (arith, nat_tests) in rw test refl

pub json_said : (next : List ℕ → ℕ → ℕ) (line text : List ℕ) (office : Office) → length line ≤ 4096 → text ≡ trimmed line → length text ≢ 0 → get_or text 0 0 ≡ 123
    → answers_of_line next line office ≡ answers_of_reading next (ask_in text) office
json_said next line text office most is some first =
    short next line office most ∙ ap (λ l. answers_of_text next l office) (sym is) ∙ json_text next text office some first

-- and one that doesn't
other_text : (next : List ℕ → ℕ → ℕ) (text : List ℕ) (office : Office) → length text ≢ 0 → get_or text 0 0 ≢ 123
    → answers_of_text next text office ≡ says (codes "no device here") office
other_text next [] office some first = absurd (some refl)
other_text next (c ∷ cs) office some first = let test : (c == 123) ≡ false = grind (arith, nat_tests) in rw test refl

pub other_said : (next : List ℕ → ℕ → ℕ) (line text : List ℕ) (office : Office) → length line ≤ 4096 → text ≡ trimmed line → length text ≢ 0 → get_or text 0 0 ≢ 123
    → answers_of_line next line office ≡ says (codes "no device here") office
other_said next line text office most is some first =
    short next line office most ∙ ap (λ l. answers_of_text next l office) (sym is) ∙ other_text next text office some first

-- what was read of a line is what it asks for, but for want of memory
abbrev refusal : TextFault → Result Ask TextFault
refusal fault = Err fault

pub read_fault : (text : List ℕ) (fault : TextFault) → fault ≢ text_fault.Memory → (refusal fault ≢ Err text_fault.Memory → refusal fault ≡ ask_in text)
    → ask_in text ≡ Err fault
read_fault text fault other value = sym (value (λ same. other (let is : fault ≡ text_fault.Memory = cc in is)))
