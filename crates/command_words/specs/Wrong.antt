-- Which of the words of the command line is wrong.
use Rattle.std.specs.Prelude.{ℕ, suc, ◌-◌, ◌^◌, ◌==◌, not, length, Bool, true, false, List, [], ◌∷◌, codes, Option, Some, None, IsSome, if◌then◌else◌}
use Rattle.std.specs.Option.{is_some, option_map}
use Rattle.std.specs.Str.{bytes_eq}
use Rattle.paygo_spec.specs.Words.{key_in}
use Rattle.ledger_spec.specs.Names.{name_in}
use Rattle.command_words.specs.declared.wrong.Form.{Form}
use Rattle.command_words.specs.declared.wrong.Form.TheVariants as form
use Rattle.command_words.specs.Forms.{number_between, floor_in}

-- Whether a word has a form.
abbrev pub fits : Form → List ℕ → Bool
fits form.File word = not (length word == 0)
fits form.Serial word = is_some (name_in 16 word)
fits form.Floor word = is_some (floor_in word)
fits form.Key word = is_some (key_in word)
fits (form.Number least most) word = is_some (number_between least most word)

-- The forms of the words behind the first, by the first; no other word is a first one.
abbrev pub forms_for : List ℕ → Option (List Form)
forms_for word =
    if bytes_eq word (codes "check") then Some []
    else if bytes_eq word (codes "serve") then Some (form.File ∷ [])
    else if bytes_eq word (codes "device") then Some (form.File ∷ [])
    else if bytes_eq word (codes "audit") then Some (form.File ∷ [])
    else if bytes_eq word (codes "sheets") then Some (form.File ∷ [])
    else if bytes_eq word (codes "sound") then Some (form.File ∷ [])
    else if bytes_eq word (codes "bench") then Some (form.File ∷ form.File ∷ [])
    else if bytes_eq word (codes "ring") then Some (form.File ∷ form.Number 2 16 ∷ [])
    else if bytes_eq word (codes "advise") then Some (form.File ∷ form.Serial ∷ form.Floor ∷ [])
    else if bytes_eq word (codes "values")
    then Some (form.Key ∷ form.Number 0 999999999 ∷ form.Number 0 4095 ∷ [])
    else if bytes_eq word (codes "fleet")
    then Some (form.Number 0 (2 ^ 64 - 1) ∷ form.Number 1 200 ∷ form.Number 1 400 ∷ [])
    else None

-- The place of the first of some words that hasn't its form, from 0 on. One that is missing stands behind the last one,
-- and one that is too many behind the forms.
abbrev pub first_wrong : List Form → List (List ℕ) → Option ℕ
first_wrong [] [] = None
first_wrong [] (word ∷ words) = Some 0
first_wrong (form ∷ forms) [] = Some 0
first_wrong (form ∷ forms) (word ∷ words) = if fits form word then option_map suc (first_wrong forms words) else Some 0

-- The same of the words behind the first, counted from that one.
abbrev pub wrong_behind : Option (List Form) → List (List ℕ) → Option ℕ
wrong_behind None words = Some 0
wrong_behind (Some forms) words = option_map suc (first_wrong forms words)

-- The place of the first word of the command line that is wrong, from 0 on, if one is.
abbrev pub wrong_of : List (List ℕ) → Option ℕ
wrong_of [] = Some 0
wrong_of (word ∷ words) = wrong_behind (forms_for word) words
