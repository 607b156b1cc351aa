-- The forms of words on the command line, and what is said of a status.
use Rattle.std.specs.Prelude.{◌==◌, ◌&&◌, ◌-◌, ◌^◌, ◌<◌, ◌≤◌, nat_le, nat_lt, length, Bool, true, false, List, [], ◌∷◌, ℕ, codes, Option, Some, None, option_and_then, if◌then◌else◌}
use Rattle.std.specs.Str.{bytes_eq}
use Rattle.paygo_spec.specs.declared.TheConstants.{LAST}
use Rattle.paygo_spec.specs.Words.{decimal_in, key_in}
use Rattle.ledger_spec.specs.Names.{name_in}
use Rattle.run_spec.specs.declared.Mode.TheVariants as mode
use Rattle.run_spec.specs.declared.Status.{Status}
use Rattle.run_spec.specs.declared.Status.TheVariants as status
use Rattle.command_words.specs.declared.words.Candidate.{Candidate}
use Rattle.command_words.specs.declared.words.Work.{Work}
use Rattle.command_words.specs.declared.words.Work.TheVariants as work

-- `check`
abbrev pub work_alone : List ℕ → Option Work
work_alone word = if bytes_eq word (codes "check") then Some work.Check else None

-- What the words ask for by the first one and the name of one file, which isn't empty: `serve DB`, `device FLASH`, `audit DB`,
-- `sheets DB` or `sound DB`.
abbrev pub work_with_file : List ℕ → List ℕ → Option Work
work_with_file word file =
    if length file == 0 then None
    else if bytes_eq word (codes "serve") then Some (work.Lines mode.Serve)
    else if bytes_eq word (codes "device") then Some (work.Lines mode.Device)
    else if bytes_eq word (codes "audit") then Some work.Audit
    else if bytes_eq word (codes "sheets") then Some work.Sheets
    else if bytes_eq word (codes "sound") then Some work.Sound
    else None

-- The number that a word of 1 to 20 decimal digits says, where it lies between these two.
abbrev pub number_between : ℕ → ℕ → List ℕ → Option ℕ
number_between least most word =
    option_and_then (λ n. if nat_le least n && nat_le n most then Some n else None) (decimal_in 20 word)

-- How many banks the words `ring FLASH BANKS` name, from 2 to 16; other words name none.
abbrev pub banks_with : List ℕ → List ℕ → Option ℕ
banks_with word banks = if bytes_eq word (codes "ring") then number_between 2 16 banks else None

abbrev pub banks_of : List (List ℕ) → Option ℕ
banks_of (word ∷ flash ∷ banks ∷ []) = banks_with word banks
banks_of _ = None

-- A device over a ring of so many banks does what one over a flash of two does.
abbrev pub work_with_banks : Option ℕ → Option Work
work_with_banks None = None
work_with_banks (Some banks) = Some (work.Lines mode.Device)

-- `bench DB FLASH` or `ring FLASH BANKS`
abbrev pub work_with_files : List ℕ → List ℕ → List ℕ → Option Work
work_with_files word first second =
    if length first == 0 then None
    else if length second == 0 then None
    else if bytes_eq word (codes "bench") then Some (work.Lines mode.Both)
    else work_with_banks (banks_with word second)

-- A fleet of these numbers: any seed of 64 bits, 1 to 200 devices and 1 to 400 days.
abbrev pub fleet_of : Option ℕ → Option ℕ → Option ℕ → Option Work
fleet_of (Some seed) (Some devices) (Some days) = Some (work.Fleet seed devices days)
fleet_of _ _ _ = None

-- `fleet SEED DEVICES DAYS`
abbrev pub work_with_numbers : List ℕ → List ℕ → List ℕ → List ℕ → Option Work
work_with_numbers word seed devices days =
    if bytes_eq word (codes "fleet")
    then fleet_of (number_between 0 (2 ^ 64 - 1) seed) (number_between 1 200 devices) (number_between 1 400 days)
    else None

-- The least that a device's last count may be: a word of 1 to 5 decimal digits whose number is at most 16,383.
abbrev pub floor_in : List ℕ → Option ℕ
floor_in word = if nat_lt 5 (length word) then None else number_between 0 16383 word

-- Advice for the device of this serial from this count on.
abbrev pub advice_of : Option (List ℕ) → Option ℕ → Option Work
advice_of (Some serial) (Some floor) = Some (work.Advise record { serial = serial; floor = floor })
advice_of _ _ = None

-- `advise DB SERIAL FLOOR`, where the name of the file isn't empty, and the serial is a name of at most 16 bytes.
abbrev pub work_with_serial : List ℕ → List ℕ → List ℕ → Option Work
work_with_serial file serial floor =
    if length file == 0 then None else advice_of (name_in 16 serial) (floor_in floor)

-- The values of a device with this key and this starting code are looked at, for last counts up to this limit.
abbrev pub values_of : Option (List ℕ) → Option ℕ → Option ℕ → Option Work
values_of (Some key) (Some start) (Some limit) =
    Some (work.Values record { key = key; start = start; limit = limit })
values_of _ _ _ = None

-- `values KEY START LIMIT`: a key of 32 hexadecimal digits, a starting code below 10^9, and a last count up to 4,095.
abbrev pub work_with_key : List ℕ → List ℕ → List ℕ → Option Work
work_with_key key start limit =
    values_of (key_in key) (number_between 0 999999999 start) (number_between 0 4095 limit)

-- `advise DB SERIAL FLOOR`, `values KEY START LIMIT` or `fleet SEED DEVICES DAYS`
abbrev pub work_with_three : List ℕ → List ℕ → List ℕ → List ℕ → Option Work
work_with_three word first second third =
    if bytes_eq word (codes "advise")
    then work_with_serial first second third
    else if bytes_eq word (codes "values")
    then work_with_key first second third
    else work_with_numbers word first second third

-- Other words are of no form.
abbrev pub work_of : List (List ℕ) → Option Work
work_of (word ∷ []) = work_alone word
work_of (word ∷ file ∷ []) = work_with_file word file
work_of (word ∷ tables ∷ flash ∷ []) = work_with_files word tables flash
work_of (word ∷ first ∷ second ∷ third ∷ []) = work_with_three word first second third
work_of _ = None

-- Whether what is asked for takes the lines of the input.
abbrev pub takes_lines : Option Work → Bool
takes_lines (Some (work.Lines mode)) = true
takes_lines (Some work.Check) = true
takes_lines (Some work.Sheets) = true
takes_lines _ = false

-- The numbers of a fleet are in range.
pub record FleetIsInRange (devices days : ℕ) : Type 0 where
  pub devices_are : (1 ≤ devices) × (devices ≤ 200)
  pub days_are : (1 ≤ days) × (days ≤ 400)

-- What is told of a device whose values are looked at is in range.
pub record CandidateIsInRange (candidate : Candidate) : Type 0 where
  pub start : candidate.start < 10 ^ 9
  pub limit : candidate.limit ≤ LAST

abbrev pub WorkIsInRange : Work → Type 0
WorkIsInRange (work.Fleet seed devices days) = FleetIsInRange devices days
WorkIsInRange (work.Values candidate) = CandidateIsInRange candidate
WorkIsInRange _ = Unit {0}

-- What the program writes to standard error for a status, without the end of the line.
abbrev pub message_of : Status → Option (List ℕ)
message_of status.Ok = None
message_of status.Usage =
    Some (codes "usage: paygo serve DB | device FLASH | bench DB FLASH | audit DB | fleet SEED DEVICES DAYS | sheets DB | advise DB SERIAL FLOOR | check | ring FLASH BANKS | sound DB | values KEY START LIMIT")
message_of status.Read = Some (codes "paygo: read fault")
message_of status.Write = Some (codes "paygo: write fault")
message_of status.Keep = Some (codes "paygo: keeper fault")
message_of status.Memory = Some (codes "paygo: out of memory")
message_of status.Long = Some (codes "paygo: input too long")
