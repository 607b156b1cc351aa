-- What happens in a fleet, as a number draws it: who its devices are, and the steps of each of its days.
use Rattle.std.specs.Prelude.{ℕ, ◌-◌, ◌/◌, ◌%◌, ◌^◌, ◌==◌, nat_le, List, [], ◌∷◌, ◌++◌, map, codes, if◌then◌else◌}
use Rattle.std.specs.List.{flat_map, range_with_len}
use Rattle.std.specs.Fmt.{decimal}
use Rattle.std.specs.Int.{w64, to_be_bytes}
use Rattle.paygo_spec.specs.declared.Form.{Form}
use Rattle.paygo_spec.specs.declared.Form.TheVariants.{Nine, Fifteen}
use Rattle.paygo_spec.specs.declared.Cut.{Cut}
use Rattle.ledger_spec.specs.declared.Enrol.{Enrol}
use Rattle.ledger_spec.specs.declared.Command.TheVariants.{Pay}
use Rattle.fleet_spec.specs.declared.Step.{Step}
use Rattle.fleet_spec.specs.declared.Step.TheVariants.{Ledger, Plan, Wrong, Enter, Tick, Power}
use Rattle.fleet_spec.specs.Words.{word, word_on}

-- The serial of a device: `f` and its number.
abbrev pub serial_of : ℕ → List ℕ
serial_of device = codes "f" ++ decimal device

-- Customers type nine digits on devices of even number, and fifteen on the others.
abbrev pub form_of_device : ℕ → Form
form_of_device device = if device % 2 == 0 then Nine else Fifteen

-- What a device is enrolled with. Its key is the seed and its number, and its starting code the word drawn for it.
abbrev pub enrol_of : ℕ → ℕ → Enrol
enrol_of seed device = record {
  serial = serial_of device;
  key = to_be_bytes w64 seed ++ to_be_bytes w64 device;
  start = word seed device % 10 ^ 9;
  divider = 1;
  form = form_of_device device;
  price = 50;
  total = 18000;
}

-- The devices that are sold.
abbrev pub enrols_of : ℕ → ℕ → List Enrol
enrols_of seed devices = map (enrol_of seed) (range_with_len 0 devices)

-- The day of the week's payment, which is the first day of seven: of this day's week, and of the week before.
abbrev pub pay_day : ℕ → ℕ
pay_day day = day - day % 7

-- The id of a device's payment of a week, by the day of that payment: `f`, the device, `-` and the day.
abbrev pub id_of : ℕ → ℕ → List ℕ
id_of device day = codes "f" ++ decimal device ++ codes "-" ++ decimal day

-- So many bits of a word from this bit on, as a number.
abbrev pub bits_of : ℕ → ℕ → ℕ → ℕ
bits_of word from count = word / 2 ^ from % 2 ^ count

-- On the day of payment the customer pays a week, in one of four weeks twice with the same id.
abbrev pub payment : ℕ → ℕ → Step
payment device day = Ledger (Pay (id_of device day) (serial_of device) 350)

abbrev pub payments : ℕ → ℕ → ℕ → List Step
payments word day device =
    if day % 7 == 0
    then (if bits_of word 0 2 == 0 then payment device day ∷ payment device day ∷ [] else payment device day ∷ [])
    else []

-- The bits that a planned power cut leaves 1.
abbrev pub keep_of : ℕ → ℕ
keep_of choice =
    if choice == 0 then 0
    else if choice == 1 then 2 ^ 64 - 1
    else if choice == 2 then 2 ^ 32 - 1
    else 0x5555555555555555

-- The power cut that a word plans: after at most fifteen calls of the flash.
abbrev pub cut_of : ℕ → Cut
cut_of word = record { after = bits_of word 10 4; keep = keep_of (bits_of word 14 2) }

-- On one of eight days a power cut is planned, and on one of eight wrong digits are typed.
abbrev pub plans : ℕ → ℕ → List Step
plans word device = if bits_of word 7 3 == 0 then Plan device (cut_of word) ∷ [] else []

abbrev pub mistakes : ℕ → ℕ → List Step
mistakes word device = if bits_of word 4 3 == 0 then Wrong device ∷ [] else []

-- The token of the week is typed not at all, once, twice, or once and behind it, where there was a week before, that week's.
abbrev pub entry : ℕ → ℕ → Step
entry device day = Enter device (id_of device day)

abbrev pub entries_by : ℕ → ℕ → ℕ → List Step
entries_by choice day device =
    if choice == 0 then []
    else if choice == 1 then entry device day ∷ []
    else if choice == 2 then entry device day ∷ entry device day ∷ []
    else if nat_le 7 day then entry device day ∷ entry device (day - 7) ∷ []
    else entry device day ∷ []

abbrev pub entries : ℕ → ℕ → ℕ → List Step
entries word day device = entries_by (bits_of word 2 2) (pay_day day) device

-- The day's hours pass.
abbrev pub hours : ℕ → List Step
hours device = map (λ hour. Tick device 3600) (range_with_len 0 24)

-- The steps of a device on a day, by the word that was drawn for it.
abbrev pub steps_by : ℕ → ℕ → ℕ → List Step
steps_by word day device =
    payments word day device
    ++ (plans word device ++ (mistakes word device ++ (entries word day device ++ (hours device ++ Power device ∷ []))))

-- The steps of a day, device by device.
abbrev pub steps_of_day : ℕ → ℕ → ℕ → List Step
steps_of_day seed devices day =
    flat_map (λ device. steps_by (word_on seed devices day device) day device) (range_with_len 0 devices)

-- The steps of all days.
abbrev pub steps_of : ℕ → ℕ → ℕ → List Step
steps_of seed devices days = flat_map (steps_of_day seed devices) (range_with_len 0 days)
