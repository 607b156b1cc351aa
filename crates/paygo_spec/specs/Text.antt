-- The texts of a device's replies, each as it stands on what was written before it.
use Rattle.std.specs.Prelude.{ℕ, Bool, List, ◌++◌, codes, if◌then◌else◌}
use Rattle.std.specs.Fmt.{decimal}
use Rattle.paygo_spec.specs.declared.Reply.{Reply}
use Rattle.paygo_spec.specs.declared.Reply.TheVariants.{Set, Added, Free, Synced, Old, Invalid, Blocked, Length, Digits, Worn, Down, Up, Ticked, Unmade, Made, Damaged, Shown, Raised}

-- A space and a number in decimal digits, without leading zeros.
abbrev pub with_number : List ℕ → ℕ → List ℕ
with_number front n = (front ++ codes " ") ++ decimal n

-- A space and the seconds left, or the word `free`.
abbrev pub with_left : List ℕ → ℕ → Bool → List ℕ
with_left front left free = if free then front ++ codes " free" else with_number front left

-- The text of a reply.
abbrev pub text_of : Reply → List ℕ
text_of (Set count value left) = with_number (with_number (with_number (codes "set") count) value) left
text_of (Added count value left free) = with_left (with_number (with_number (codes "added") count) value) left free
text_of (Free count) = with_number (codes "free") count
text_of (Synced count) = with_number (codes "synced") count
text_of Old = codes "old"
text_of (Invalid block) = with_number (codes "invalid") block
text_of (Blocked block) = with_number (codes "blocked") block
text_of (Length n) = with_number (codes "length") n
text_of (Digits place) = with_number (codes "digits") place
text_of Worn = codes "worn"
text_of Raised = codes "raised"
text_of Down = codes "down"
text_of (Up count left free block) = with_number (with_left (with_number (codes "up") count) left free) block
text_of (Ticked left free block) = with_number (with_left (codes "ticked") left free) block
text_of Unmade = codes "unmade"
text_of (Made number) = with_number (codes "made") number
text_of (Damaged place) = with_number (codes "damaged") place
text_of (Shown count left free fails block held room) =
    let clock = with_number (with_number (with_left (with_number (codes "shown") count) left free) fails) block in
    with_number (with_number clock held) room
