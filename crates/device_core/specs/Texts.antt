-- The replies to an entry at the keypad.
use Rattle.std.specs.Prelude.{Bool, true, false}
use Rattle.paygo_spec.specs.declared.Reply.{Reply}
use Rattle.paygo_spec.specs.declared.Reply.TheVariants.{Set, Added, Free, Synced, Old, Invalid, Blocked, Length, Digits}

-- The reply is one that only an entry at the keypad has.
abbrev pub is_of_entry : Reply → Bool
is_of_entry (Set count value left) = true
is_of_entry (Added count value left free) = true
is_of_entry (Free count) = true
is_of_entry (Synced count) = true
is_of_entry Old = true
is_of_entry (Invalid block) = true
is_of_entry (Blocked block) = true
is_of_entry (Length n) = true
is_of_entry (Digits place) = true
is_of_entry _ = false
