-- What a ring shows, call by call.
use Rattle.std.proofs.Common.{ℕ, Option, Some, None}
use Rattle.std.specs.Prelude.{◌≤◌, IfSome, List}
use Rattle.std.specs.Option.{option_map}
use Rattle.paygo_spec.specs.Flash.{AreWords}
use Rattle.bank_ring.specs.declared.pair.Pair.{Pair}
use Rattle.media_ports.specs.Media.{MediaView, IsMedia, AreMediaWords}
use Rattle.bank_ring.specs.View.{IsPair, flash_view, header, pair_in, shown_words}
use Rattle.bank_ring.specs.Shown.{shown_whole}
use Rattle.bank_ring.specs.Starts.{start_range}

pair_range : (banks : ℕ) (words : List ℕ) (kept : Option Pair) → 2 ≤ banks → IfSome kept (IsPair banks) → IsPair banks (pair_in banks words kept)
pair_range banks words None two in_range = start_range (header words) banks two
pair_range banks words (Some pair) two in_range = in_range

whole_at : (banks : ℕ) (words : Option (List ℕ)) (kept : Option Pair) → 2 ≤ banks → IfSome words (AreMediaWords banks) → IfSome kept (IsPair banks) → IfSome (option_map (λ ws. shown_words ws (pair_in banks ws kept)) words) AreWords
whole_at banks None kept two are in_range = tt
whole_at banks (Some words) kept two are in_range = shown_whole banks words (pair_in banks words kept) are (pair_range banks words kept two in_range)

pub ring_whole : (media : MediaView) (kept : Option Pair) → IsMedia media → IfSome kept (IsPair media.banks) → IfSome (flash_view media kept).words AreWords
ring_whole media kept is in_range = whole_at media.banks media.words kept is.least is.words in_range
