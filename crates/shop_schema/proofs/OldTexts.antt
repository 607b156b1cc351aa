-- The text of an older program, part by part.
use Rattle.std.proofs.Common.{◌≡◌, ℕ, ◌-◌, List, ◌++◌, length, take, drop, append_assoc, arith}
use Rattle.std.proofs.lemmas.Grind.{common_steps}
use Rattle.std.proofs.lemmas.List.{take-append-drop, drop-drop}

-- Three parts in a row are the whole.
pub of_parts : (s a e z : List ℕ) → take 13 s ≡ a → take 14 (drop 13 s) ≡ e → drop 27 s ≡ z → s ≡ a ++ e ++ z
of_parts s a e z first middle last =
    let whole : take 13 s ++ drop 13 s ≡ s = take-append-drop 13 s in
    let rest : take 14 (drop 13 s) ++ drop 14 (drop 13 s) ≡ drop 13 s = take-append-drop 14 (drop 13 s) in
    let end : drop 14 (drop 13 s) ≡ drop 27 s = drop-drop 14 13 s in
    let joined : (a ++ e) ++ z ≡ a ++ (e ++ z) = append_assoc a e z in
    cc

-- What a slice takes from a place on is all from there.
pub rest_whole : (k : ℕ) (s : List ℕ) → take (length s - k) (drop k s) ≡ drop k s
rest_whole k s = grind (arith, common_steps)
