-- A ring, call by call, by what it keeps.
use Rattle.std.proofs.Common.{◌≡◌, ◌≢◌, ℕ, ◌+◌, ◌-◌, ◌*◌, ◌/◌, ◌%◌, ◌<◌, ◌≤◌, true, Option, Some, None, Result, List, length, take, sym, ◌∙◌, ap, subst, arith}
use Rattle.std.specs.Prelude.{IfSome, IfOk, OnOk, OnErr, ◌&&◌, is_some, slice_index, slice_set}
use Rattle.std.proofs.lemmas.List.{get_or-take}
use Rattle.paygo_spec.specs.Flash.{Passes, Fails, Becomes, TornErase, TornProgram, erased_word, erased_bank}
use Rattle.bank_ring.specs.declared.pair.Pair.{Pair}
use Rattle.media_ports.specs.Media.{MediaView, IsMedia, MediaPasses, MediaFails, same_counts, erased_once}
use Rattle.bank_ring.specs.View.{IsPair, flash_view, header, in_slot, pair_with, start_pair}
use Rattle.bank_ring.specs.Starts.{start_same, start_range}
use Rattle.bank_ring.proofs.Calls.{on_ok, on_err, if_ok, read_seen, erased_seen, program_passes, program_fails, erase_passes, erase_fails}

-- the pair that is shown is in range
kept_range : (banks : ℕ) (kept : Option Pair) (pair : Pair) → kept ≡ Some pair → IfSome kept (IsPair banks) → IsPair banks pair
kept_range banks kept pair e in_range = subst (λ k. IfSome k (IsPair banks)) e in_range

module _ (old new : MediaView) (kept : Option Pair) (pair : Pair) (bank at : ℕ) (is : IsMedia old) (in_range : IfSome kept (IsPair old.banks)) (e : kept ≡ Some pair) (small : at < 1024) (shows : bank ≡ in_slot pair (at / 512)) where
  pub read_kept : (word : ℕ) → IfSome old.words (λ words. word ≡ slice_index words (bank * 512 + at % 512)) → IfSome (flash_view old kept).words (λ words. word ≡ slice_index words at)
  read_kept word h = subst (λ k. IfSome (flash_view old k).words (λ words. word ≡ slice_index words at)) (sym e) (read_seen old new pair bank at is (kept_range _ kept pair e in_range) small shows word h)

  pub erased_kept : IfSome (flash_view old kept).words (λ words. slice_index words at ≡ erased_word) → IfSome old.words (λ words. slice_index words (bank * 512 + at % 512) ≡ erased_word)
  erased_kept h = erased_seen old new pair bank at is (kept_range _ kept pair e in_range) small shows (subst (λ k. IfSome (flash_view old k).words (λ words. slice_index words at ≡ erased_word)) e h)

  pub passes_kept : (w : ℕ) → MediaPasses (λ words. slice_set words (bank * 512 + at % 512) w) same_counts old new → Passes (λ words. slice_set words at w) (flash_view old kept) (flash_view new kept)
  passes_kept w p = subst (λ k. Passes (λ words. slice_set words at w) (flash_view old k) (flash_view new k)) (sym e) (program_passes old new pair bank at is (kept_range _ kept pair e in_range) small shows w p)

  pub fails_kept : (w : ℕ) → (is_some kept && old.up) ≡ true → (old.up ≡ true → MediaFails (Becomes (TornProgram (bank * 512 + at % 512) w)) old new) → Fails (Becomes (TornProgram at w)) (flash_view old kept) (flash_view new kept)
  fails_kept w up f =
      let live : old.up ≡ true = subst (λ k. (is_some k && old.up) ≡ true) e up in
      subst (λ k. Fails (Becomes (TornProgram at w)) (flash_view old k) (flash_view new k)) (sym e) (program_fails old new pair bank at is (kept_range _ kept pair e in_range) small shows w (f live))

  -- the same for what a call answers
  pub read_answer : {E : Type 0} (r : Result ℕ E) → IfOk r (λ word. IfSome old.words (λ words. word ≡ slice_index words (bank * 512 + at % 512))) → IfOk r (λ word. IfSome (flash_view old kept).words (λ words. word ≡ slice_index words at))
  read_answer r h = if_ok (λ word. IfSome old.words (λ words. word ≡ slice_index words (bank * 512 + at % 512))) (λ word. IfSome (flash_view old kept).words (λ words. word ≡ slice_index words at)) r read_kept h

  pub passes_answer : {T E : Type 0} (w : ℕ) (r : Result T E) → OnOk r (MediaPasses (λ words. slice_set words (bank * 512 + at % 512) w) same_counts old new) → OnOk r (Passes (λ words. slice_set words at w) (flash_view old kept) (flash_view new kept))
  passes_answer w r h = on_ok (MediaPasses (λ words. slice_set words (bank * 512 + at % 512) w) same_counts old new) (Passes (λ words. slice_set words at w) (flash_view old kept) (flash_view new kept)) r (passes_kept w) h

  pub fails_answer : {T E : Type 0} (w : ℕ) (r : Result T E) → OnErr r (old.up ≡ true → MediaFails (Becomes (TornProgram (bank * 512 + at % 512) w)) old new) → OnErr r ((is_some kept && old.up) ≡ true → Fails (Becomes (TornProgram at w)) (flash_view old kept) (flash_view new kept))
  fails_answer w r h = on_err (old.up ≡ true → MediaFails (Becomes (TornProgram (bank * 512 + at % 512) w)) old new) ((is_some kept && old.up) ≡ true → Fails (Becomes (TornProgram at w)) (flash_view old kept) (flash_view new kept)) r (λ f up. fails_kept w up f) h

module _ (old mid new : MediaView) (kept : Option Pair) (pair : Pair) (s slot bank : ℕ) (is : IsMedia old) (in_range : IfSome kept (IsPair old.banks)) (e : kept ≡ Some pair) (same : mid ≡ old) (two : s < 2) (slot_is : slot ≡ s) (other : bank ≢ in_slot pair (1 - slot)) where
  pub turn_passes : bank < old.banks → MediaPasses (erased_bank bank) (erased_once bank) mid new → Passes (erased_bank s) (flash_view old kept) (flash_view new (Some (pair_with pair slot bank)))
  turn_passes below p =
      subst (λ n. Passes (erased_bank n) (flash_view old kept) (flash_view new (Some (pair_with pair slot bank)))) slot_is
      (subst (λ k. Passes (erased_bank slot) (flash_view old k) (flash_view new (Some (pair_with pair slot bank)))) (sym e)
      (erase_passes old new pair slot bank is (kept_range _ kept pair e in_range) (omega arith) other below (subst (λ m. MediaPasses (erased_bank bank) (erased_once bank) m new) same p)))

  pub turn_fails : (is_some kept && old.up) ≡ true → (mid.up ≡ true → MediaFails (Becomes (TornErase bank)) mid new) → Fails (Becomes (TornErase s)) (flash_view old kept) (flash_view new kept)
  turn_fails up f =
      let live : old.up ≡ true = subst (λ k. (is_some k && old.up) ≡ true) e up in
      let f_old : old.up ≡ true → MediaFails (Becomes (TornErase bank)) old new = subst (λ (m : MediaView). m.up ≡ true → MediaFails (Becomes (TornErase bank)) m new) same f in
      subst (λ n. Fails (Becomes (TornErase n)) (flash_view old kept) (flash_view new kept)) slot_is
      (subst (λ k. Fails (Becomes (TornErase slot)) (flash_view old k) (flash_view new k)) (sym e)
      (erase_fails old new pair slot bank is (kept_range _ kept pair e in_range) (omega arith) other (f_old live)))

-- the pair by the headers that were read
headers_same : (headers words : List ℕ) (banks : ℕ) → banks ≤ length headers → ((b : ℕ) → b < banks → slice_index headers b ≡ header words b) → start_pair (λ b. slice_index (take banks headers) b) banks ≡ start_pair (header words) banks
headers_same headers words banks fits read = start_same (λ b. slice_index (take banks headers) b) (header words) banks (λ b l. get_or-take banks headers b 0 l ∙ read b l)

pub started : (told : Option (List ℕ)) (headers : List ℕ) (cut banks count : ℕ) (pair : Pair) → banks ≤ length headers → cut ≡ banks → banks ≡ count
    → IfSome told (λ words. (b : ℕ) → b < banks → slice_index headers b ≡ header words b) → pair ≡ start_pair (λ b. slice_index (take cut headers) b) banks
    → IfSome told (λ words. pair ≡ start_pair (header words) count)
started None headers cut banks count pair fits whole same read is = tt
started (Some words) headers cut banks count pair fits whole same read is =
    is ∙ ap (λ n. start_pair (λ b. slice_index (take n headers) b) banks) whole ∙ headers_same headers words banks fits read ∙ ap (λ n. start_pair (header words) n) same

pub started_range : (h : ℕ → ℕ) (banks count : ℕ) (pair : Pair) → banks ≡ count → 2 ≤ count → pair ≡ start_pair h banks → IsPair count pair
started_range h banks count pair same two is = subst (λ n. IsPair n pair) same (subst (λ p. IsPair banks p) (sym is) (start_range h banks (omega arith)))
