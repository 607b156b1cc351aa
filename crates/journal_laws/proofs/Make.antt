-- A device is made on a flash without one, whatever a power cut leaves of it.
use Rattle.std.proofs.Common.{◌≡◌, ℕ, true, false, ◌^◌, ◌<◌, ◌⊎◌, inl, inr, List, arith, refl, sym, subst, lit<, ⊎_elim, get_or-set_same}
use Rattle.std.specs.Prelude.{slice_set}
use Rattle.std.proofs.lemmas.Bool.{cases_Bool}
use Rattle.paygo_spec.specs.declared.Config.{Config}
use Rattle.paygo_spec.specs.Flash.{HasOnesOf}
use Rattle.paygo_spec.specs.Rail.{railed, is_railed}
use Rattle.paygo_spec.specs.History.{fresh}
use Rattle.paygo_spec.specs.Machine.{IsConfig}
use Rattle.paygo_spec.specs.Layout.{head_number}
use Rattle.paygo_spec.specs.Recovery.{word_at}
use Rattle.paygo_spec.proofs.Windows.{fresh_keeps}
use Rattle.word_rail.proofs.Bits.{railed_if_same, torn_of_railed}
use Rattle.journal_laws.specs.Journal.{new_journal}
use Rattle.journal_laws.specs.Banks.{BanksHold, BanksHoldNone, IsBegun, IsJournal, IsKeyBytes, IsQuiet}
use Rattle.journal_laws.proofs.Words.{words_set, railed_number, railed_fits, railed_paired}
use Rattle.journal_laws.proofs.OtherHeader.{quiet_is, quiet_behind}
use Rattle.journal_laws.proofs.Begin.{begun_whole, other_word}

-- a new journal is in range
pub new_ranges : (config : Config) → IsKeyBytes config.key → IsConfig config → IsJournal (new_journal config)
new_ranges config key c =
    record { bank = lit< tt; first = omega arith; last = omega arith; behind_head = omega arith; within = omega arith; key = key; config = c; summary = fresh_keeps }

-- the header was written whole
pub make_whole : (ws : List ℕ) (config : Config) → IsKeyBytes config.key → IsConfig config → IsBegun ws 0 (head_number 1 config fresh) 12 → BanksHoldNone ws → BanksHold (slice_set ws 0 (railed 1)) (new_journal config)
make_whole ws config key c begun h = begun_whole ws 0 1 config fresh 0 refl h.whole (lit< tt) begun (new_ranges config key c) (quiet_behind (word_at ws 1 0) 1 h.second)

-- the header was torn: there is no device, or the new one
pub make_torn : (ws : List ℕ) (config : Config) (t : ℕ) → IsKeyBytes config.key → IsConfig config → IsBegun ws 0 (head_number 1 config fresh) 12 → t < 2 ^ 64 → HasOnesOf (railed 1) t → BanksHoldNone ws
    → BanksHoldNone (slice_set ws 0 t) ⊎ BanksHold (slice_set ws 0 t) (new_journal config)
make_torn ws config t key c begun fits ones h =
    let w = railed_fits 1 (lit< tt) in
    ⊎_elim
    (λ (r : is_railed t ≡ true).
    let same = railed_if_same (railed 1) t w fits (railed_paired 1 (lit< tt)) ones r in
    inr (subst (λ x. BanksHold (slice_set ws 0 x) (new_journal config)) (sym same) (make_whole ws config key c begun h)))
    (λ (r : is_railed t ≡ false).
    let p = torn_of_railed (railed 1) t w fits (railed_number 1 (lit< tt)).0 ones in
    inl (record {
      whole = words_set ws 0 t h.whole fits;
      first = subst (λ x. IsQuiet x) (sym (get_or-set_same ws 0 t 0 (omega (arith, h.whole.count)))) (quiet_is t p r);
      second = subst (λ x. IsQuiet x) (sym (other_word ws 0 t 1 0 (λ q. omega arith))) h.second;
    }))
    (cases_Bool (is_railed t))
