-- Fleets that are alike: what is seen of their devices is the same, and no planned cut can fall on them.
use Rattle.std.proofs.Common.{◌≡◌, ℕ, zero, suc, ◌+◌, List, [], ◌∷◌, slice_get, slice_set, Option, Some, None, refl, ap, ◌∙◌, subst}
use Rattle.std.specs.List.{fold}
use Rattle.paygo_spec.specs.declared.Reply.{Reply}
use Rattle.ledger_spec.specs.Tables.{Tables}
use Rattle.fleet_spec.specs.Fleet.{Site, Fleet, left_of, still, totals_of}
use Rattle.fleet_laws.proofs.Acting.{Seen, seen_of, IsWhole}

-- The device's flash isn't damaged, and no cut is planned for it.
pub record IsCalm (site : Site) : Type 0 where
  pub whole : IsWhole site.device.stored
  pub due : site.due ≡ None

-- The same is seen of two devices, and both are calm.
pub record AreAlike (a b : Site) : Type 0 where
  pub same : seen_of a.device ≡ seen_of b.device
  pub first : IsCalm a
  pub second : IsCalm b

-- The devices of two lists are alike, place by place.
abbrev pub AllAlike : List Site → List Site → Type 0
AllAlike [] [] = Unit {0}
AllAlike (a ∷ first) (b ∷ second) = AreAlike a b × AllAlike first second
AllAlike _ _ = ⊥

-- Two fleets have the same tables, and devices that are alike.
pub record FleetsAlike (a b : Fleet) : Type 0 where
  pub tables : a.tables ≡ b.tables
  pub sites : AllAlike a.sites b.sites

no_site : (site : Site) → None ≡ Some site → ⊥
no_site site e = cc

-- two devices at one place are alike
pub found_alike : (first second : List Site) (at : ℕ) (a b : Site) → AllAlike first second
    → slice_get first at ≡ Some a → slice_get second at ≡ Some b → AreAlike a b
found_alike [] [] at a b alike is_a is_b = absurd (no_site a is_a)
found_alike (x ∷ first) (y ∷ second) zero a b alike is_a is_b =
    let at_a : x ≡ a = cc in
    let at_b : y ≡ b = cc in
    subst (λ (s : Site). AreAlike s b) at_a (subst (λ (s : Site). AreAlike x s) at_b alike.0)
found_alike (x ∷ first) (y ∷ second) (suc at) a b alike is_a is_b = found_alike first second at a b alike.1 is_a is_b
found_alike [] (y ∷ second) at a b alike is_a is_b = absurd alike
found_alike (x ∷ first) [] at a b alike is_a is_b = absurd alike

-- others that are alike may stand there
pub set_alike : (first second : List Site) (at : ℕ) (a b : Site) → AllAlike first second → AreAlike a b
    → AllAlike (slice_set first at a) (slice_set second at b)
set_alike [] [] at a b alike here = tt
set_alike (x ∷ first) (y ∷ second) zero a b alike here = (here, alike.1)
set_alike (x ∷ first) (y ∷ second) (suc at) a b alike here = (alike.0, set_alike first second at a b alike.1 here)
set_alike [] (y ∷ second) at a b alike here = absurd alike
set_alike (x ∷ first) [] at a b alike here = absurd alike

-- The seconds that are left on devices, and so many before.
abbrev left_on : ℕ → List Site → ℕ
left_on before sites = fold (λ seconds site. seconds + left_of site.device.stored) before sites

left_alike : (before : ℕ) (first second : List Site) → AllAlike first second → left_on before first ≡ left_on before second
left_alike before [] [] alike = refl
left_alike before (x ∷ first) (y ∷ second) alike =
    left_alike (before + left_of x.device.stored) first second alike.1
    ∙ ap (λ (seen : Seen). left_on (before + left_of seen.stored) second) alike.0.same
left_alike before [] (y ∷ second) alike = absurd alike
left_alike before (x ∷ first) [] alike = absurd alike

-- fleets that are alike have the same totals
pub totals_alike : (answers : List (Option Reply)) (a b : Fleet) → FleetsAlike a b → totals_of answers a ≡ totals_of answers b
totals_alike answers a b alike =
    let mixed : Fleet = record { tables = b.tables; sites = a.sites } in
    let left : left_on 0 a.sites ≡ left_on 0 b.sites = left_alike 0 a.sites b.sites alike.sites in
    ap (λ (t : Tables). totals_of answers (record { tables = t; sites = a.sites })) alike.tables
    ∙ ap (λ (n : ℕ). record (totals_of answers mixed) { left = still n }) left
