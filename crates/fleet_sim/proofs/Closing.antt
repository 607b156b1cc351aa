-- What stands at the end, and the totals.
use Rattle.std.proofs.Common.{◌≡◌, ℕ, ◌+◌, ◌-◌, ◌^◌, ◌<◌, ◌≤◌, min, List, [], ◌∷◌, take, drop, length, get_or, set, add-zero, Option, Some, refl, sym, ap, ◌∙◌, arith, subst}
use Rattle.std.specs.Prelude.{slice_get, sum_by, IfSome}
use Rattle.std.specs.List.{AllZip}
use Rattle.std.proofs.lemmas.List.{take_all, get_or-drop, drop-set-lt, drop-drop}
use Rattle.std.proofs.lemmas.Option.{get_or_from_slice_get, slice_get_read, slice_get_within}
use Rattle.std.proofs.lemmas.List.Sums.{sum_by_more}
use Rattle.ledger_spec.specs.declared.Enrol.{Enrol}
use Rattle.ledger_spec.specs.Tables.{Tables}
use Rattle.fleet_spec.specs.declared.Step.{Step}
use Rattle.fleet_spec.specs.declared.Totals.{Totals}
use Rattle.fleet_spec.specs.Fleet.{Site, Fleet, Came, is_accepted, is_old, is_invalid, is_blocked, is_down, left_of, still}
use Rattle.fleet_sim.specs.declared.tally.Tally.{Tally}
use Rattle.fleet_sim.specs.Tallies.{counted}
use Rattle.fleet_sim.specs.Sites.{SiteView, StandsFor}
use Rattle.fleet_sim.specs.Fleets.{FleetView, IsSold, Runs, TotalsAre}
use Rattle.fleet_sim.proofs.Counting.{more_by-none}
use Rattle.fleet_sim.proofs.Stepping.{site_at}

-- the seconds left on a device of a fleet
abbrev pub left_at : Site → ℕ
left_at site = left_of site.device.stored

-- the seconds left on all devices that these stand for
abbrev pub IsLeft : List SiteView → ℕ → ℕ → Type 0
IsLeft views count left =
    (sites : List Site) → AllZip StandsFor views sites → left ≡ still (sum_by left_at (take count sites))

-- the same device stands there, where the rest from there on is the same
pub same_at : (views others : List SiteView) (i : ℕ) (view : SiteView) → i < length others
    → drop i views ≡ drop i others → view ≡ get_or views i view → slice_get others i ≡ Some view
same_at views others i view within rest is =
    let here : get_or views i view ≡ get_or (drop i views) 0 view =
    ap (λ k. get_or views k view) (sym (add-zero i)) ∙ sym (get_or-drop i views 0 view) in
    let there : get_or (drop i others) 0 view ≡ get_or others i view =
    get_or-drop i others 0 view ∙ ap (λ k. get_or others k view) (add-zero i) in
    let read : get_or views i view ≡ get_or others i view = here ∙ ap (λ l. get_or l 0 view) rest ∙ there in
    slice_get_read others (length others) i view refl within (is ∙ read)

-- the rest behind it, where it is another
pub rest_more : (views others : List SiteView) (i : ℕ) (view : SiteView) → drop i views ≡ drop i others
    → drop (i + 1) (set views i view) ≡ drop (i + 1) others
rest_more views others i view rest =
    drop-set-lt (i + 1) views i view (omega arith) ∙ sym (drop-drop 1 i views) ∙ ap (drop 1) rest ∙ drop-drop 1 i others

pub left_more : (views : List SiteView) (at : ℕ) (view : SiteView) (before left : ℕ) → slice_get views at ≡ Some view
    → IsLeft views at before → ((site : Site) → StandsFor view site → left ≡ left_of site.device.stored)
    → IsLeft views (at + 1) (min (before + left) (2 ^ 64 - 1))
left_more views at view before left found so_far here sites stand =
    let site = site_at views sites at view stand found in
    let so : before ≡ still (sum_by left_at (take at sites)) = so_far sites stand in
    let one : left ≡ left_at site.0 = here site.0 site.2 in
    let more : sum_by left_at (take (at + 1) sites) ≡ sum_by left_at (take at sites) + left_at site.0 =
    sum_by_more left_at sites at site.0 (slice_get_within sites at site.0 site.1)
    ∙ ap (λ (s : Site). sum_by left_at (take at sites) + left_at s) (get_or_from_slice_get sites at site.0 site.0 site.1) in
    rw more (omega (arith, so, one))

length_stand : (views : List SiteView) (sites : List Site) → AllZip StandsFor views sites → length views ≡ length sites
length_stand [] [] stand = refl
length_stand (v ∷ views) (s ∷ sites) stand = let rest = length_stand views sites stand.1 in omega (arith, rest)
length_stand [] (s ∷ sites) stand = absurd stand
length_stand (v ∷ views) [] stand = absurd stand

pub all_left : (views : List SiteView) (count left : ℕ) → length views ≤ count → IsLeft views count left
    → (sites : List Site) → AllZip StandsFor views sites → left ≡ still (sum_by left_at sites)
all_left views count left most is sites stand =
    let size = length_stand views sites stand in
    is sites stand ∙ ap (λ l. still (sum_by left_at l)) (take_all count sites (omega (arith, most, size)))

-- the totals of so many orders, these answers, and so much time left
abbrev with_tally : ℕ → Tally → ℕ → Totals
with_tally orders tally left = record {
  orders = orders;
  accepted = tally.accepted;
  old = tally.outdated;
  invalid = tally.invalid;
  blocked = tally.blocked;
  down = tally.down;
  left = left;
}

pub totals_are : (view : FleetView) (orders left : ℕ) → orders < 2 ^ 64
    → IfSome view.tables (λ tables. orders ≡ length tables.orders)
    → ((sites : List Site) → AllZip StandsFor view.sites sites → left ≡ still (sum_by left_at sites))
    → TotalsAre view (with_tally orders view.tally left)
totals_are view orders left fits kept is_left fleet answers stands tally =
    let kept_so : orders ≡ length fleet.tables.orders =
    subst (λ (o : Option Tables). IfSome o (λ tables. orders ≡ length tables.orders)) stands.tables kept in
    let orders_so : orders ≡ still (length fleet.tables.orders) = omega (arith, kept_so, fits) in
    let accepted : view.tally.accepted ≡ still _ = ap (λ (t : Tally). t.accepted) tally ∙ more_by-none is_accepted answers in
    let outdated : view.tally.outdated ≡ still _ = ap (λ (t : Tally). t.outdated) tally ∙ more_by-none is_old answers in
    let invalid : view.tally.invalid ≡ still _ = ap (λ (t : Tally). t.invalid) tally ∙ more_by-none is_invalid answers in
    let blocked : view.tally.blocked ≡ still _ = ap (λ (t : Tally). t.blocked) tally ∙ more_by-none is_blocked answers in
    let down : view.tally.down ≡ still _ = ap (λ (t : Tally). t.down) tally ∙ more_by-none is_down answers in
    let left_so = is_left fleet.sites stands.sites in
    rw (orders_so, accepted, outdated, invalid, blocked, down, left_so) refl

-- what came of a fleet
pub came : (next : List ℕ → ℕ → ℕ) (enrols : List Enrol) (steps : List Step) (start end : FleetView) (totals : Totals)
    → IsSold next enrols start → Runs next enrols steps start end → TotalsAre end totals → Came next enrols steps totals
came next enrols steps start end totals is runs are =
    let fleet : Fleet = record { tables = _; sites = is.sites } in
    let went = runs.follows fleet (record { tables = is.tables; sites = is.stand }) in
    record {
      start = fleet;
      begins = record { tables = refl; sites = is.made };
      answers = runs.answers;
      end = went.0;
      goes = went.1;
      totals_are = are went.0 runs.answers went.2 (runs.tally_is ∙ ap (counted runs.answers) is.tally);
    }
