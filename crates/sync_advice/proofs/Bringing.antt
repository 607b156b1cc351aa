-- What the tokens of a climb make of a device, and what any tokens of the row make of it.
use Rattle.std.proofs.Common.{◌≡◌, ℕ, suc, ◌<◌, ◌≤◌, true, false, Option, Some, None, List, [], ◌∷◌, length, refl, sym, ap, ◌∙◌, subst, inl, inr, ⊎_elim, arith}
use Rattle.std.proofs.lemmas.Bool.{cases_Bool, cases_lt}
use Rattle.paygo_spec.specs.declared.Entry.{Entry}
use Rattle.paygo_spec.specs.declared.Entry.TheVariants.{Accept}
use Rattle.paygo_spec.specs.declared.Form.{Form}
use Rattle.paygo_spec.specs.declared.Found.{Found}
use Rattle.paygo_spec.specs.declared.Found.TheVariants.{Valid, Old, Invalid}
use Rattle.paygo_spec.specs.declared.TokenKind.{TokenKind}
use Rattle.paygo_spec.specs.declared.TokenKind.TheVariants.{Add, Set, Free, Sync}
use Rattle.paygo_spec.specs.Chain.{token_at}
use Rattle.paygo_spec.specs.Clock.{ClockView, clock_of, taken_by}
use Rattle.paygo_spec.specs.Found.{takes, found}
use Rattle.paygo_spec.specs.History.{Summary, IsLimit, limit_of, top, reach, is_odd, kind_of}
use Rattle.paygo_spec.specs.Typed.{by_found}
use Rattle.paygo_spec.proofs.CleanTokens.{clean_found}
use Rattle.paygo_spec.proofs.Counts.{unspent_above}
use Rattle.paygo_spec.proofs.Entries.{valid_is}
use Rattle.paygo_spec.proofs.Windows.{limit_kept}
use Rattle.ledger_spec.specs.declared.Order.{Order}
use Rattle.sync_advice.specs.Advice.{order_with, last_count, reaches, follows, IsEnd, Climbs, Stops}
use Rattle.sync_advice.specs.Typing.{taken, taken_order, typed_all, IsSold, AreSold, behind, BringsUp, AreAmong, IsShortest, BringsItself, NoneBrings}
use Rattle.sync_advice.proofs.Climbing.{with_below, reach_parts, reach_of, climbs_up}
use Rattle.sync_advice.proofs.Finding.{typed_found, clean_old, clean_invalid}

-- an accepted token leaves the block
block_kept : (unit : ℕ) (kind : Option TokenKind) (v : ℕ) (clock : ClockView) → (taken_by unit kind v clock).block ≡ clock.block
block_kept unit (Some Set) v clock = refl
block_kept unit (Some Add) v clock =
    ⊎_elim (λ (t : clock.free ≡ true). rw t refl) (λ (f : clock.free ≡ false). rw f refl) (cases_Bool clock.free)
block_kept unit (Some Free) v clock = refl
block_kept unit (Some Sync) v clock = refl
block_kept unit None v clock = refl

-- nothing comes of tokens that are typed after one that is none of the chain's
none_stays : (next : ℕ → ℕ) (start unit : ℕ) (form : Form) (origin : Summary) (orders : List Order) → typed_all next start unit form origin None orders ≡ None
none_stays next start unit form origin [] = refl
none_stays next start unit form origin (order ∷ orders) = none_stays next start unit form origin orders

-- so where something comes of them, something came of the first
on_taken : (next : ℕ → ℕ) (start unit : ℕ) (form : Form) (origin : Summary) (state : Option (List Entry)) (other : List Order) (after : List Entry) (P : Type 0)
    → ((entries : List Entry) → state ≡ Some entries → typed_all next start unit form origin (Some entries) other ≡ Some after → P)
    → typed_all next start unit form origin state other ≡ Some after → P
on_taken next start unit form origin None other after P f q = let n = none_stays next start unit form origin other in let x : None ≡ Some after = sym n ∙ q in absurd (cc)
on_taken next start unit form origin (Some entries) other after P f q = f entries refl q

module _ (next : ℕ → ℕ) (start unit : ℕ) (form : Form) (origin : Summary) where
  -- what is kept while tokens are typed
  pub record Goes (entries : List Entry) : Type 0 where
    pub limited : IsLimit (limit_of origin entries)
    pub unblocked : (clock_of unit origin entries).block ≡ 0

  goes_on : (entries : List Entry) (n v : ℕ) → Goes entries → Goes (Accept n v ∷ entries)
  goes_on entries n v g = record { limited = g.limited; unblocked = block_kept unit (kind_of n v) v (clock_of unit origin entries) ∙ g.unblocked }

  module _ (limit : ℕ) (order : Order) (sold : IsSold next start limit order) (entries : List Entry) (goes : Goes entries) where
    by_search : (is : Found) → found next start origin entries (token_at next start order.value order.count) ≡ is → taken_order next start unit form origin order (Some entries) ≡ taken (by_found is) entries
    by_search is h =
        ap (λ t. taken t entries) (typed_found next start unit form origin entries order.token is sold.small goes.unblocked
        (sym (ap (λ t. found next start origin entries t) sold.token ∙ h)))

    pub taken_valid : takes origin entries order.value order.count ≡ true → taken_order next start unit form origin order (Some entries) ≡ Some (Accept order.count order.value ∷ entries)
    taken_valid t = by_search (Valid order.count order.value) (clean_found next start origin entries order.count order.value sold.few sold.clean ((valid_is origin entries order.count order.value).0 t))

    pub taken_old : order.count ≤ reach origin entries order.value → takes origin entries order.value order.count ≡ false → taken_order next start unit form origin order (Some entries) ≡ Some entries
    taken_old up f = by_search (Old order.count) (clean_old next start origin entries order.count order.value sold.few sold.clean goes.limited up f)

    pub taken_none : reach origin entries order.value < order.count → taken_order next start unit form origin order (Some entries) ≡ None
    taken_none far = by_search Invalid (clean_invalid next start origin entries order.count order.value sold.few sold.clean goes.limited far)

    -- a count above the last one, in reach, is taken
    valid_above : top origin entries < order.count → order.count ≤ reach origin entries order.value → takes origin entries order.value order.count ≡ true
    valid_above above up =
        (valid_is origin entries order.count order.value).1 (
          sold.first,
          up,
          sold.effect,
          ⊎_elim
              (λ (t : is_odd order.count ≡ true). inl (t, above))
              (λ (f : is_odd order.count ≡ false). inr (f, omega arith, unspent_above origin entries order.count above))
              (cases_Bool (is_odd order.count)),
        )

    -- the token of a count in reach is taken or old, and the last count is at least that count then
    pub record Reached (last : ℕ) : Type 0 where
      pub after : List Entry
      pub typed_is : taken_order next start unit form origin order (Some entries) ≡ Some after
      pub goes_after : Goes after
      pub limit_is : limit_of origin after ≡ limit_of origin entries
      pub low : order.count ≤ top origin after
      pub high : top origin after ≤ last

    pub reached_by : (last : ℕ) → top origin entries ≤ last → order.count ≤ last → order.count ≤ reach origin entries order.value → Reached last
    reached_by last high few up =
        ⊎_elim
        (λ (t : takes origin entries order.value order.count ≡ true).
        record { after = Accept order.count order.value ∷ entries; typed_is = taken_valid t; goes_after = goes_on entries order.count order.value goes; limit_is = refl; low = omega arith; high = omega arith })
        (λ (f : takes origin entries order.value order.count ≡ false).
        record {
          after = entries;
          typed_is = taken_old up f;
          goes_after = goes;
          limit_is = refl;
          low = ⊎_elim
              (λ (l : top origin entries < order.count). let t = valid_above l up in absurd (let q : true ≡ false = sym t ∙ f in cc))
              (λ (l : order.count ≤ top origin entries). l)
              (cases_lt (top origin entries) order.count);
          high = high;
        })
        (cases_Bool (takes origin entries order.value order.count))

  -- the tokens of a climb bring the device up
  pub brings : (orders : List Order) (limit from last : ℕ) (list : List Order) (entries : List Entry) → last ≡ last_count orders → AreSold next start limit orders → Goes entries → limit ≤ limit_of origin entries
      → from ≤ top origin entries → top origin entries ≤ last → Climbs orders limit from list last
      → (after : List Entry) × (typed_all next start unit form origin (Some entries) list ≡ Some after) × (top origin after ≡ last)
  brings orders limit from last [] entries is sold goes limit_is low high climbs = (entries, refl, omega arith)
  brings orders limit from last (order ∷ list) entries is sold goes limit_is low high climbs =
      let far = climbs.0 in
      let parts = reach_parts limit from order far.reached_is in
      let above = parts.0 in let within = parts.1 in let near = parts.2 in
      let few : order.count ≤ last = rw is (with_below orders order.count order far.listed) in
      let up : order.count ≤ reach origin entries order.value = omega arith in
      let r = reached_by limit order (sold order.count order far.listed) entries goes last high few up in
      let rest = brings orders limit order.count last list r.after is sold r.goes_after (rw r.limit_is limit_is) r.low r.high climbs.1 in
      (rest.0, ap (λ s. typed_all next start unit form origin s list) r.typed_is ∙ rest.1, rest.2)

  -- one token of the row leads no farther than the farthest
  module _ (orders : List Order) (limit : ℕ) (sold : AreSold next start limit orders) where
    pub record Below (entries : List Entry) (bound : ℕ) : Type 0 where
      pub goes : Goes entries
      pub limit_is : limit_of origin entries ≡ limit
      pub high : top origin entries ≤ bound

    step_below : (from far : ℕ) (order : Order) (entries after : List Entry) → Below entries from → from ≤ far → ((count : ℕ) → follows orders limit from count ≡ true → count ≤ far)
        → order_with orders order.count ≡ Some order → taken_order next start unit form origin order (Some entries) ≡ Some after → Below after far
    step_below from far order entries after b more greatest listed h =
        let it = sold order.count order listed in
        let high = b.high in let same = b.limit_is in
        ⊎_elim
        (λ (out : reach origin entries order.value < order.count). let n = taken_none limit order it entries b.goes out in let q : None ≡ Some after = sym n ∙ h in cc)
        (λ (up : order.count ≤ reach origin entries order.value).
        ⊎_elim
        (λ (t : takes origin entries order.value order.count ≡ true).
        let v = taken_valid limit order it entries b.goes t in
        let q : Some (Accept order.count order.value ∷ entries) ≡ Some after = sym v ∙ h in
        let e : (Accept order.count order.value ∷ entries) ≡ after = cc in
        subst (λ es. Below es far) e (record {
          goes = goes_on entries order.count order.value b.goes;
          limit_is = b.limit_is;
          high = ⊎_elim
              (λ (l : from < order.count).
              let r : reaches limit from order ≡ true = reach_of limit from order l (omega arith) (omega arith) in
              let f : follows orders limit from order.count ≡ true = rw listed r in
              let g = greatest order.count f in
              omega arith)
              (λ (l : order.count ≤ from). omega arith)
              (cases_lt from order.count);
        }))
        (λ (f : takes origin entries order.value order.count ≡ false).
        let o = taken_old limit order it entries b.goes up f in
        let q : Some entries ≡ Some after = sym o ∙ h in
        let e : entries ≡ after = cc in
        subst (λ es. Below es far) e (record { goes = b.goes; limit_is = b.limit_is; high = omega arith }))
        (cases_Bool (takes origin entries order.value order.count)))
        (cases_lt (reach origin entries order.value) order.count)

    -- a climb is no longer than any tokens of the row that lead as far
    pub no_shorter : (from last : ℕ) (list other : List Order) (entries after : List Entry) → last ≡ last_count orders → Below entries from → Climbs orders limit from list last → AreAmong orders other
        → typed_all next start unit form origin (Some entries) other ≡ Some after → top origin after ≡ last → length list ≤ length other
    no_shorter from last [] other entries after is b climbs among h t = omega arith
    no_shorter from last (order ∷ list) [] entries after is b climbs among h t =
        let e : entries ≡ after = cc in
        let parts = reach_parts limit from order climbs.0.reached_is in
        let above = parts.0 in
        let few : order.count ≤ last = rw is (with_below orders order.count order climbs.0.listed) in
        let high = b.high in
        let same : top origin entries ≡ last = rw e t in
        absurd (omega arith)
    no_shorter from last (order ∷ list) (first ∷ other) entries after is b climbs among h t =
        on_taken next start unit form origin (taken_order next start unit form origin first (Some entries)) other after (suc (length list) ≤ suc (length other))
        (λ entries' e q.
        let parts = reach_parts limit from order climbs.0.reached_is in
        let above = parts.0 in
        let b' = step_below from order.count first entries entries' b (omega arith) climbs.0.greatest among.0 e in
        let l = no_shorter order.count last list other entries' after is b' climbs.1 among.1 q t in
        omega arith)
        h

    -- and where the climb stops, they lead no farther
    pub no_farther : (from count : ℕ) (list other : List Order) (entries after : List Entry) → Below entries from → Climbs orders limit from list count → IsEnd orders limit count → AreAmong orders other
        → typed_all next start unit form origin (Some entries) other ≡ Some after → top origin after ≤ count
    no_farther from count list [] entries after b climbs end among h =
        let e : entries ≡ after = cc in
        let up = climbs_up orders limit from count list climbs in
        let high = b.high in
        rw (← e) (omega arith)
    no_farther from count [] (first ∷ other) entries after b climbs end among h =
        on_taken next start unit form origin (taken_order next start unit form origin first (Some entries)) other after (top origin after ≤ count)
        (λ entries' e q.
        let ends : IsEnd orders limit from = subst (λ k. IsEnd orders limit k) (sym climbs) end in
        let b' = step_below from from first entries entries' b (omega arith) (λ k f. absurd (let x : true ≡ false = sym f ∙ ends k in cc)) among.0 e in
        no_farther from count [] other entries' after b' climbs end among.1 q)
        h
    no_farther from count (order ∷ list) (first ∷ other) entries after b climbs end among h =
        on_taken next start unit form origin (taken_order next start unit form origin first (Some entries)) other after (top origin after ≤ count)
        (λ entries' e q.
        let parts = reach_parts limit from order climbs.0.reached_is in
        let above = parts.0 in
        let b' = step_below from order.count first entries entries' b (omega arith) climbs.0.greatest among.0 e in
        no_farther order.count count list other entries' after b' climbs.1 end among.1 q)
        h

-- the orders of a climb are those of the row
climb_among : (orders : List Order) (limit from to : ℕ) (list : List Order) → Climbs orders limit from list to → AreAmong orders list
climb_among orders limit from to [] climbs = tt
climb_among orders limit from to (order ∷ list) climbs = (climbs.0.listed, climb_among orders limit order.count to list climbs.1)

-- the device that is furthest behind
behind_goes : (next : ℕ → ℕ) (start unit : ℕ) (form : Form) (limit floor : ℕ) → IsLimit limit → Goes next start unit form (behind limit floor) []
behind_goes next start unit form limit floor is = record { limited = is; unblocked = refl }

-- the laws of an answer
pub climb_brings : (orders : List Order) (limit floor : ℕ) (list : List Order) → Climbs orders limit floor list (last_count orders) → BringsUp orders limit floor list
climb_brings orders limit floor list climbs = λ next start unit form origin entries sold fits.
    brings next start unit form origin orders limit floor (last_count orders) list entries refl sold
    (record { limited = limit_kept unit origin entries fits.searched.0; unblocked = fits.unblocked }) fits.limit_is fits.low fits.high climbs

pub climb_itself : (orders : List Order) (limit floor : ℕ) (list : List Order) → floor ≤ last_count orders → Climbs orders limit floor list (last_count orders) → BringsItself orders limit floor list
climb_itself orders limit floor list few climbs = λ next start unit form is sold.
    let b = brings next start unit form (behind limit floor) orders limit floor (last_count orders) list [] refl sold (behind_goes next start unit form limit floor is) (omega arith) (omega arith) few climbs in
    record { among = climb_among orders limit floor (last_count orders) list climbs; after = b.0; typed_is = b.1; top_is = b.2 }

pub climb_shortest : (orders : List Order) (limit floor : ℕ) (list : List Order) → Climbs orders limit floor list (last_count orders) → IsShortest orders limit floor list
climb_shortest orders limit floor list climbs = λ next start unit form other is sold does.
    no_shorter next start unit form (behind limit floor) orders limit sold floor (last_count orders) list other [] does.after refl
    (record { goes = behind_goes next start unit form limit floor is; limit_is = refl; high = omega arith }) climbs does.among does.typed_is does.top_is

pub stop_none : (orders : List Order) (limit floor count : ℕ) → Stops orders limit floor count → NoneBrings orders limit floor
stop_none orders limit floor count stops = λ next start unit form other is sold does.
    let few = no_farther next start unit form (behind limit floor) orders limit sold floor count stops.list other [] does.after
    (record { goes = behind_goes next start unit form limit floor is; limit_is = refl; high = omega arith }) stops.climbs stops.end does.among does.typed_is in
    let is_last = does.top_is in
    let before = stops.before in
    omega arith
