-- What is kept of a place is decided by the set of its reports.
use Rattle.std.proofs.Common.{◌≡◌, true, false, not, List, [], ◌∷◌, Option, Some, None, refl, sym, ap, ◌∙◌, subst}
use Rattle.std.proofs.Common.{inl, inr, ⊎_elim}
use Rattle.std.specs.Prelude.{◌||◌, is_some}
use Rattle.std.proofs.lemmas.Bool.{cases_Bool, or_parts, not-false}
use Rattle.sheet_book.specs.declared.places.Key.{Key}
use Rattle.sheet_book.specs.declared.sales.Sale.{Sale}
use Rattle.sheet_book.specs.declared.sales.Kept.{Kept}
use Rattle.sheet_book.specs.Reports.{Report, same_key, same_sale, sale_before, sales_of, kept_of, has_key}
use Rattle.sheet_book.specs.Reports.{is_distinct, keys_of, IsAmong, SameReports}
use Rattle.sheet_book.specs.Books.{kept_with}
use Rattle.sheet_book.proofs.Sums.{key_is}
use Rattle.sheet_book.proofs.Least.{kept_more}
use Rattle.sheet_book.proofs.Orders.{sale_is, sale_self, before_self, before_on, before_total}

-- a report of this place is among these
abbrev IsOf : Key → List Report → Report → Type 0
IsOf key reports report = IsAmong report reports × (same_key key report.key ≡ true)

pub record IsKept (key : Key) (reports : List Report) (kept : Kept) : Type 0 where
  pub report : Report
  pub is_of : IsOf key reports report
  pub sale_of : report.sale ≡ kept.sale
  pub least : (r : Report) → IsOf key reports r → sale_before r.sale kept.sale ≡ false
  pub differs : kept.disputed ≡ true → (r : Report) × IsOf key reports r × (same_sale r.sale kept.sale ≡ false)
  pub agrees : kept.disputed ≡ false → (r : Report) → IsOf key reports r → r.sale ≡ kept.sale

abbrev IsNone : Key → List Report → Type 0
IsNone key reports = (r : Report) → IsAmong r reports → same_key key r.key ≡ false

abbrev IsKeptOr : Key → List Report → Option Kept → Type 0
IsKeptOr key reports None = IsNone key reports
IsKeptOr key reports (Some kept) = IsKept key reports kept

-- a report of another place changes nothing
other_none : (key : Key) (first : Report) (reports : List Report) → same_key key first.key ≡ false
    → IsNone key reports → IsNone key (first ∷ reports)
other_none key first reports f none = λ r a. ⊎_elim (λ (e : r ≡ first). ap (λ x. same_key key x.key) e ∙ f)
    (λ (b : IsAmong r reports). none r b) a

back : (key : Key) (first : Report) (reports : List Report) (r : Report) → same_key key first.key ≡ false
    → IsOf key (first ∷ reports) r → IsOf key reports r
back key first reports r f o =
    ⊎_elim
    (λ (e : r ≡ first). absurd (let q : true ≡ false = sym o.1 ∙ ap (λ x. same_key key x.key) e ∙ f in cc))
    (λ (b : IsAmong r reports). (b, o.1))
    o.0

other_kept : (key : Key) (first : Report) (reports : List Report) (kept : Kept) → same_key key first.key ≡ false
    → IsKept key reports kept → IsKept key (first ∷ reports) kept
other_kept key first reports kept f k = record {
  report = k.report;
  is_of = (inr k.is_of.0, k.is_of.1);
  sale_of = k.sale_of;
  least = λ r o. k.least r (back key first reports r f o);
  differs = λ d. (let x = k.differs d in (x.0, (inr x.1.0, x.1.1), x.2));
  agrees = λ d r o. k.agrees d r (back key first reports r f o);
}

-- the first report of a place
first_kept : (key : Key) (first : Report) (reports : List Report) → same_key key first.key ≡ true
    → IsNone key reports → IsKept key (first ∷ reports) (record { sale = first.sale; disputed = false })
first_kept key first reports t none = record {
  report = first;
  is_of = (inl refl, t);
  sale_of = refl;
  least = λ r o. ap (λ s. sale_before s first.sale) (only r o) ∙ before_self first.sale;
  differs = λ d. absurd (let q : false ≡ true = d in cc);
  agrees = λ d r o. only r o;
}
  where
    only : (r : Report) → IsOf key (first ∷ reports) r → r.sale ≡ first.sale
    only r o =
        ⊎_elim
        (λ (e : r ≡ first). ap (λ x. x.sale) e)
        (λ (b : IsAmong r reports). absurd (let q : true ≡ false = sym o.1 ∙ none r b in cc))
        o.0

not_same : (a b : Sale) → sale_before a b ≡ true → same_sale a b ≡ false
not_same a b h =
    ⊎_elim
    (λ (t : same_sale a b ≡ true). absurd (let e = sale_is a b t in let q : true ≡ false = sym h
    ∙ ap (λ s. sale_before s b) e ∙ before_self b in cc))
    (λ (f : same_sale a b ≡ false). f)
    (cases_Bool (same_sale a b))

turned : (a b : Sale) → same_sale a b ≡ false → same_sale b a ≡ false
turned a b f =
    ⊎_elim
    (λ (t : same_sale b a ≡ true). absurd (let e = sale_is b a t in let q : true ≡ false = sym (sale_self a)
    ∙ ap (λ s. same_sale a s) (sym e) ∙ f in cc))
    (λ (g : same_sale b a ≡ false). g)
    (cases_Bool (same_sale b a))

-- one report more of a place
module _ (key : Key) (first : Report) (reports : List Report) (kept : Kept) (t : same_key key first.key ≡ true)
    (k : IsKept key reports kept) where
  by_parts : (P : Report → Type 0) → P first → ((r : Report) → IsOf key reports r → P r) → (r : Report)
      → IsOf key (first ∷ reports) r → P r
  by_parts P p f r o = ⊎_elim (λ (e : r ≡ first). subst P (sym e) p) (λ (b : IsAmong r reports). f r (b, o.1)) o.0

  -- this sale, which is disputed where the new one differs, or was before
  abbrev kept_as : Sale → Kept
  kept_as sale = record { sale = sale; disputed = not (same_sale first.sale kept.sale) || kept.disputed }

  -- it is the least
  less : sale_before first.sale kept.sale ≡ true
      → IsKept key (first ∷ reports) (kept_as first.sale)
  less b = record {
    report = first;
    is_of = (inl refl, t);
    sale_of = refl;
    least = by_parts (λ r. sale_before r.sale first.sale ≡ false) (before_self first.sale) (λ r o. ⊎_elim
        (λ (h : sale_before r.sale first.sale ≡ true). absurd
        (let q : true ≡ false = sym (before_on r.sale first.sale kept.sale h b) ∙ k.least r o in cc))
        (λ (h : sale_before r.sale first.sale ≡ false). h)
        (cases_Bool (sale_before r.sale first.sale)));
    differs = λ d. (
      k.report,
      (inr k.is_of.0, k.is_of.1),
      ap (λ s. same_sale s first.sale) k.sale_of
          ∙ turned first.sale kept.sale (not_same first.sale kept.sale b),
    );
    agrees = λ d. absurd (let n = not_same first.sale kept.sale b in let q : true ≡ false = rw n at d in cc);
  }

  -- the least stays
  stays : sale_before first.sale kept.sale ≡ false
      → IsKept key (first ∷ reports) (kept_as kept.sale)
  stays b = record {
    report = k.report;
    is_of = (inr k.is_of.0, k.is_of.1);
    sale_of = k.sale_of;
    least = by_parts (λ r. sale_before r.sale kept.sale ≡ false) b k.least;
    differs = λ d. ⊎_elim
        (λ (s : same_sale first.sale kept.sale ≡ true).
        (let q : kept.disputed ≡ true = rw s at d in let x = k.differs q in (x.0, (inr x.1.0, x.1.1), x.2)))
        (λ (s : same_sale first.sale kept.sale ≡ false). (first, (inl refl, t), s))
        (cases_Bool (same_sale first.sale kept.sale));
    agrees = λ d. (let p = or_parts (not (same_sale first.sale kept.sale)) kept.disputed d in
        by_parts (λ r. r.sale ≡ kept.sale) (sale_is first.sale kept.sale
        (not-false (same_sale first.sale kept.sale) p.0)) (k.agrees p.1));
  }

  more_kept : IsKept key (first ∷ reports) (kept_with first.sale (Some kept))
  more_kept =
      ⊎_elim
      (λ (b : sale_before first.sale kept.sale ≡ true). rw b (less b))
      (λ (b : sale_before first.sale kept.sale ≡ false). rw b (stays b))
      (cases_Bool (sale_before first.sale kept.sale))

kept_step : (key : Key) (first : Report) (reports : List Report) (found : Option Kept)
    → same_key key first.key ≡ true → IsKeptOr key reports found
    → IsKept key (first ∷ reports) (kept_with first.sale found)
kept_step key first reports None t k = first_kept key first reports t k
kept_step key first reports (Some kept) t k = more_kept key first reports kept t k

other_step : (key : Key) (first : Report) (reports : List Report) (found : Option Kept)
    → same_key key first.key ≡ false → IsKeptOr key reports found → IsKeptOr key (first ∷ reports) found
other_step key first reports None f k = other_none key first reports f k
other_step key first reports (Some kept) f k = other_kept key first reports kept f k

-- what one report more of the place makes of what is kept
pub kept_here : (key : Key) (first : Report) (reports : List Report) → same_key key first.key ≡ true
    → kept_of key (first ∷ reports) ≡ Some (kept_with first.sale (kept_of key reports))
kept_here key first reports t = rw t (kept_more first.sale (sales_of key reports))

pub kept_is : (key : Key) (reports : List Report) → IsKeptOr key reports (kept_of key reports)
kept_is key [] = λ r a. absurd a
kept_is key (first ∷ reports) =
    ⊎_elim
    (λ (t : same_key key first.key ≡ true). subst (IsKeptOr key (first ∷ reports))
    (sym (kept_here key first reports t)) (kept_step key first reports (kept_of key reports) t (kept_is key reports)))
    (λ (f : same_key key first.key ≡ false). rw f
    (other_step key first reports (kept_of key reports) f (kept_is key reports)))
    (cases_Bool (same_key key first.key))

-- the same reports keep the same
module _ (key : Key) (xs ys : List Report) (same : SameReports xs ys) where
  over : (r : Report) → IsOf key xs r → IsOf key ys r
  over r o = ((same r).0 o.0, o.1)

  back_over : (r : Report) → IsOf key ys r → IsOf key xs r
  back_over r o = ((same r).1 o.0, o.1)

  one : (a b : Kept) → IsKept key xs a → IsKept key ys b → a ≡ b
  one a b k l =
      let sales : a.sale ≡ b.sale = before_total a.sale b.sale
      (ap (λ s. sale_before s b.sale) (sym k.sale_of) ∙ l.least k.report (over k.report k.is_of))
      (ap (λ s. sale_before s a.sale) (sym l.sale_of) ∙ k.least l.report (back_over l.report l.is_of)) in
      let disputes : a.disputed ≡ b.disputed = ⊎_elim
      (λ (p : a.disputed ≡ true). ⊎_elim
      (λ (q : b.disputed ≡ true). p ∙ sym q)
      (λ (q : b.disputed ≡ false).
      let x = k.differs p in
      let e = l.agrees q x.0 (over x.0 x.1) ∙ sym sales in
      absurd (let z : true ≡ false = sym (sale_self a.sale) ∙ ap (λ s. same_sale s a.sale) (sym e) ∙ x.2 in cc))
      (cases_Bool b.disputed))
      (λ (p : a.disputed ≡ false). ⊎_elim
      (λ (q : b.disputed ≡ true).
      let x = l.differs q in
      let e = k.agrees p x.0 (back_over x.0 x.1) ∙ sales in
      absurd (let z : true ≡ false = sym (sale_self b.sale) ∙ ap (λ s. same_sale s b.sale) (sym e) ∙ x.2 in cc))
      (λ (q : b.disputed ≡ false). p ∙ sym q)
      (cases_Bool b.disputed))
      (cases_Bool a.disputed) in
      ap (λ s. record { sale = s; disputed = a.disputed }) sales
      ∙ ap (λ d. record { sale = b.sale; disputed = d }) disputes

  either : (a b : Option Kept) → IsKeptOr key xs a → IsKeptOr key ys b → a ≡ b
  either None None k l = refl
  either None (Some b) k l = let o = back_over l.report l.is_of in let q : true ≡ false = sym o.1 ∙ k l.report o.0 in
      absurd (cc)
  either (Some a) None k l = let o = over k.report k.is_of in let q : true ≡ false = sym o.1 ∙ l k.report o.0 in
      absurd (cc)
  either (Some a) (Some b) k l = ap Some (one a b k l)

  pub kept_same : kept_of key xs ≡ kept_of key ys
  kept_same = either (kept_of key xs) (kept_of key ys) (kept_is key xs) (kept_is key ys)

-- the places of which there is a report are those of which something is kept
pub has_kept : (key : Key) (reports : List Report) → has_key (keys_of reports) key ≡ is_some (kept_of key reports)
has_kept key [] = refl
has_kept key (first ∷ reports) =
    let rest = has_kept key reports in
    ⊎_elim
    (λ (h : has_key (keys_of reports) first.key ≡ true). ⊎_elim
    (λ (t : same_key key first.key ≡ true). let e = key_is key first.key t in
    let there : has_key (keys_of reports) key ≡ true = ap (λ k. has_key (keys_of reports) k) e ∙ h in rw (h, t) there)
    (λ (f : same_key key first.key ≡ false). rw (h, f) rest)
    (cases_Bool (same_key key first.key)))
    (λ (h : has_key (keys_of reports) first.key ≡ false). ⊎_elim
    (λ (t : same_key key first.key ≡ true). rw (h, t) refl)
    (λ (f : same_key key first.key ≡ false). rw (h, f) rest)
    (cases_Bool (same_key key first.key)))
    (cases_Bool (has_key (keys_of reports) first.key))

pub keys_distinct : (reports : List Report) → is_distinct (keys_of reports) ≡ true
keys_distinct [] = refl
keys_distinct (first ∷ reports) =
    let rest = keys_distinct reports in
    ⊎_elim
    (λ (h : has_key (keys_of reports) first.key ≡ true). rw h rest)
    (λ (h : has_key (keys_of reports) first.key ≡ false). rw (h, h, rest) refl)
    (cases_Bool (has_key (keys_of reports) first.key))
