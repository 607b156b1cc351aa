-- What is kept of a place goes on from report to report.
use Rattle.std.proofs.Common.{◌≡◌, Bool, true, false, not, List, [], ◌∷◌, Option, Some, None, refl, sym, ap, ◌∙◌}
use Rattle.std.proofs.Common.{⊎_elim}
use Rattle.std.specs.Prelude.{ℕ, ◌||◌, if◌then◌else◌}
use Rattle.std.specs.List.{list_all}
use Rattle.std.specs.Option.{option_map}
use Rattle.std.proofs.lemmas.Bool.{cases_Bool, and_parts, or_parts, not-false}
use Rattle.sheet_book.specs.declared.sales.Sale.{Sale}
use Rattle.sheet_book.specs.declared.sales.Kept.{Kept}
use Rattle.sheet_book.specs.Reports.{same_sale, lesser, least, differ, money_in}
use Rattle.sheet_book.specs.Books.{kept_with}
use Rattle.sheet_book.proofs.Orders.{sale_is, before_self}

-- what is kept where these sales were reported
abbrev pub kept_from : List Sale → Option Kept
kept_from sales = option_map (λ sale. record { sale = sale; disputed = differ sales }) (least sales)

-- of sales that are all one, this one is the least
least_same : (sale : Sale) (sales : List Sale) → list_all (same_sale sale) sales ≡ true
    → lesser sale (least sales) ≡ sale
least_same sale [] h = refl
least_same sale (first ∷ sales) h =
    let p = and_parts (same_sale sale first) (list_all (same_sale sale) sales) h in
    let e = sale_is sale first p.0 in
    let rest : lesser first (least sales) ≡ sale = ap (λ s. lesser s (least sales)) (sym e)
    ∙ least_same sale sales p.1 in
    let b = before_self sale in
    let own : lesser sale (Some sale) ≡ sale = rw b refl in
    ap (λ s. lesser sale (Some s)) rest ∙ own

-- a sale is all of those that are one, or none
all_same : (x sale : Sale) (sales : List Sale) → list_all (same_sale sale) sales ≡ true
    → list_all (same_sale x) (sale ∷ sales) ≡ same_sale x sale
all_same x sale sales h =
    ⊎_elim
    (λ (t : same_sale x sale ≡ true). let e = sale_is x sale t in
    let a : list_all (same_sale x) sales ≡ true = ap (λ s. list_all (same_sale s) sales) e ∙ h in rw (t, a) refl)
    (λ (f : same_sale x sale ≡ false). rw f refl)
    (cases_Bool (same_sale x sale))

or_true : (a : Bool) → (a || true) ≡ true
or_true true = refl
or_true false = refl

-- two of the sales differ, or the new one differs from the least: the same as from any of them
differ_more : (sale first : Sale) (sales : List Sale)
    → differ (sale ∷ first ∷ sales) ≡ (not (same_sale sale (lesser first (least sales))) || differ (first ∷ sales))
differ_more sale first sales =
    ⊎_elim
    (λ (t : differ (first ∷ sales) ≡ true).
    ap (λ d. not (list_all (same_sale sale) (first ∷ sales)) || d) t
    ∙ or_true (not (list_all (same_sale sale) (first ∷ sales)))
    ∙ sym (ap (λ d. not (same_sale sale (lesser first (least sales))) || d) t
    ∙ or_true (not (same_sale sale (lesser first (least sales))))))
    (λ (f : differ (first ∷ sales) ≡ false).
    let p = or_parts (not (list_all (same_sale first) sales)) (differ sales) f in
    let one = not-false (list_all (same_sale first) sales) p.0 in
    ap (λ b. not b || differ (first ∷ sales))
    (all_same sale first sales one ∙ ap (same_sale sale) (sym (least_same first sales one))))
    (cases_Bool (differ (first ∷ sales)))

pub kept_more : (sale : Sale) (sales : List Sale) → kept_from (sale ∷ sales) ≡ Some (kept_with sale (kept_from sales))
kept_more sale [] = refl
kept_more sale (first ∷ sales) =
    ap (λ d. Some (record { sale = lesser sale (Some (lesser first (least sales))); disputed = d }))
    (differ_more sale first sales)

-- the money and the dispute of a place by what is kept
abbrev pub kept_money : Option Kept → ℕ
kept_money None = 0
kept_money (Some kept) = kept.sale.money

abbrev pub kept_dispute : Option Kept → ℕ
kept_dispute None = 0
kept_dispute (Some kept) = if kept.disputed then 1 else 0

pub money_kept : (sales : List Sale) → money_in (least sales) ≡ kept_money (kept_from sales)
money_kept [] = refl
money_kept (sale ∷ sales) = refl

pub dispute_kept : (sales : List Sale) → (if differ sales then 1 else 0) ≡ kept_dispute (kept_from sales)
dispute_kept [] = refl
dispute_kept (sale ∷ sales) = refl
