-- The totals are those of any list of the reported places that has each once, and of the set of the reports.
use Rattle.std.proofs.Common.{◌≡◌, ℕ, Bool, true, false, List, [], ◌∷◌, refl, sym, ap, ◌∙◌, inl, inr, ⊎_elim}
use Rattle.std.specs.Prelude.{◌||◌, is_some}
use Rattle.std.proofs.lemmas.Bool.{cases_Bool}
use Rattle.sheet_book.specs.declared.places.Key.{Key}
use Rattle.sheet_book.specs.declared.sales.Totals.{Totals}
use Rattle.sheet_book.specs.Reports.{Report, same_key, sales_of, kept_of, has_key, is_distinct, keys_of, money_at}
use Rattle.sheet_book.specs.Reports.{dispute_at, totals_at, totals_of, IsAmong, IsReported, SameReports}
use Rattle.sheet_book.specs.Reports.{AreReportedOnce}
use Rattle.sheet_book.proofs.Sums.{key_is, key_self, sum_same, sum_pointwise, count_over}
use Rattle.sheet_book.proofs.Least.{kept_money, kept_dispute, money_kept, dispute_kept}
use Rattle.sheet_book.proofs.Keeping.{kept_same, has_kept, keys_distinct}

-- the totals of these three numbers
abbrev pub totals_from : ℕ → ℕ → ℕ → Totals
totals_from tokens money disputes = record { tokens = tokens; money = money; disputes = disputes }

pub by_parts : (a b c k l m : ℕ) → a ≡ k → b ≡ l → c ≡ m → totals_from a b c ≡ totals_from k l m
by_parts a b c k l m x y z =
    ap (λ n. totals_from n b c) x ∙ ap (λ n. totals_from k n c) y ∙ ap (λ n. totals_from k l n) z

-- over two lists of the same places, each once
pub totals_over : (ks ls : List Key) (reports : List Report) → is_distinct ks ≡ true → is_distinct ls ≡ true
    → ((key : Key) → has_key ks key ≡ has_key ls key) → totals_at ks reports ≡ totals_at ls reports
totals_over ks ls reports d e same =
    by_parts _ _ _ _ _ _
    (count_over ks ∙ sum_same (λ key. 1) ks ls d e same ∙ sym (count_over ls))
    (sum_same (money_at reports) ks ls d e same)
    (sum_same (dispute_at reports) ks ls d e same)

pub money_by : (reports : List Report) (key : Key) → money_at reports key ≡ kept_money (kept_of key reports)
money_by reports key = money_kept (sales_of key reports)

pub dispute_by : (reports : List Report) (key : Key) → dispute_at reports key ≡ kept_dispute (kept_of key reports)
dispute_by reports key = dispute_kept (sales_of key reports)

-- of two lists with the same reports, over the same places
totals_pointwise : (keys : List Key) (xs ys : List Report) → SameReports xs ys → totals_at keys xs ≡ totals_at keys ys
totals_pointwise keys xs ys same =
    by_parts _ _ _ _ _ _
    refl
    (sum_pointwise (money_at xs) (money_at ys) keys
    (λ key. money_by xs key ∙ ap kept_money (kept_same key xs ys same) ∙ sym (money_by ys key)))
    (sum_pointwise (dispute_at xs) (dispute_at ys) keys
    (λ key. dispute_by xs key ∙ ap kept_dispute (kept_same key xs ys same) ∙ sym (dispute_by ys key)))

pub totals_same : (xs ys : List Report) → SameReports xs ys → totals_of xs ≡ totals_of ys
totals_same xs ys same =
    totals_over (keys_of xs) (keys_of ys) xs (keys_distinct xs) (keys_distinct ys)
    (λ key. has_kept key xs ∙ ap is_some (kept_same key xs ys same) ∙ sym (has_kept key ys))
    ∙ totals_pointwise (keys_of ys) xs ys same

reported_more : (key : Key) (first : Report) (reports : List Report) → IsReported key reports
    → IsReported key (first ∷ reports)
reported_more key first reports is = (is.0, inr is.1)

has_reported : (key : Key) (reports : List Report) → has_key (keys_of reports) key ≡ true → IsReported key reports
has_reported key [] h = cc
has_reported key (first ∷ reports) h =
    ⊎_elim
    (λ (t : same_key key first.key ≡ true). (
      first.sale,
      inl
          (ap (λ k. record { key = k; sale = first.sale }) (key_is key first.key t)),
    ))
    (λ (f : same_key key first.key ≡ false). reported_more key first reports (has_reported key reports (⊎_elim
    (λ (there : has_key (keys_of reports) first.key ≡ true). rw there at h)
    (λ (gone : has_key (keys_of reports) first.key ≡ false). rw (gone, f) at h)
    (cases_Bool (has_key (keys_of reports) first.key)))))
    (cases_Bool (same_key key first.key))

among_has : (r : Report) (reports : List Report) → IsAmong r reports → has_key (keys_of reports) r.key ≡ true
among_has r [] a = absurd a
among_has r (first ∷ reports) a =
    ⊎_elim
    (λ (there : has_key (keys_of reports) first.key ≡ true). rw there (⊎_elim
    (λ (e : r ≡ first). ap (λ x. has_key (keys_of reports) x.key) e ∙ there)
    (λ (b : IsAmong r reports). among_has r reports b)
    a))
    (λ (gone : has_key (keys_of reports) first.key ≡ false). rw gone (⊎_elim
    (λ (e : r ≡ first). let s : same_key r.key first.key ≡ true = ap (λ x. same_key x.key first.key) e
    ∙ key_self first.key in rw s refl)
    (λ (b : IsAmong r reports). let h = among_has r reports b in rw h (or_end (same_key r.key first.key)))
    a))
    (cases_Bool (has_key (keys_of reports) first.key))
  where
    or_end : (a : Bool) → (a || true) ≡ true
    or_end true = refl
    or_end false = refl

pub each_once : (reports : List Report) → AreReportedOnce (keys_of reports) reports
each_once reports = record {
  once = keys_distinct reports;
  reported = λ key. (has_reported key reports, λ is. among_has (record { key = key; sale = is.0 }) reports is.1);
}

pub any_once : (keys : List Key) (reports : List Report) → AreReportedOnce keys reports
    → totals_of reports ≡ totals_at keys reports
any_once keys reports is =
    totals_over (keys_of reports) keys reports (keys_distinct reports) is.once
    (λ key. both_true (has_key (keys_of reports) key) (has_key keys key)
    (λ h. (is.reported key).1 (has_reported key reports h))
    (λ h. let r = (is.reported key).0 h in among_has (record { key = key; sale = r.0 }) reports r.1))
  where
    both_true : (a b : Bool) → (a ≡ true → b ≡ true) → (b ≡ true → a ≡ true) → a ≡ b
    both_true true b f g = sym (f refl)
    both_true false true f g = g refl
    both_true false false f g = refl
