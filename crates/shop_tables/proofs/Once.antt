-- The trees hold one list of tables alone.
use Rattle.std.proofs.Common.{◌≡◌, ◌⊎◌, inl, inr, ◌≤◌, IsTrue, ℕ, suc, List, [], ◌∷◌, ◌++◌, length, Bool, true, false, refl, sym, ap, subst, ◌∙◌, arith, length-append}
use Rattle.sqlite.specs.Order.{Row as Columns}
use Rattle.sqlite.specs.Tree.{Trees}
use Rattle.paygo_spec.specs.declared.Form.{Form}
use Rattle.paygo_spec.specs.declared.Form.TheVariants.{Nine, Fifteen}
use Rattle.paygo_spec.specs.Digits.{digit_count}
use Rattle.ledger_spec.specs.declared.Row.{Row}
use Rattle.ledger_spec.specs.declared.Order.{Order}
use Rattle.ledger_spec.specs.declared.PriceChange.{PriceChange}
use Rattle.ledger_spec.specs.declared.Ask.{Ask}
use Rattle.ledger_spec.specs.declared.Ask.TheVariants.{Pay, Set, Disable, Sync}
use Rattle.ledger_spec.specs.declared.Kind.{Kind}
use Rattle.ledger_spec.specs.declared.Kind.TheVariants as kind
use Rattle.ledger_spec.specs.Tables.{Tables}
use Rattle.shop_tables.specs.Stored.{count, flag, stored_by, device_columns, order_columns, change_columns, raised_columns, AreLimited, limit_by, Hold}
use Rattle.table_columns.specs.Said.{ask_code, asked_code, kind_code}
use Rattle.shop_tables.specs.Telling.{Tells, MayHold}
use Rattle.sqlite.specs.Effect.{Database}
use Rattle.sqlite.specs.State.{State, HasCleanDisk, Survives}
use Rattle.sqlite.specs.View.{doubt}

-- the last elements, and those before them
last_same : {X : Type 0} (xs ys : List X) (x y : X) → xs ++ x ∷ [] ≡ ys ++ y ∷ [] → (xs ≡ ys) × (x ≡ y)
last_same [] [] x y e = (refl, (let h : x ∷ [] ≡ y ∷ [] = e in cc))
last_same [] (b ∷ ys) x y e = absurd (let h : length ([] ++ x ∷ []) ≡ length ((b ∷ ys) ++ y ∷ []) = ap length e in omega (arith, h, length-append ys (y ∷ [])))
last_same (a ∷ xs) [] x y e = absurd (let h : length ((a ∷ xs) ++ x ∷ []) ≡ length ([] ++ y ∷ []) = ap length e in omega (arith, h, length-append xs (x ∷ [])))
last_same (a ∷ xs) (b ∷ ys) x y e =
    let more : xs ++ x ∷ [] ≡ ys ++ y ∷ [] = cc in
    let first : a ≡ b = cc in
    let both = last_same xs ys x y more in
    (rw (first, both.0) refl, both.1)

module _ {X : Type 0} (columns : X → Columns) (Alike : X → X → Type 0) (alike : (x y : X) → columns x ≡ columns y → Alike x y) where
  abbrev AllAlike : List X → List X → Type 0
  AllAlike [] [] = Unit {0}
  AllAlike [] (y ∷ ys) = ⊥
  AllAlike (x ∷ xs) [] = ⊥
  AllAlike (x ∷ xs) (y ∷ ys) = Alike x y × AllAlike xs ys

  pub all_alike : (xs ys : List X) → stored_by columns xs ≡ stored_by columns ys → AllAlike xs ys
  all_alike [] [] e = tt
  all_alike [] (y ∷ ys) e = absurd (let h = ap length e in omega (arith, h, length-append (stored_by columns ys) ((count (suc (length ys)) ∷ columns y) ∷ [])))
  all_alike (x ∷ xs) [] e = absurd (let h = ap length e in omega (arith, h, length-append (stored_by columns xs) ((count (suc (length xs)) ∷ columns x) ∷ [])))
  all_alike (x ∷ xs) (y ∷ ys) e =
      let both = last_same (stored_by columns xs) (stored_by columns ys) (count (suc (length xs)) ∷ columns x) (count (suc (length ys)) ∷ columns y) e in
      let one : columns x ≡ columns y = let h = both.1 in cc in
      (alike x y one, all_alike xs ys both.0)

module _ {X : Type 0} (columns : X → Columns) (same : (x y : X) → columns x ≡ columns y → x ≡ y) where
  equal : (xs ys : List X) → AllAlike columns (λ x y. x ≡ y) same xs ys → xs ≡ ys
  equal [] [] h = refl
  equal [] (y ∷ ys) h = absurd h
  equal (x ∷ xs) [] h = absurd h
  equal (x ∷ xs) (y ∷ ys) h = rw (h.0, equal xs ys h.1) refl

  pub stored_once : (xs ys : List X) → stored_by columns xs ≡ stored_by columns ys → xs ≡ ys
  stored_once xs ys e = equal xs ys (all_alike columns (λ x y. x ≡ y) same xs ys e)

pub same_serial : (x y : List ℕ) → raised_columns x ≡ raised_columns y → x ≡ y
same_serial x y e = cc

same_change : (x y : PriceChange) → change_columns x ≡ change_columns y → x ≡ y
same_change x y e =
    let a : x.serial ≡ y.serial = cc in
    let b : x.from ≡ y.from = cc in
    let c : x.price ≡ y.price = cc in
    let r : (let p : PriceChange = record { serial = x.serial; from = x.from; price = x.price } in p) ≡ (let p : PriceChange = record { serial = y.serial; from = y.from; price = y.price } in p) = rw (a, b, c) refl in r

same_kind : (a b : Kind) → kind_code a ≡ kind_code b → a ≡ b
same_kind kind.Add kind.Add e = refl
same_kind kind.Set kind.Set e = refl
same_kind kind.Disable kind.Disable e = refl
same_kind kind.Sync kind.Sync e = refl
same_kind kind.Add kind.Set e = absurd (omega (arith, e))
same_kind kind.Add kind.Disable e = absurd (omega (arith, e))
same_kind kind.Add kind.Sync e = absurd (omega (arith, e))
same_kind kind.Set kind.Add e = absurd (omega (arith, e))
same_kind kind.Set kind.Disable e = absurd (omega (arith, e))
same_kind kind.Set kind.Sync e = absurd (omega (arith, e))
same_kind kind.Disable kind.Add e = absurd (omega (arith, e))
same_kind kind.Disable kind.Set e = absurd (omega (arith, e))
same_kind kind.Disable kind.Sync e = absurd (omega (arith, e))
same_kind kind.Sync kind.Add e = absurd (omega (arith, e))
same_kind kind.Sync kind.Set e = absurd (omega (arith, e))
same_kind kind.Sync kind.Disable e = absurd (omega (arith, e))

same_ask : (a b : Ask) → ask_code a ≡ ask_code b → asked_code a ≡ asked_code b → a ≡ b
same_ask (Pay m) (Pay n) e f = ap Pay f
same_ask (Set m) (Set n) e f = ap Set f
same_ask Disable Disable e f = refl
same_ask Sync Sync e f = refl
same_ask (Pay m) (Set n) e f = absurd (omega (arith, e))
same_ask (Pay m) Disable e f = absurd (omega (arith, e))
same_ask (Pay m) Sync e f = absurd (omega (arith, e))
same_ask (Set m) (Pay n) e f = absurd (omega (arith, e))
same_ask (Set m) Disable e f = absurd (omega (arith, e))
same_ask (Set m) Sync e f = absurd (omega (arith, e))
same_ask Disable (Pay n) e f = absurd (omega (arith, e))
same_ask Disable (Set n) e f = absurd (omega (arith, e))
same_ask Disable Sync e f = absurd (omega (arith, e))
same_ask Sync (Pay n) e f = absurd (omega (arith, e))
same_ask Sync (Set n) e f = absurd (omega (arith, e))
same_ask Sync Disable e f = absurd (omega (arith, e))

same_form : (f g : Form) → digit_count f ≡ digit_count g → f ≡ g
same_form Nine Nine e = refl
same_form Fifteen Fifteen e = refl
same_form Nine Fifteen e = absurd (omega (arith, e))
same_form Fifteen Nine e = absurd (omega (arith, e))

same_flag : (a b : Bool) → flag a ≡ flag b → a ≡ b
same_flag true true e = refl
same_flag false false e = refl
same_flag true false e = absurd (let k : ◌≡◌ {A = ℕ} 1 0 = cc in omega (arith, k))
same_flag false true e = absurd (let k : ◌≡◌ {A = ℕ} 0 1 = cc in omega (arith, k))

abbrev made_order : List ℕ → List ℕ → Ask → Kind → ℕ → ℕ → ℕ → Order
made_order id serial ask kind count value token = record { id = id; serial = serial; ask = ask; kind = kind; count = count; value = value; token = token }

same_order : (x y : Order) → order_columns x ≡ order_columns y → x ≡ y
same_order x y e =
    let a : x.id ≡ y.id = cc in
    let b : x.serial ≡ y.serial = cc in
    let c1 : ask_code x.ask ≡ ask_code y.ask = cc in
    let c2 : asked_code x.ask ≡ asked_code y.ask = cc in
    let d1 : kind_code x.kind ≡ kind_code y.kind = cc in
    let f : x.count ≡ y.count = cc in
    let g : x.value ≡ y.value = cc in
    let h : x.token ≡ y.token = cc in
    let c : x.ask ≡ y.ask = same_ask x.ask y.ask c1 c2 in
    let d : x.kind ≡ y.kind = same_kind x.kind y.kind d1 in
    let r : made_order x.id x.serial x.ask x.kind x.count x.value x.token ≡ made_order y.id y.serial y.ask y.kind y.count y.value y.token = rw (a, b, c, d, f, g, h) refl in r

abbrev made_row : List ℕ → List ℕ → ℕ → ℕ → Form → ℕ → ℕ → ℕ → ℕ → ℕ → ℕ → Bool → Row
made_row serial key start divider form price total paid rest last limit closed = record {
  serial = serial;
  key = key;
  start = start;
  divider = divider;
  form = form;
  price = price;
  total = total;
  paid = paid;
  rest = rest;
  last = last;
  limit = limit;
  closed = closed;
}

same_row : (serials : List (List ℕ)) (x y : Row) → device_columns x ≡ device_columns y → x.limit ≡ limit_by serials x.serial → y.limit ≡ limit_by serials y.serial → x ≡ y
same_row serials x y e p q =
    let a : x.serial ≡ y.serial = cc in
    let b : x.key ≡ y.key = cc in
    let c : x.start ≡ y.start = cc in
    let d : x.divider ≡ y.divider = cc in
    let f1 : digit_count x.form ≡ digit_count y.form = cc in
    let f : x.form ≡ y.form = same_form x.form y.form f1 in
    let g : x.price ≡ y.price = cc in
    let h : x.total ≡ y.total = cc in
    let i : x.paid ≡ y.paid = cc in
    let j : x.rest ≡ y.rest = cc in
    let k : x.last ≡ y.last = cc in
    let l1 : flag x.closed ≡ flag y.closed = cc in
    let l : x.closed ≡ y.closed = same_flag x.closed y.closed l1 in
    let m : x.limit ≡ y.limit = p ∙ (ap (limit_by serials) a ∙ sym q) in
    let r : made_row x.serial x.key x.start x.divider x.form x.price x.total x.paid x.rest x.last x.limit x.closed ≡ made_row y.serial y.key y.start y.divider y.form y.price y.total y.paid y.rest y.last y.limit y.closed =
    rw (a, b, c, d, f, g, h, i, j, k, m, l) refl in r

abbrev columns_alike : List Row → List Row → Type 0
columns_alike = AllAlike device_columns (λ x y. device_columns x ≡ device_columns y) (λ x y e. e)

rows_once : (serials : List (List ℕ)) (xs ys : List Row) → columns_alike xs ys → AreLimited serials xs → AreLimited serials ys → xs ≡ ys
rows_once serials [] [] h p q = refl
rows_once serials [] (y ∷ ys) h p q = absurd h
rows_once serials (x ∷ xs) [] h p q = absurd h
rows_once serials (x ∷ xs) (y ∷ ys) h p q = rw (same_row serials x y h.0 p.0 q.0, rows_once serials xs ys h.1 p.1 q.1) refl

-- The trees hold these tables and no others.
pub hold_once : (trees : Trees) (s t : Tables) → Hold trees s → Hold trees t → s ≡ t
hold_once trees s t p q =
    let serials : p.serials ≡ q.serials = stored_once raised_columns same_serial p.serials q.serials (sym p.raised ∙ q.raised) in
    let rows : s.rows ≡ t.rows = rows_once p.serials s.rows t.rows (all_alike device_columns (λ x y. device_columns x ≡ device_columns y) (λ x y e. e) s.rows t.rows (sym p.rows ∙ q.rows)) p.limits
    (subst (λ l. AreLimited l t.rows) (sym serials) q.limits) in
    let orders : s.orders ≡ t.orders = stored_once order_columns same_order s.orders t.orders (sym p.orders ∙ q.orders) in
    let changes : s.changes ≡ t.changes = stored_once change_columns same_change s.changes t.changes (sym p.changes ∙ q.changes) in
    let r : (let a : Tables = record { rows = s.rows; orders = s.orders; changes = s.changes } in a) ≡ (let b : Tables = record { rows = t.rows; orders = t.orders; changes = t.changes } in b) = rw (rows, orders, changes) refl in r

-- ---- from what a connection does to what a keeper over it may hold

module _ (old new : State) (change : Tables → Tables) (before : Tables) (tells : Tells old before) where
  -- An answered change: what the keeper may hold is what it held, with the change.
  pub held_done : ((db : Trees) → IsTrue new.is_open → new.may_leave db → db ≡ new.committed.trees) → (IsTrue old.is_open → old.may_leave old.committed.trees)
      → doubt old.is_clean ≤ doubt new.is_clean → Tells new (change before) → (t : Tables) → MayHold new t → MayHold old before × (t ≡ change before)
  held_done settled stays clean now t may =
      let at : may.trees ≡ new.now.trees = settled may.trees now.is_open may.may ∙ ap (λ (d : Database). d.trees) (sym now.settled) in (
        record {
          clean = omega (arith, clean, may.clean);
          trees = old.committed.trees;
          may = stays tells.is_open;
          hold = subst (λ (d : Database). Hold d.trees before) tells.settled tells.hold;
        },
        hold_once may.trees t (change before) may.hold (subst (λ (l : Trees). Hold l (change before)) (sym at) now.hold),
      )

  -- Whatever was answered, and also after a crash: it is what it held, or that with the change.
  pub held_after : (IsTrue old.is_open → old.may_leave old.committed.trees) → Survives old new (λ trees. (t : Tables) → Tells old t → Hold trees (change t)) → (t : Tables) → MayHold new t
      → MayHold old t ⊎ (MayHold old before × (t ≡ change before))
  held_after stays survives t may =
      let was : HasCleanDisk old = omega (arith, survives.clean, may.clean) in
      elim (survives.crash may.clean may.trees may.may) [
        | inl earlier ↦ inl (record { clean = was; trees = may.trees; may = earlier; hold = may.hold })
        | inr commits ↦ inr (
          record { clean = was; trees = old.committed.trees; may = stays tells.is_open; hold = subst (λ (d : Database). Hold d.trees before) tells.settled tells.hold },
          hold_once may.trees t (change before) may.hold (commits before tells),
        )
      ]
