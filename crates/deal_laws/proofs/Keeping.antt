-- The promises of a deal.
use Rattle.std.proofs.Common.{if◌then◌else◌, ◌≡◌, ◌≢◌, ℕ, ◌+◌, ◌-◌, ◌*◌, ◌^◌, ◌<◌, ◌≤◌, min, ◌⊎◌, Bool, true, false, ◌==◌, ◌&&◌, ◌||◌, nat_lt, nat_le, filter, inl, inr, ⊎_elim, List, [], ◌∷◌, ◌++◌, reverse, flat_map, Some, None, refl, sym, ap, subst, ◌∙◌, arith, append_assoc, append-nil}
use Rattle.std.proofs.lemmas.Bool.{cases_Bool}
use Rattle.std.proofs.lemmas.Bool.Decides.{nat_tests}
use Rattle.std.proofs.lemmas.List.{reverse-append}
use Rattle.ledger_spec.specs.declared.Order.{Order}
use Rattle.deal_spec.specs.Deal.{Item, Sold, Accepted, Failed, Passed, Raised, Move, Counts, Cut, Worn, Again, Blocked, Old, Starts, Idle, Has, newest, used, is_odd, clock, Clock, after_token, MaySell, MayAccept, IsFresh, IsUsable, MayCount, MayMove, after, Deals}
use Rattle.deal_spec.specs.Promises.{IsTold, OneToken, effects, NoneTwice, counted, is_of_time, TimeLeft, CutsAreWhole, AnsweredCounts, Typed, Waited, asked_at, UsablesTaken}

-- the book only grows
has_after : (move : Move) (book : List Item) (x : Item) → Has book x → Has (after move book) x
has_after (Counts item) book x has = inr has
has_after (Cut item true) book x has = inr has
has_after (Cut item false) book x has = has
has_after (Worn item) book x has = has
has_after (Again order) book x has = has
has_after (Blocked token) book x has = has
has_after (Old token) book x has = has
has_after Starts book x has = has
has_after Idle book x has = has

-- Two clocks show the same time.
record SameTime (a b : Clock) : Type 0 where
  pub left : a.left ≡ b.left
  pub free : a.free ≡ b.free

-- a token makes the same of the same time
token_time : (unit n v : ℕ) (a b : Clock) → SameTime a b → SameTime (after_token unit n v a) (after_token unit n v b)
token_time unit n v a b same =
    ⊎_elim
    (λ (h : nat_le v 995 ≡ true). ⊎_elim
    (λ (o : is_odd n ≡ true). record { left = rw (h, o) refl; free = rw (h, o) refl })
    (λ (o : is_odd n ≡ false). ⊎_elim
    (λ (f : b.free ≡ true). let g : a.free ≡ true = same.free ∙ f in record { left = rw (h, o, f, g) same.left; free = rw (h, o, f, g) refl })
    (λ (f : b.free ≡ false). let g : a.free ≡ false = same.free ∙ f in record { left = rw (h, o, f, g) (ap (λ (l : ℕ). min (l + v * unit) (10 ^ 12)) same.left); free = rw (h, o, f, g) refl })
    (cases_Bool b.free))
    (cases_Bool (is_odd n)))
    (λ (h : nat_le v 995 ≡ false). ⊎_elim
    (λ (k : (is_odd n && v == 998) ≡ true). record { left = rw (h, k) refl; free = rw (h, k) refl })
    (λ (k : (is_odd n && v == 998) ≡ false). record { left = rw (h, k) same.left; free = rw (h, k) same.free })
    (cases_Bool (is_odd n && v == 998)))
    (cases_Bool (nat_le v 995))

-- time is that of accepted tokens and seconds alone
time_alone : (unit : ℕ) (book : List Item) → SameTime (clock unit (filter is_of_time book)) (clock unit book)
time_alone unit [] = record { left = refl; free = refl }
time_alone unit (Sold order ∷ book) = time_alone unit book
time_alone unit (Accepted n v token ∷ book) = token_time unit n v (clock unit (filter is_of_time book)) (clock unit book) (time_alone unit book)
time_alone unit (Failed token ∷ book) = let rest = time_alone unit book in record { left = rest.left; free = rest.free }
time_alone unit (Passed seconds ∷ book) = let rest = time_alone unit book in record { left = ap (λ (l : ℕ). l - seconds) rest.left; free = rest.free }
time_alone unit (Raised ∷ book) = time_alone unit book

module _ (unit : ℕ) where
  has_still : (old new : List Item) (moves : List Move) (x : Item) → Deals unit old moves new → Has old x → Has new x
  has_still old new [] x deals has = subst (λ (b : List Item). Has b x) (sym deals) has
  has_still old new (move ∷ moves) x deals has = has_still (after move old) new moves x deals.1 (has_after move old x has)

  -- what was answered is in the book
  answered_has : (old new : List Item) (moves : List Move) (x : Item) → Deals unit old moves new → Has moves (Counts x) → Has new x
  answered_has old new [] x deals has = absurd has
  answered_has old new (move ∷ moves) x deals (inl e) =
      has_still (after move old) new moves x deals.1 (subst (λ (m : Move). Has (after m old) x) e (inl refl))
  answered_has old new (move ∷ moves) x deals (inr has) = answered_has (after move old) new moves x deals.1 has

  again_has : (old new : List Item) (moves : List Move) (order : Order) → Deals unit old moves new → Has moves (Again order) → Has new (Sold order)
  again_has old new [] order deals has = absurd has
  again_has old new (move ∷ moves) order deals (inl e) =
      has_still old new (move ∷ moves) (Sold order) deals (subst (λ (m : Move). MayMove unit old m → Has old (Sold order)) e (λ h. h) deals.0)
  again_has old new (move ∷ moves) order deals (inr has) = again_has (after move old) new moves order deals.1 has

  told_has : (old new : List Item) (moves : List Move) (order : Order) → Deals unit old moves new → IsTold moves order → Has new (Sold order)
  told_has old new moves order deals (inl has) = answered_has old new moves (Sold order) deals has
  told_has old new moves order deals (inr has) = again_has old new moves order deals has

  -- the book is what the moves counted
  after_is : (move : Move) (book : List Item) → after move book ≡ reverse (counted move) ++ book
  after_is (Counts item) book = refl
  after_is (Cut item true) book = refl
  after_is (Cut item false) book = refl
  after_is (Worn item) book = refl
  after_is (Again order) book = refl
  after_is (Blocked token) book = refl
  after_is (Old token) book = refl
  after_is Starts book = refl
  after_is Idle book = refl

  book_is : (old new : List Item) (moves : List Move) → Deals unit old moves new → new ≡ reverse (flat_map counted moves) ++ old
  book_is old new [] deals = deals
  book_is old new (move ∷ moves) deals =
      book_is (after move old) new moves deals.1
      ∙ ap (λ (b : List Item). reverse (flat_map counted moves) ++ b) (after_is move old)
      ∙ sym (append_assoc (reverse (flat_map counted moves)) (reverse (counted move)) old)
      ∙ ap (λ (b : List Item). b ++ old) (sym (reverse-append (counted move) (flat_map counted moves)))

  -- Each item of a book came when it might.
  abbrev pub IsBook : List Item → Type 0
  IsBook [] = Unit {0}
  IsBook (item ∷ book) = IsBook book × MayCount unit book item

  book_after : (move : Move) (book : List Item) → IsBook book → MayMove unit book move → IsBook (after move book)
  book_after (Counts item) book is may = (is, may)
  book_after (Cut item true) book is may = (is, may)
  book_after (Cut item false) book is may = is
  book_after (Worn item) book is may = is
  book_after (Again order) book is may = is
  book_after (Blocked token) book is may = is
  book_after (Old token) book is may = is
  book_after Starts book is may = is
  book_after Idle book is may = is

  pub book_still : (old new : List Item) (moves : List Move) → IsBook old → Deals unit old moves new → IsBook new
  book_still old new [] is deals = subst IsBook (sym deals) is
  book_still old new (move ∷ moves) is deals = book_still (after move old) new moves (book_after move old is deals.0) deals.1

  -- two orders that were sold differ in id and token
  module _ {K : Type 0} (key : Order → K) (apart : (book : List Item) (order other : Order) → MaySell book order → Has book (Sold other) → key other ≢ key order) where
    one_order : (book : List Item) (a b : Order) → IsBook book → Has book (Sold a) → Has book (Sold b) → key a ≡ key b → a ≡ b
    one_order [] a b is has other same = absurd has
    one_order (item ∷ book) a b is (inl e) (inl f) same = let one : Sold a ≡ Sold b = e ∙ sym f in cc
    one_order (item ∷ book) a b is (inl e) (inr other) same =
        let may : MaySell book a = subst (MayCount unit book) (sym e) is.1 in
        absurd (apart book a b may other (sym same))
    one_order (item ∷ book) a b is (inr has) (inl f) same =
        let may : MaySell book b = subst (MayCount unit book) (sym f) is.1 in
        absurd (apart book b a may has same)
    one_order (item ∷ book) a b is (inr has) (inr other) same = one_order book a b is.0 has other same

  -- the token of an order is accepted at the order's count alone
  accepted_as : (book : List Item) (order : Order) (n v : ℕ) → IsBook book → Has book (Sold order) → Has book (Accepted n v order.token) → n ≡ order.count
  accepted_as [] order n v is has taken = absurd has
  accepted_as (item ∷ book) order n v is (inl e) (inl f) = let bad : Sold order ≡ Accepted n v order.token = e ∙ sym f in cc
  accepted_as (item ∷ book) order n v is (inl e) (inr taken) =
      let may : MaySell book order = subst (MayCount unit book) (sym e) is.1 in
      (may.alone n v taken).0
  accepted_as (item ∷ book) order n v is (inr has) (inl f) =
      let may : MayAccept unit book n v order.token = subst (MayCount unit book) (sym f) is.1 in
      (may.alone order has refl).0
  accepted_as (item ∷ book) order n v is (inr has) (inr taken) = accepted_as book order n v is.0 has taken

  -- How often a count was accepted.
  abbrev pub accepts : ℕ → List Item → ℕ
  accepts n [] = 0
  accepts n (Accepted count v t ∷ book) = (if count == n then 1 else 0) + accepts n book
  accepts n (_ ∷ book) = accepts n book

  effects_few : (token n : ℕ) (book : List Item) → ((m v : ℕ) → Has book (Accepted m v token) → m ≡ n) → effects token book ≤ accepts n book
  effects_few token n [] own = omega arith
  effects_few token n (Accepted m v t ∷ book) own =
      let rest : effects token book ≤ accepts n book = effects_few token n book (λ k w has. own k w (inr has)) in
      ⊎_elim
      (λ (h : (t == token) ≡ true).
      let e : t ≡ token = grind (arith, nat_tests) in
      let same : m ≡ n = own m v (inl (ap (λ (x : ℕ). Accepted m v x) (sym e))) in
      let here : (m == n) ≡ true = grind (arith, nat_tests) in
      rw (h, here) (omega arith))
      (λ (h : (t == token) ≡ false). rw h (omega arith))
      (cases_Bool (t == token))
  effects_few token n (Sold o ∷ book) own = effects_few token n book (λ k w has. own k w (inr has))
  effects_few token n (Failed t ∷ book) own = effects_few token n book (λ k w has. own k w (inr has))
  effects_few token n (Passed s ∷ book) own = effects_few token n book (λ k w has. own k w (inr has))
  effects_few token n (Raised ∷ book) own = effects_few token n book (λ k w has. own k w (inr has))

  -- a count above the newest one was never accepted, and neither was one that isn't used
  none_above : (n : ℕ) (book : List Item) → newest book < n → accepts n book ≡ 0
  none_above n [] above = refl
  none_above n (Accepted m v t ∷ book) above =
      let rest : accepts n book ≡ 0 = none_above n book (omega arith) in
      let here : (m == n) ≡ false = grind (arith, nat_tests) in
      rw here (omega arith)
  none_above n (Sold o ∷ book) above = none_above n book above
  none_above n (Failed t ∷ book) above = none_above n book above
  none_above n (Passed s ∷ book) above = none_above n book above
  none_above n (Raised ∷ book) above = none_above n book above

  none_unused : (n : ℕ) (book : List Item) → used book n ≡ false → accepts n book ≡ 0
  none_unused n [] unused = refl
  none_unused n (Accepted m v t ∷ book) unused =
      ⊎_elim
      (λ (h : (n == m) ≡ true). let bad : true ≡ false = rw h at unused in absurd cc)
      (λ (h : (n == m) ≡ false).
      ⊎_elim
      (λ (u : used book n ≡ true). let bad : (((n == m) || (is_odd m && nat_lt n m)) || true) ≡ false = rw u at unused in absurd (or_not ((n == m) || (is_odd m && nat_lt n m)) bad))
      (λ (u : used book n ≡ false).
      let rest : accepts n book ≡ 0 = none_unused n book u in
      let here : (m == n) ≡ false = grind (arith, nat_tests) in
      rw here (omega arith))
      (cases_Bool (used book n)))
      (cases_Bool (n == m))
    where
      or_not : (b : Bool) → (b || true) ≡ false → ⊥
      or_not true e = cc
      or_not false e = cc
  none_unused n (Sold o ∷ book) unused = none_unused n book unused
  none_unused n (Failed t ∷ book) unused = none_unused n book unused
  none_unused n (Passed s ∷ book) unused = none_unused n book unused
  none_unused n (Raised ∷ book) unused = none_unused n book unused

  none_before : (n v : ℕ) (book : List Item) → IsFresh book n v → accepts n book ≡ 0
  none_before n v book fresh = ⊎_elim (λ odd. none_above n book odd.1) (λ even. none_unused n book even.2) fresh.unused

  counts_once : (n : ℕ) (book : List Item) → IsBook book → accepts n book ≤ 1
  counts_once n [] is = omega arith
  counts_once n (Accepted m v t ∷ book) is =
      let rest : accepts n book ≤ 1 = counts_once n book is.0 in
      let none : accepts m book ≡ 0 = none_before m v book is.1.fresh in
      ⊎_elim
      (λ (h : (m == n) ≡ true).
      let e : m ≡ n = grind (arith, nat_tests) in
      let gone : accepts n book ≡ 0 = subst (λ (k : ℕ). accepts k book ≡ 0) e none in
      rw h (omega arith))
      (λ (h : (m == n) ≡ false). rw h (omega arith))
      (cases_Bool (m == n))
  counts_once n (Sold o ∷ book) is = counts_once n book is.0
  counts_once n (Failed t ∷ book) is = counts_once n book is.0
  counts_once n (Passed s ∷ book) is = counts_once n book is.0
  counts_once n (Raised ∷ book) is = counts_once n book is.0

  takes_once : (book : List Item) (order : Order) → IsBook book → Has book (Sold order) → effects order.token book ≤ 1
  takes_once book order is has =
      let few = effects_few order.token order.count book (λ n v taken. accepted_as book order n v is has taken) in
      let once = counts_once order.count book is in
      omega arith

  below_same : (n m : ℕ) → n ≡ m → n < m → ⊥
  below_same n m e below = omega arith

  -- the six promises
  pub one_token : (moves : List Move) (book : List Item) → Deals unit [] moves book → OneToken moves book
  one_token moves book deals =
      let is : IsBook book = book_still [] book moves tt deals in
      let sold = λ (order : Order) (told : IsTold moves order). told_has [] book moves order deals told in
      record {
        sold = sold;
        same = λ a b first again same. one_order (λ o. o.id) (λ bk o p may sold. (may.differs p sold).1) book a b is (sold a first) (sold b again) same;
        one_id = λ a b has other same. one_order (λ o. o.id) (λ bk o p may sold. (may.differs p sold).1) book a b is has other same;
        one_count = λ a b has other same. one_order (λ o. o.count) (λ bk o p may sold e. below_same p.count o.count e (may.differs p sold).0) book a b is has other same;
        one_token = λ a b has other same. one_order (λ o. o.token) (λ bk o p may sold. (may.differs p sold).2) book a b is has other same;
      }

  pub none_twice : (moves : List Move) (book : List Item) → Deals unit [] moves book → NoneTwice book
  none_twice moves book deals = λ order has. takes_once book order (book_still [] book moves tt deals) has

  pub whole : (moves : List Move) (book : List Item) → Deals unit [] moves book → CutsAreWhole moves book
  whole moves book deals = book_is [] book moves deals ∙ append-nil (reverse (flat_map counted moves))

  pub time_left : (moves : List Move) (book : List Item) → Deals unit [] moves book → TimeLeft unit book
  time_left moves book deals = sym (time_alone unit book).left

  pub answered : (moves : List Move) (book : List Item) → Deals unit [] moves book → AnsweredCounts moves book
  answered moves book deals = λ item has. answered_has [] book moves item deals has

  some_token : (a b : ℕ) → Some (Typed a) ≡ Some (Typed b) → a ≡ b
  some_token a b e = cc

  no_token : (b : ℕ) → None ≡ Some (Typed b) → ⊥
  no_token b e = cc

  no_wait : (s b : ℕ) → Some (Waited s) ≡ Some (Typed b) → ⊥
  no_wait s b e = cc

  taken_item : (book : List Item) (order : Order) (item : Item) → IsUsable unit book order → MayCount unit book item → asked_at (Counts item) ≡ Some (Typed order.token) → item ≡ Accepted order.count order.value order.token
  taken_item book order (Sold o) usable may typed = absurd (no_token order.token typed)
  taken_item book order (Accepted n v t) usable may typed =
      let e : t ≡ order.token = some_token t order.token typed in
      let own = may.alone order usable.sold e in
      let n_is : n ≡ order.count = own.0 in
      let v_is : v ≡ order.value = own.1 in
      cc
  taken_item book order (Failed t) usable may typed = absurd (may.1 order usable (some_token t order.token typed))
  taken_item book order (Passed s) usable may typed = absurd (no_wait s order.token typed)
  taken_item book order Raised usable may typed = absurd (no_token order.token typed)

  blocked_not : (n : ℕ) → n ≡ 0 → 0 < n → ⊥
  blocked_not n none some = omega arith

  pub usables_taken : UsablesTaken unit
  usables_taken book order (Counts item) usable may typed = taken_item book order item usable may typed
  usables_taken book order (Cut item counted) usable may typed = taken_item book order item usable may typed
  usables_taken book order (Worn item) usable may typed = taken_item book order item usable may typed
  usables_taken book order (Again o) usable may typed = absurd (no_token order.token typed)
  usables_taken book order (Blocked t) usable may typed = absurd (blocked_not (clock unit book).block usable.unblocked may)
  usables_taken book order (Old t) usable may typed = absurd (may.1 order usable (some_token t order.token typed))
  usables_taken book order Starts usable may typed = absurd (no_token order.token typed)
  usables_taken book order Idle usable may typed = absurd (no_token order.token typed)

  -- an accepted count is used
  or_true : (b : Bool) → (b || true) ≡ true
  or_true true = refl
  or_true false = refl

  accepted_used : (book : List Item) (n v t : ℕ) → Has book (Accepted n v t) → (n ≤ newest book) × (used book n ≡ true)
  accepted_used [] n v t has = absurd has
  accepted_used (Accepted m w s ∷ book) n v t (inl e) =
      let same : n ≡ m = cc in
      let here : (n == m) ≡ true = grind (arith, nat_tests) in
      (omega arith, rw here refl)
  accepted_used (Accepted m w s ∷ book) n v t (inr has) =
      let rest = accepted_used book n v t has in
      let low : n ≤ newest book = rest.0 in
      (omega arith, rw rest.1 (or_true ((n == m) || (is_odd m && nat_lt n m))))
  accepted_used (Sold o ∷ book) n v t (inl e) = let bad : Accepted n v t ≡ Sold o = e in cc
  accepted_used (Sold o ∷ book) n v t (inr has) = accepted_used book n v t has
  accepted_used (Failed s ∷ book) n v t (inl e) = let bad : Accepted n v t ≡ Failed s = e in cc
  accepted_used (Failed s ∷ book) n v t (inr has) = accepted_used book n v t has
  accepted_used (Passed s ∷ book) n v t (inl e) = let bad : Accepted n v t ≡ Passed s = e in cc
  accepted_used (Passed s ∷ book) n v t (inr has) = accepted_used book n v t has
  accepted_used (Raised ∷ book) n v t (inl e) = let bad : Accepted n v t ≡ Raised = e in cc
  accepted_used (Raised ∷ book) n v t (inr has) = accepted_used book n v t has

  not_below : (n newest : ℕ) → n ≤ newest → newest < n → ⊥
  not_below n newest low high = omega arith

  not_fresh : (book : List Item) (n v t : ℕ) → Has book (Accepted n v t) → IsFresh book n v → ⊥
  not_fresh book n v t has fresh =
      let were = accepted_used book n v t has in
      ⊎_elim (λ odd. not_below n (newest book) were.0 odd.1) (λ even. let bad : true ≡ false = sym were.1 ∙ even.2 in cc) fresh.unused

  -- a used token counts nothing
  used_item : (book : List Item) (order : Order) (item : Item) → Has book (Sold order) → Has book (Accepted order.count order.value order.token) → MayCount unit book item → asked_at (Counts item) ≡ Some (Typed order.token) → ⊥
  used_item book order (Sold o) sold has may typed = no_token order.token typed
  used_item book order (Accepted n v t) sold has may typed =
      let own = may.alone order sold (some_token t order.token typed) in
      not_fresh book order.count order.value order.token has (subst (λ (k : ℕ). IsFresh book order.count k) own.1 (subst (λ (k : ℕ). IsFresh book k v) own.0 may.fresh))
  used_item book order (Failed t) sold has may typed = may.2 order.count order.value (subst (λ (k : ℕ). Has book (Accepted order.count order.value k)) (sym (some_token t order.token typed)) has)
  used_item book order (Passed s) sold has may typed = no_wait s order.token typed
  used_item book order Raised sold has may typed = no_token order.token typed

  pub used_tokens : (moves : List Move) (book : List Item) (order : Order) (move : Move) → Deals unit [] moves book → Has book (Sold order) → Has book (Accepted order.count order.value order.token) → MayMove unit book move
      → asked_at move ≡ Some (Typed order.token) → (move ≡ Blocked order.token) ⊎ (move ≡ Old order.token)
  used_tokens moves book order (Counts item) deals sold has may typed = absurd (used_item book order item sold has may typed)
  used_tokens moves book order (Cut item counted) deals sold has may typed = absurd (used_item book order item sold has may typed)
  used_tokens moves book order (Worn item) deals sold has may typed = absurd (used_item book order item sold has may typed)
  used_tokens moves book order (Again o) deals sold has may typed = absurd (no_token order.token typed)
  used_tokens moves book order (Blocked t) deals sold has may typed = inl (ap (λ (k : ℕ). Blocked k) (some_token t order.token typed))
  used_tokens moves book order (Old t) deals sold has may typed = inr (ap (λ (k : ℕ). Old k) (some_token t order.token typed))
  used_tokens moves book order Starts deals sold has may typed = absurd (no_token order.token typed)
  used_tokens moves book order Idle deals sold has may typed = absurd (no_token order.token typed)
