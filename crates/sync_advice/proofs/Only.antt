-- There is one climb from a floor, and one end of it.
use Rattle.std.proofs.Common.{◌≡◌, ◌≢◌, ℕ, ◌<◌, ◌≤◌, true, false, List, [], ◌∷◌, Option, Some, Result, Ok, Err, refl, sym, ap, ◌∙◌, subst, arith}
use Rattle.ledger_spec.specs.declared.Order.{Order}
use Rattle.sync_advice.specs.declared.advice.Advice.{Advice}
use Rattle.sync_advice.specs.declared.advice.Advice.TheVariants as advice
use Rattle.sync_advice.specs.declared.advice.AdviceFault.{AdviceFault}
use Rattle.sync_advice.specs.declared.advice.AdviceFault.TheVariants as fault
use Rattle.sync_advice.specs.Advice.{order_with, last_count, reached, follows, IsFar, IsEnd, Climbs}
use Rattle.sync_advice.specs.Answers.{AnswersAs, SayTheSame}
use Rattle.sync_advice.proofs.Climbing.{reach_parts, climbs_up, with_below}

module _ (orders : List Order) (limit : ℕ) where
  -- the order that leads farthest leads on
  far_follows : (from : ℕ) (order : Order) → IsFar orders limit from order
      → follows orders limit from order.count ≡ true
  far_follows from order far = ap (λ (o : Option Order). reached limit from o) far.listed ∙ far.reached_is

  far_above : (from : ℕ) (order : Order) → IsFar orders limit from order → from < order.count
  far_above from order far = (reach_parts limit from order far.reached_is).0

  far_low : (from : ℕ) (order : Order) → IsFar orders limit from order → order.count ≤ last_count orders
  far_low from order far = with_below orders order.count order far.listed

  -- where one leads on there is no end
  no_end : (from : ℕ) (order : Order) → IsFar orders limit from order → IsEnd orders limit from → ⊥
  no_end from order far end = let q : true ≡ false = sym (far_follows from order far) ∙ end order.count in cc

  -- and one order alone leads farthest
  one_far : (from : ℕ) (one other : Order) → IsFar orders limit from one → IsFar orders limit from other → one ≡ other
  one_far from one other a b =
      let up = b.greatest one.count (far_follows from one a) in
      let down = a.greatest other.count (far_follows from other b) in
      let same : one.count ≡ other.count = omega arith in
      let q : Some one ≡ Some other = sym a.listed ∙ ap (order_with orders) same ∙ b.listed in
      cc

  -- so there is one climb to the greatest count
  one_climb : (from : ℕ) (one other : List Order) → Climbs orders limit from one (last_count orders)
      → Climbs orders limit from other (last_count orders) → one ≡ other
  one_climb from [] [] a b = refl
  one_climb from [] (order ∷ other) a b =
      let above = far_above from order b.0 in
      let low = far_low from order b.0 in
      absurd (omega arith)
  one_climb from (order ∷ one) [] a b =
      let above = far_above from order a.0 in
      let low = far_low from order a.0 in
      absurd (omega arith)
  one_climb from (order ∷ one) (first ∷ other) a b =
      let same = one_far from order first a.0 b.0 in
      let rest = subst (λ (o : Order). Climbs orders limit o.count other (last_count orders)) (sym same) b.1 in
      let tail : one ≡ other = one_climb order.count one other a.1 rest in
      cc

  -- none that comes there where it stops
  no_climb : (from count : ℕ) (one other : List Order) → count < last_count orders → IsEnd orders limit count
      → Climbs orders limit from one (last_count orders) → Climbs orders limit from other count → ⊥
  no_climb from count [] other below end a b = let up = climbs_up orders limit from count other b in omega arith
  no_climb from count (order ∷ one) [] below end a b =
      no_end from order a.0 (subst (λ (k : ℕ). IsEnd orders limit k) (sym b) end)
  no_climb from count (order ∷ one) (first ∷ other) below end a b =
      let same = one_far from order first a.0 b.0 in
      no_climb order.count count one other below end a.1
      (subst (λ (o : Order). Climbs orders limit o.count other count) (sym same) b.1)

  -- and one count at which it stops
  one_stop : (from count final : ℕ) (one other : List Order) → IsEnd orders limit count → IsEnd orders limit final
      → Climbs orders limit from one count → Climbs orders limit from other final → count ≡ final
  one_stop from count final [] [] end last a b = sym a ∙ b
  one_stop from count final [] (order ∷ other) end last a b =
      absurd (no_end from order b.0 (subst (λ (k : ℕ). IsEnd orders limit k) (sym a) end))
  one_stop from count final (order ∷ one) [] end last a b =
      absurd (no_end from order a.0 (subst (λ (k : ℕ). IsEnd orders limit k) (sym b) last))
  one_stop from count final (order ∷ one) (first ∷ other) end last a b =
      let same = one_far from order first a.0 b.0 in
      one_stop order.count count final one other end last a.1
      (subst (λ (o : Order). Climbs orders limit o.count other final) (sym same) b.1)

  pub one_advice : (floor : ℕ) (one other : Result Advice AdviceFault) → AnswersAs orders limit floor one
      → AnswersAs orders limit floor other → one ≢ Err fault.Memory → other ≢ Err fault.Memory → SayTheSame one other
  one_advice floor (Ok (advice.List one)) (Ok (advice.List other)) a b m n =
      one_climb floor one.items other.items a.1 b.1
  one_advice floor (Ok (advice.List one)) (Ok (advice.Gap other)) a b m n =
      no_climb floor other one.items b.1.list b.1.before b.1.end a.1 b.1.climbs
  one_advice floor (Ok (advice.Gap one)) (Ok (advice.List other)) a b m n =
      no_climb floor one other.items a.1.list a.1.before a.1.end b.1 a.1.climbs
  one_advice floor (Ok (advice.Gap one)) (Ok (advice.Gap other)) a b m n =
      one_stop floor one other a.1.list b.1.list a.1.end b.1.end a.1.climbs b.1.climbs
  one_advice floor (Ok (advice.List one)) (Err (fault.Above other)) a b m n = let x = a.0 in let y = b.0 in omega arith
  one_advice floor (Ok (advice.Gap one)) (Err (fault.Above other)) a b m n = let x = a.0 in let y = b.0 in omega arith
  one_advice floor (Err (fault.Above one)) (Ok (advice.List other)) a b m n = let x = a.0 in let y = b.0 in omega arith
  one_advice floor (Err (fault.Above one)) (Ok (advice.Gap other)) a b m n = let x = a.0 in let y = b.0 in omega arith
  one_advice floor (Err (fault.Above one)) (Err (fault.Above other)) a b m n = a.1 ∙ sym b.1
  one_advice floor (Err fault.Memory) other a b m n = absurd (m refl)
  one_advice floor (Ok (advice.List one)) (Err fault.Memory) a b m n = n refl
  one_advice floor (Ok (advice.Gap one)) (Err fault.Memory) a b m n = n refl
  one_advice floor (Err (fault.Above one)) (Err fault.Memory) a b m n = n refl
