use Rattle.std.proofs.Common.{◌∙◌, arith}
use Rattle.sheet_book.proofs.Entries.{money_of, dispute_of, one_more, all_summed, totals_found, flag_is, money_fits}
use Rattle.sheet_book.proofs.Entries.{disputes_fit, sum_fits}
use Rattle.sheet_book.proofs.book.Book.totals.Goals as goal

pub overflow_add-money : goal.overflow_add-money
overflow_add-money c =
    omega (
      arith,
      sum_fits c.loop-kept.money c.from-money.result _ _
          (rw c.from-money.ensures c.money.type_inv) c.values-kept-items.ensures.fits c.loop-kept.invariant.money_fits,
    )

pub loop-kept-preserved : goal.loop-kept-preserved
loop-kept-preserved c =
    let disputed = c.from-disputes.ensures ∙ flag_is _ in
    record {
      money_is = one_more money_of _ _ _ _ _ _ c.in-Some.ensures.steps
          (c.from-money.ensures ∙ c.money.ensures) c.loop-kept.invariant.money_is;
      money_fits = money_fits _ _ _ _ _ _ c.in-Some.ensures.steps
          (rw c.from-money.ensures c.money.type_inv) c.loop-kept.invariant.money_fits;
      disputes_is = one_more dispute_of _ _ _ _ _ _ c.in-Some.ensures.steps disputed c.loop-kept.invariant.disputes_is;
      disputes_fits = disputes_fit _ _ _ _ _ _ c.in-Some.ensures.steps disputed c.loop-kept.invariant.disputes_fits;
    }

pub returns : goal.returns
returns c = λ reports stands.
    totals_found c.args.self.now reports c.len.ensures.ordered stands _ _ _ c.len.ensures.len
    (all_summed money_of _ _ _ c.in-None.ensures.steps.0 c.loop-kept.invariant.money_is)
    (all_summed dispute_of _ _ _ c.in-None.ensures.steps.0 c.loop-kept.invariant.disputes_is)
