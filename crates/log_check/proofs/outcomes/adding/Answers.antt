use Rattle.std.proofs.Common.{◌≡◌, [], ◌∷◌, map, ap, ◌∙◌, rules}
use Rattle.log_check.specs.After.{adding as adding_of}
use Rattle.log_check.specs.Standing.{history_of, outcome_of}
use Rattle.log_check.proofs.Standings.{ok_if, adds_four, adds_five}
use Rattle.log_check.proofs.outcomes.adding.Goals as goal

pub returns-then-made-eq512-clause-outcomes : goal.returns-then-made-eq512-clause-outcomes
returns-then-made-eq512-clause-outcomes c =
    ok_if (λ list. list.items ≡ c.foresee-answered.result ∷ c.foresee-counted.result ∷ c.foresee-before.result ∷
    c.foresee-passed.result ∷ c.foresee-turned.result ∷ [])
    (λ list. map outcome_of list.items ≡ adding_of (history_of c.args.made.now) c.args.entry)
    c.listed-then-made-eq512.result
    (λ list e. ap (map outcome_of) e
    ∙ adds_five c.args.made.now c.with-with.result c.further.result c.args.entry c.reply_to.result c.turned.result
    c.foresee-answered.result c.foresee-counted.result c.foresee-before.result c.foresee-passed.result
    c.foresee-turned.result
    c.foresee-answered.ensures c.foresee-counted.ensures c.foresee-before.ensures c.foresee-passed.ensures
    c.foresee-turned.ensures
    (search rules) c.if-made-eq512.true c.with-with.ensures.stands c.further.ensures.stands c.turned.ensures.stands
    c.reply_to.ensures)
    c.listed-then-made-eq512.ensures.same

pub returns-clause-outcomes : goal.returns-clause-outcomes
returns-clause-outcomes c =
    ok_if (λ list. list.items ≡ c.foresee-answered.result ∷ c.foresee-counted.result ∷ c.foresee-before.result ∷
    c.foresee-passed.result ∷ [])
    (λ list. map outcome_of list.items ≡ adding_of (history_of c.args.made.now) c.args.entry) c.listed-2.result
    (λ list e. ap (map outcome_of) e
    ∙ adds_four c.args.made.now c.with-with.result c.further.result c.args.entry c.reply_to.result
    c.foresee-answered.result c.foresee-counted.result c.foresee-before.result c.foresee-passed.result
    c.foresee-answered.ensures c.foresee-counted.ensures c.foresee-before.ensures c.foresee-passed.ensures
    (search rules) c.if-made-eq512.false c.with-with.ensures.stands c.further.ensures.stands c.reply_to.ensures)
    c.listed-2.ensures.same
