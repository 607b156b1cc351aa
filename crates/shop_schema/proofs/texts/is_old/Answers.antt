use Rattle.std.proofs.Common.{arith, ◌≡◌, take, drop, sym, ◌∙◌}
use Rattle.std.specs.Prelude.{codes}
use Rattle.std.proofs.lemmas.Grind.{common_steps}
use Rattle.shop_schema.specs.Texts.{old_text}
use Rattle.shop_schema.proofs.OldTexts.{of_parts, rest_whole}
use Rattle.shop_schema.proofs.texts.is_old.Goals as goal

pub returns : goal.returns
returns c = λ r.
    let first : take 13 c.args.sql.now ≡ take 13 c.args.plain.now = grind (arith, common_steps) in
    let middle : take 14 (drop 13 c.args.sql.now) ≡ codes "IF NOT EXISTS " = grind (arith, common_steps) in
    let last : drop 27 c.args.sql.now ≡ drop 13 c.args.plain.now =
    sym (rest_whole 27 c.args.sql.now) ∙ c.is_same-2.ensures r ∙ rest_whole 13 c.args.plain.now in
    of_parts _ _ _ _ first middle last
