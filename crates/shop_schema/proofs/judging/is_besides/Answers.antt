use Rattle.std.proofs.Common.{◌≡◌, ap, sym, ◌∙◌}
use Rattle.std.specs.Prelude.{not, Bool, List}
use Rattle.std.specs.List.{list_any}
use Rattle.sqlite_schema.specs.Names.{same_name}
use Rattle.shop_schema.specs.declared.form.Holds.{Holds}
use Rattle.shop_schema.specs.Form.{Name}
use Rattle.shop_schema.proofs.Needs.{any_need}
use Rattle.shop_schema.proofs.judging.is_besides.Goals as goal

pub returns : goal.returns
returns c =
    let p : Name × Holds → Bool = λ n. same_name c.args.name.now n.0 in
    let listed = λ (xs : List (Name × Holds)). list_any p xs in
    ap not (c.is_needed.ensures ∙ sym (any_need p c.needs.result.now) ∙ ap listed c.needs.ensures)
