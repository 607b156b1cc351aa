use Rattle.std.proofs.Common.{[]}
use Rattle.paygo_spec.specs.Window.{alone}
use Rattle.token_decode.proofs.Meaning.{may_take}
use Rattle.token_decode.proofs.find.Goals as goal

pub returns-clause-may : goal.returns-clause-may
returns-clause-may g c =
    may_take (g.M.Mixer.next c.args.key.now) c.args.start (alone c.args.window.now.limit c.args.window.now.last c.args.window.now.bits) [] c.args.token
    c.search.result (rw c.value_of.ensures.value at c.search.ensures)
