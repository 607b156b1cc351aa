use Rattle.std.proofs.Common.{arith, rules}
use Rattle.line_loop.proofs.Pieces.{front_put}
use Rattle.line_loop.proofs.lines.put.Goals as goal

pub returns-clause-front : goal.returns-clause-front
returns-clause-front c = λ text front.
    front_put c.args.line.now text c.args.piece.now (search rules) c.min-at.result c.min-n.result _ c.args.length _ c.min-at.ensures c.min-n.ensures (omega arith) (search rules) front
