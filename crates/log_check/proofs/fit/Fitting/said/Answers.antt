use Rattle.std.proofs.Common.{◌≡◌, refl, rules}
use Rattle.std.specs.Str.{bytes_eq}
use Rattle.log_check.proofs.Answering.{said_fits}
use Rattle.log_check.proofs.fit.Fitting.said.Goals as goal

pub returns : goal.returns
returns c next old stood waits =
    let e : c.eq.result ≡ bytes_eq c.args.said.now c.args.text.now = search rules in
    said_fits next c.args.text.now c.args.self.now _ c.take_first.new.self old c.args.said.now _ stood waits e refl refl
    (λ are. c.keep_if.ensures old.states are) (c.take_first.ensures next)
