use Rattle.fleet_sim.proofs.Following.{typed_all, written_keys}
use Rattle.paygo_spec.specs.Digits.{digits_of}
use Rattle.fleet_sim.proofs.site.Site.enter.Goals as goal

pub press-requires : goal.press-requires
press-requires g c = written_keys c.args.form c.args.token _ c.write-length.ensures.digits

pub returns : goal.returns
returns g c =
    typed_all g.M.Mixer.next (digits_of c.args.form c.args.token) _
    c.args.self.now c.press.new.self c.happen.new.self c.args.tally.now c.press.new.tally c.happen.new.tally
    c.write-length.ensures.digits c.press.ensures c.happen.ensures
