use Rattle.device_core.proofs.device.Device.react.Goals as goal

pub returns-in-Power : goal.returns-in-Power
returns-in-Power g c = rw c.in-Power.is (c.power.ensures g.M.Mixer.next)
