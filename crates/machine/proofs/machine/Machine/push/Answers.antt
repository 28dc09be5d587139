use Rattle.machine.specs.Model.{core_of, plan_of}
use Rattle.machine.proofs.Machines.{held_fine, refitted, sound_of}
use Rattle.machine.proofs.Sounds.{sound_pushed}
use Rattle.machine.proofs.machine.Machine.push.Goals as goal

pub invariant_of-self : goal.invariant_of-self
invariant_of-self g c =
    let m = c.args.self.now in
    let h = c.get-held.result in
    let f = refitted m _ _ c.push.ensures (sound_pushed (plan_of m) (core_of m) (sound_of m) h (held_fine m c.args.a h c.get-held.ensures)) in
    assumption (f, m)
