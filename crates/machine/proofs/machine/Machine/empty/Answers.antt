use Rattle.machine.specs.Model.{core_of, plan_of}
use Rattle.machine.proofs.Machines.{refitted, sound_of}
use Rattle.machine.proofs.Sounds.{sound_dropped}
use Rattle.machine.proofs.machine.Machine.empty.Goals as goal

pub invariant_of-self : goal.invariant_of-self
invariant_of-self g c =
    let m = c.args.self.now in
    let f = refitted m _ _ c.tell.ensures (sound_dropped (plan_of m) (core_of m) (sound_of m) c.args.a) in
    assumption (f, m)
