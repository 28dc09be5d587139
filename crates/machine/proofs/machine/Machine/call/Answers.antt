use Rattle.machine.specs.Model.{core_of, plan_of}
use Rattle.machine.proofs.Machines.{refitted, sound_of}
use Rattle.machine.proofs.Passing.{entered}
use Rattle.machine.proofs.Sounds.{sound_called}
use Rattle.machine.proofs.machine.Machine.call.Goals as goal

pub invariant_of-self : goal.invariant_of-self
invariant_of-self g c =
    let m = c.args.self.now in
    let t = entered (plan_of m) (core_of m) c.args.to c.in_ok-entrance.ensures in
    let f = refitted m _ _ c.enter.ensures (sound_called (plan_of m) (core_of m) (sound_of m) c.args.to t c.requires.room) in
    assumption (f, m)
