use Rattle.machine.specs.Model.{core_of, plan_of}
use Rattle.machine.proofs.Machines.{refitted, sound_of}
use Rattle.machine.proofs.Sounds.{sound_returned}
use Rattle.std.proofs.Common.{rules}
use Rattle.machine.proofs.machine.Machine.leave.Goals as goal

pub invariant_of-self : goal.invariant_of-self
invariant_of-self g c =
    let m = c.args.self.now in
    let f = refitted m _ _ c.leave.ensures (sound_returned (plan_of m) (core_of m) (sound_of m) (search rules)) in
    assumption (f, m)
