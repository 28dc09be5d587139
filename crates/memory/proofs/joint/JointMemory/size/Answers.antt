use Rattle.std.proofs.Common.{arith}
use Rattle.memory.proofs.Cut.{cut_length}
use Rattle.memory.proofs.joint.JointMemory.size.Goals as goal

pub returns : goal.returns
returns g c =
    let s = c.args.self.now in
    omega (arith, cut_length 32768 (g.A.Memory.bytes s.low) (g.B.Memory.bytes s.high))
