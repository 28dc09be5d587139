use Rattle.std.proofs.Common.{arith}
use Rattle.memory.proofs.Halves.{halves-length, halves-put}
use Rattle.memory.proofs.nibble.HalvesPacking.put.Goals as goal

pub prove-unreachable-requires : goal.prove-unreachable-requires
prove-unreachable-requires c = omega (arith, halves-length 16384 c.args.area.now)

pub returns : goal.returns
returns c = halves-put 16384 c.args.area.now c.args.address c.args.byte (omega arith)
