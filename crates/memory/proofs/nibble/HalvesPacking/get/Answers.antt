use Rattle.std.proofs.Common.{arith}
use Rattle.memory.proofs.Halves.{halves-length, halves-get}
use Rattle.memory.proofs.nibble.HalvesPacking.get.Goals as goal

pub prove-unreachable-requires : goal.prove-unreachable-requires
prove-unreachable-requires c = omega (arith, halves-length 16384 c.args.area.now)

pub returns : goal.returns
returns c = halves-get 16384 c.args.area.now c.args.address c.requires
