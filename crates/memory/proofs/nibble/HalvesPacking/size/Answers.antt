use Rattle.std.proofs.Common.{arith}
use Rattle.memory.proofs.Halves.{halves-length}
use Rattle.memory.proofs.nibble.HalvesPacking.size.Goals as goal

pub returns : goal.returns
returns c = omega (arith, halves-length 16384 c.args.area.now)
