use Rattle.std.proofs.Common.{arith, length-take}
use Rattle.memory.proofs.flat.WholePacking.size.Goals as goal

pub returns : goal.returns
returns c = omega (arith, length-take 32768 c.args.area.now)
