use Rattle.std.proofs.Common.{arith, length-take}
use Rattle.std.proofs.Math.Seq.{take-set-lt}
use Rattle.memory.proofs.flat.WholePacking.put.Goals as goal

pub bounds-area-address : goal.bounds-area-address
bounds-area-address c = omega (arith, length-take 32768 c.args.area.now)

pub returns : goal.returns
returns c =
    take-set-lt 32768 c.args.area.now c.args.address c.args.byte (omega (arith, length-take 32768 c.args.area.now))
