use Rattle.std.proofs.Common.{sym, arith, length-take, get_or-take}
use Rattle.memory.proofs.flat.WholePacking.get.Goals as goal

pub bounds-area-address : goal.bounds-area-address
bounds-area-address c = omega (arith, length-take 32768 c.args.area.now)

pub returns : goal.returns
returns c = sym (get_or-take 32768 c.args.area.now c.args.address 0 (omega (arith, length-take 32768 c.args.area.now)))
