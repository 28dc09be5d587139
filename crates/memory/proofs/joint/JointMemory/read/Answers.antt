use Rattle.std.proofs.Common.{◌<◌, ◌∙◌, arith}
use Rattle.std.proofs.lemmas.Bool.Decides.{nat_tests}
use Rattle.memory.proofs.Cut.{read_low, read_high}
use Rattle.memory.proofs.joint.JointMemory.read.Goals as goal

pub returns-then-address-low : goal.returns-then-address-low
returns-then-address-low g c =
    let h : c.args.address < c.size.result = grind (arith, nat_tests) in
    c.read.ensures ∙ read_low 32768 _ _ c.args.address (omega (arith, c.size.ensures)) (omega (arith, c.size-low.ensures))

pub returns-else-address-low : goal.returns-else-address-low
returns-else-address-low g c =
    let h : c.args.address < c.size.result = grind (arith, nat_tests) in
    c.read-else-address-low.ensures ∙ read_high 32768 _ _ c.args.address c.size-low.result c.size-low.ensures (omega (arith, c.size.ensures)) (omega arith)
