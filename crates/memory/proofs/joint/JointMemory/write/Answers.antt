use Rattle.std.proofs.Common.{◌<◌, arith}
use Rattle.std.proofs.lemmas.Bool.Decides.{nat_tests}
use Rattle.memory.proofs.Cut.{write_low, write_high}
use Rattle.memory.proofs.joint.JointMemory.write.Goals as goal

pub returns-then-address-low : goal.returns-then-address-low
returns-then-address-low g c =
    let h : c.args.address < c.size.result = grind (arith, nat_tests) in
    let w = write_low 32768 _ _ c.args.address c.args.byte _ _ (omega (arith, c.size.ensures)) (omega (arith, c.size-low.ensures)) c.write.ensures.answer c.write.ensures.after in
    record { answer = w.0; after = w.1 }

pub returns-else-address-low : goal.returns-else-address-low
returns-else-address-low g c =
    let h : c.args.address < c.size.result = grind (arith, nat_tests) in
    let f = c.write-else-address-low.ensures in
    let w = write_high 32768 _ _ c.args.address c.args.byte c.size-low.result _ _ c.size-low.ensures (omega (arith, c.size.ensures)) (omega arith) f.answer f.after in
    record { answer = w.0; after = w.1 }
