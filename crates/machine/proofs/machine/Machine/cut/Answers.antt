use Rattle.std.proofs.Common.{ap, ◌∙◌}
use Rattle.capability.specs.Holdings.{spans}
use Rattle.fault.specs.declared.refusal.Refusal.TheVariants.{BadSpan}
use Rattle.machine.specs.Model.{core_of}
use Rattle.machine.specs.Sound.{fine}
use Rattle.machine.proofs.Fines.{fine-cut, formed-right}
use Rattle.machine.proofs.Machines.{held_fine, refitted_took}
use Rattle.machine.proofs.Passing.{demand_passed}
use Rattle.machine.proofs.machine.Machine.cut.Goals as goal

pub invariant_of-self : goal.invariant_of-self
invariant_of-self g c =
    let m = c.args.self.now in
    let x = c.args.right in
    let held = c.get-held.result in
    let h = formed-right x (demand_passed (core_of m) BadSpan (spans x.base x.size) c.in_ok-span_check.ensures) c.requires.granting in
    let f = ap (fine m.counters) c.cut.ensures ∙ fine-cut m.counters x held h (held_fine m c.args.source held c.get-held.ensures) in
    let f = refitted_took m c.args.a c.cut.result _ c.tell.ensures f in
    assumption (f, m)
