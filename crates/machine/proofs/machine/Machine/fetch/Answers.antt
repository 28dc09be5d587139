use Rattle.std.proofs.Common.{ap, ◌∙◌}
use Rattle.machine.specs.Model.{core_of, plan_of}
use Rattle.machine.specs.Sound.{fine}
use Rattle.machine.proofs.Fines.{fine-content}
use Rattle.machine.proofs.Machines.{refitted_took}
use Rattle.plan.specs.Tables.{slot_at}
use Rattle.machine.proofs.machine.Machine.fetch.Goals as goal

pub invariant_of-self : goal.invariant_of-self
invariant_of-self g c =
    let m = c.args.self.now in
    let f = ap (fine m.counters) c.content-content.ensures ∙ fine-content (core_of m) m.slots_fine (slot_at (plan_of m) c.args.at) in
    let f = refitted_took m c.args.a c.content-content.result _ c.tell.ensures f in
    assumption (f, m)
