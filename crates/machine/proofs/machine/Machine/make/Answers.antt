use Rattle.std.proofs.Common.{ap, ◌∙◌}
use Rattle.capability.specs.Holdings.{spans}
use Rattle.fault.specs.declared.refusal.Refusal.TheVariants.{BadSpan}
use Rattle.machine.specs.Checks.{and_then, span_check}
use Rattle.machine.specs.Model.{core_of, plan_of}
use Rattle.machine.specs.Rules.{life_check, list_check}
use Rattle.machine.specs.Sound.{fine}
use Rattle.machine.proofs.Fines.{fine-made, formed-right}
use Rattle.machine.proofs.Machines.{refitted_took}
use Rattle.machine.proofs.Passing.{both_passed, demand_passed}
use Rattle.machine.proofs.machine.Machine.make.Goals as goal

pub invariant_of-self : goal.invariant_of-self
invariant_of-self g c =
    let m = c.args.self.now in
    let p = plan_of m in
    let d = core_of m in
    let x = c.args.right in
    let life = c.args.life in
    let q = both_passed (span_check d x.base x.size) (and_then (life_check p d life) (list_check p d x)) c.in_ok-make_check.ensures in
    let r = both_passed (life_check p d life) (list_check p d x) q.1 in
    let h = formed-right x (demand_passed d BadSpan (spans x.base x.size) q.0) c.requires.granting in
    let f = ap (fine m.counters) c.made-made.ensures ∙ fine-made p d x life h c.requires.lives r.0 in
    let f = refitted_took m c.args.a c.made-made.result _ c.tell.ensures f in
    assumption (f, m)
