use Rattle.std.proofs.Common.{◌-◌, take, ap, ◌∙◌}
use Rattle.capability.specs.declared.holding.Event.TheVariants.{Took}
use Rattle.machine.specs.Model.{core_of, plan_of}
use Rattle.machine.specs.Sound.{fine}
use Rattle.machine.specs.State.{height, stacked, told_engine}
use Rattle.machine.proofs.Machines.{refitted, sound_of}
use Rattle.machine.proofs.Sounds.{sound_popped, sound_took}
use Rattle.machine.proofs.machine.Machine.pop.Goals as goal

pub invariant_of-self : goal.invariant_of-self
invariant_of-self g c =
    let m = c.args.self.now in
    let d = core_of m in
    let n = height d - 1 in
    let x = c.pop-top.result in
    let f = ap (fine m.counters) c.pop-top.ensures.top ∙ m.stack_fine n in
    let e = c.tell.ensures ∙ ap (told_engine c.args.a (Took x)) c.pop-top.ensures.rest in
    let f = refitted m _ _ e (sound_took (plan_of m) (stacked (take n d.engine.stack) d) (sound_popped (plan_of m) d (sound_of m) n) c.args.a x f) in
    assumption (f, m)
