use Rattle.std.proofs.Common.{sym, not, ap, ◌∙◌, ◌≡◌, length, set}
use Rattle.std.proofs.lemmas.List.{length-set}
use Rattle.fault.specs.declared.refusal.Refusal.TheVariants.{ShortLife}
use Rattle.machine.specs.Checks.{is_short}
use Rattle.machine.specs.Model.{core_of, plan_of}
use Rattle.machine.specs.Sound.{Sound}
use Rattle.machine.specs.State.{slotted}
use Rattle.machine.proofs.Machines.{held_fine, sound_of}
use Rattle.machine.proofs.Passing.{demand_passed}
use Rattle.machine.proofs.Sounds.{sound_slotted}
use Rattle.std.proofs.lemmas.Bool.{not-true}
use Rattle.machine.proofs.machine.Machine.keep.Goals as goal

pub invariant_of-self : goal.invariant_of-self
invariant_of-self g c =
    let m = c.args.self.now in
    let p = plan_of m in
    let d = core_of m in
    let h = c.get-held.result in
    let lasting = not-true (is_short h) (ap not (sym c.is_short.ensures) ∙ demand_passed d ShortLife _ c.in_ok-demand.ensures) in
    let f : Sound p (slotted c.in-Some.slot h d) = sound_slotted p d (sound_of m) c.in-Some.slot h (held_fine m c.args.a h c.get-held.ensures) lasting in
    let slots : length (set m.slots c.in-Some.slot h) ≡ 64 = length-set m.slots c.in-Some.slot h ∙ m.slots64 in
    assumption (slots, f, m)
