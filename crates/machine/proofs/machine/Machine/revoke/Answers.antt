use Rattle.std.proofs.Common.{◌/◌, ◌<◌, get_or, ap, arith, ◌≡◌, length, set, ◌∙◌}
use Rattle.std.proofs.lemmas.List.{length-set}
use Rattle.capability.specs.Holdings.{fresh, reading_of}
use Rattle.fault.specs.declared.refusal.Refusal.TheVariants.{CounterSpent, NotOwner}
use Rattle.machine.specs.Model.{core_of, plan_of}
use Rattle.machine.specs.Sound.{Sound}
use Rattle.machine.specs.Rules.{raised_counter}
use Rattle.machine.specs.State.{counted}
use Rattle.machine.proofs.Fines.{settled-raised}
use Rattle.machine.proofs.Machines.{sound_of}
use Rattle.machine.proofs.Passing.{demand_passed}
use Rattle.machine.proofs.Sounds.{sound_counted}
use Rattle.plan.specs.Tables.{owner_of}
use Rattle.std.proofs.lemmas.Bool.{eqb-true, ltb-true}
use Rattle.machine.proofs.machine.Machine.revoke.Goals as goal

pub invariant_of-self : goal.invariant_of-self
invariant_of-self g c =
    let m = c.args.self.now in
    let p = plan_of m in
    let d = core_of m in
    let k = c.from-index.result in
    let old = get_or m.counters k fresh in
    let same = eqb-true (owner_of p c.args.counter) c.tag.result (demand_passed d NotOwner _ c.in_ok-owned_by.ensures) in
    let tagged = (m.plan.proper (m.engine.place / 256)).2 m.grounded.2 in
    let owned : 0 < owner_of p k = omega (arith, ap (owner_of p) c.from-index.ensures, same, c.tag.ensures, tagged) in
    let low = ltb-true (reading_of m.counters c.args.counter) 999999 (demand_passed d CounterSpent _ c.in_ok-unspent.ensures) in
    let low : old.reading < 999999 = omega (arith, ap (reading_of m.counters) c.from-index.ensures, low) in
    let x = raised_counter old in
    let f : Sound p (counted k x d) = sound_counted p d (sound_of m) k x (omega arith) (settled-raised (owner_of p k) old owned (m.settled k) low) in
    let counters : length (set m.counters k x) ≡ 17 = length-set m.counters k x ∙ m.counters17 in
    assumption (counters, f, m)
