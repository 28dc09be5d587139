use Rattle.std.proofs.Common.{◌≡◌, ◌+◌, false, get_or, set, rules, sym, ap, ◌∙◌, arith, length}
use Rattle.std.proofs.lemmas.List.{length-set}
use Rattle.capability.specs.Holdings.{fresh, reading_of}
use Rattle.capability.specs.declared.counter.Counter.{Counter}
use Rattle.machine.specs.Model.{core_of, plan_of}
use Rattle.machine.specs.Sound.{Sound, settled}
use Rattle.machine.specs.State.{counted}
use Rattle.machine.proofs.Laws.{dead}
use Rattle.machine.proofs.Lending.{settled_recalled}
use Rattle.machine.proofs.Machines.{sound_of}
use Rattle.machine.proofs.Sounds.{sound_counted}
use Rattle.plan.specs.Tables.{owner_of}
use Rattle.std.proofs.lemmas.Bool.{not-false}
use Rattle.machine.proofs.machine.Machine.recall.Goals as goal

pub invariant_of-self : goal.invariant_of-self
invariant_of-self g c =
    let m = c.args.self.now in
    let p = plan_of m in
    let k = c.from-index.result in
    let old = get_or m.counters k fresh in
    let e = c.if-old-reading.false in
    let x : Counter = record { reading = c.args.slip.reading + 1; out = false } in
    let s = ap (λ n. settled (owner_of p k) (record { reading = n + 1; out = false })) (sym e) ∙ settled_recalled (owner_of p k) old (m.settled k) (not-false old.out c.if-not-old.false) in
    let f : Sound p (counted k x (core_of m)) = sound_counted p (core_of m) (sound_of m) k x (omega (arith, e)) s in
    let counters : length (set m.counters k x) ≡ 17 = length-set m.counters k x ∙ m.counters17 in
    assumption (counters, f, m)

pub returns-clause-dead : goal.returns-clause-dead
returns-clause-dead g c =
    let m = c.args.self.now in
    let x : Counter = record { reading = c.args.slip.reading + 1; out = false } in
    let past : reading_of (set m.counters c.from-index.result x) c.args.slip.counter ≡ c.args.slip.reading + 1 = search rules in
    λ e. dead _ c.args.slip.counter c.args.slip.reading (omega (arith, past))
