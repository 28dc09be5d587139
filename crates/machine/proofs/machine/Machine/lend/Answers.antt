use Rattle.std.proofs.Common.{ℕ, true, sym, subst, ◌≡◌, length, set, ◌∙◌}
use Rattle.std.proofs.lemmas.List.{length-set}
use Rattle.capability.specs.declared.right.Right.{Right}
use Rattle.capability.specs.declared.counter.Counter.{Counter}
use Rattle.fault.specs.Levels.{level_named}
use Rattle.machine.specs.Engines.{engine_of}
use Rattle.machine.specs.Model.{core_of, plan_of}
use Rattle.machine.specs.Sound.{Sound}
use Rattle.machine.specs.State.{EngineState, counted, run}
use Rattle.machine.proofs.Lending.{lend_passed, named, sound_lent}
use Rattle.machine.proofs.Machines.{sound_of}
use Rattle.machine.proofs.machine.Machine.lend.Goals as goal

pub invariant_of-self : goal.invariant_of-self
invariant_of-self g c =
    let m = c.args.self.now in
    let p = plan_of m in
    let d = core_of m in
    let a = c.args in
    let n = c.reading_of-reading.result in
    let x : Counter = record { reading = n; out = true } in
    let right : Right = record { base = a.base; size = a.size; level = c.in-Ok.level } in
    let h = named (level_named a.level) _ c.in-Ok.level c.in-Ok.ensures in
    let l = lend_passed p d a.counter a.register right a.level h (c.in_ok-lend_check.ensures a.level h) in
    let s = sound_lent p d a.counter a.register right n (sound_of m) l c.reading_of-reading.ensures in
    let s = subst (λ (e : EngineState). Sound p (run e (counted a.counter x d))) (sym c.tell.ensures) s in
    let f : Sound p (run (engine_of c.tell.new.self) (counted c.from.result x d)) = subst (λ (i : ℕ). Sound p (run (engine_of c.tell.new.self) (counted i x d))) (sym c.from.ensures) s in
    let counters : length (set m.counters c.from.result x) ≡ 17 = length-set m.counters c.from.result x ∙ m.counters17 in
    assumption (counters, f, m)
