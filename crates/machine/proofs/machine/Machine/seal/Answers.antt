use Rattle.std.proofs.Common.{ℕ, Bool, false, sym, ap, subst, replicate}
use Rattle.capability.specs.Holdings.{empty}
use Rattle.machine.specs.Engines.{engine_of}
use Rattle.machine.specs.Sound.{Sound}
use Rattle.machine.specs.State.{EngineState, run, started}
use Rattle.machine.proofs.Sounds.{sound_start}
use Rattle.plan.specs.Chart.{has_bit}
use Rattle.plan.specs.Model.{planned}
use Rattle.machine.proofs.machine.Machine.seal.Goals as goal

pub invariant_of-result : goal.invariant_of-result
invariant_of-result g c =
    let p = planned c.into_plan.result in
    let s = subst (λ (e : EngineState). Sound p (run e started)) (sym c.new.ensures) (sound_start p (ap (has_bit 4) c.into_plan.result.first.1)) in
    let q = c.default.ensures in
    let s = subst (λ (n : ℕ). Sound p (record { engine = engine_of c.new.result; slots = replicate 64 empty; counters = replicate 17 (record { reading = n; out = false }); panel = 0 })) (sym q.0) s in
    let s = subst (λ (b : Bool). Sound p (record { engine = engine_of c.new.result; slots = replicate 64 empty; counters = replicate 17 (record { reading = c.default.result.reading; out = b }); panel = 0 })) (sym q.1) s in
    assumption s
