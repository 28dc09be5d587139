-- A machine's own facts, as one, and what they show of a changed engine. Assumes nothing.
use Rattle.std.proofs.Common.{◌≡◌, ℕ, true, sym, ap, ◌∙◌, subst}
use Rattle.capability.specs.declared.holding.Event.TheVariants.{Took}
use Rattle.capability.specs.declared.holding.Holding.{Holding}
use Rattle.machine.specs.Model.{core_of, plan_of}
use Rattle.machine.specs.Sound.{Sound, fine}
use Rattle.machine.specs.State.{EngineState, holding, run, told_engine}
use Rattle.machine.specs.declared.machine.Machine.{Machine}
use Rattle.machine.proofs.Sounds.{sound_took}

module _ {M : Type 0} (m : Machine M) where
  pub sound_of : Sound (plan_of m) (core_of m)
  sound_of = (m.grounded, m.returns, m.registers_fine, m.stack_fine, m.slots_fine, m.slots_last, m.settled)

  -- after its engine alone has changed
  pub refitted : (e f : EngineState) → e ≡ f → Sound (plan_of m) (run f (core_of m)) → Sound (plan_of m) (run e (core_of m))
  refitted e f q s = subst (λ (x : EngineState). Sound (plan_of m) (run x (core_of m))) (sym q) s

  -- after a register has taken a capability
  pub refitted_took : (r : ℕ) (x : Holding) (e : EngineState) → e ≡ told_engine r (Took x) (core_of m).engine → fine m.counters x ≡ true → Sound (plan_of m) (run e (core_of m))
  refitted_took r x e q f = refitted e (told_engine r (Took x) (core_of m).engine) q (sound_took (plan_of m) (core_of m) sound_of r x f)

  -- what a register holds is fine
  pub held_fine : (r : ℕ) (x : Holding) → x ≡ holding (core_of m) r → fine m.counters x ≡ true
  held_fine r x e = ap (fine m.counters) e ∙ m.registers_fine r
