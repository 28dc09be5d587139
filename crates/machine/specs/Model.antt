-- The state that a machine stands for. Assumes nothing.
use Rattle.std.specs.Prelude.{ℕ, List}
use Rattle.machine.specs.Engines.{core_from}
use Rattle.machine.specs.State.{Core, State}
use Rattle.machine.specs.declared.machine.Machine.{Machine}
use Rattle.plan.specs.Model.{planned}
use Rattle.plan.specs.Tables.{Planned}

abbrev pub plan_of : {M : Type 0} → Machine M → Planned
plan_of m = planned m.plan

abbrev pub core_of : {M : Type 0} → Machine M → Core
core_of m = core_from m.engine m.slots m.counters m.panel

abbrev pub model : {M : Type 0} → (M → List ℕ) → Machine M → State
model bytes m = record { plan = plan_of m; core = core_of m; bytes = bytes m.memory }
