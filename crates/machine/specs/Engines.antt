-- The engine and the core that the code's fields stand for. Assumes nothing.
use Rattle.std.specs.Prelude.{ℕ, List}
use Rattle.capability.specs.declared.counter.Counter.{Counter}
use Rattle.capability.specs.declared.holding.Holding.{Holding}
use Rattle.machine.specs.State.{Core, EngineState}
use Rattle.machine.specs.declared.engine.Engine.{Engine}

abbrev pub engine_of : Engine → EngineState
engine_of e = record {
  place = e.place;
  values = e.values;
  registers = e.registers.held;
  frames = e.frames.items;
  stack = e.stack.items;
  floor = e.floor;
}

abbrev pub core_from : Engine → List Holding → List Counter → ℕ → Core
core_from e slots counters panel = record { engine = engine_of e; slots = slots; counters = counters; panel = panel }
