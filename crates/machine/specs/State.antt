-- The state of a machine: plain lists and numbers. Assumes nothing.
use Rattle.std.specs.Prelude.{ℕ, ◌+◌, List, [], length, replicate, slice_index, slice_index_or, slice_set}
use Rattle.capability.specs.Holdings.{after, empty, fresh}
use Rattle.capability.specs.declared.counter.Counter.{Counter}
use Rattle.capability.specs.declared.holding.Event.{Event}
use Rattle.capability.specs.declared.holding.Holding.{Holding}
use Rattle.plan.specs.Tables.{Planned, tag_at}
use Rattle.machine.specs.declared.frame.Frame.{Frame}

-- what runs: the program counter, the registers, the frames and the capability stack
pub record EngineState : Type 0 where
  pub place : ℕ
  pub values : List ℕ
  pub registers : List Holding
  pub frames : List Frame
  pub stack : List Holding
  pub floor : ℕ

-- all but the plan and the bytes
pub record Core : Type 0 where
  pub engine : EngineState
  pub slots : List Holding
  pub counters : List Counter
  pub panel : ℕ

pub record State : Type 0 where
  pub plan : Planned
  pub core : Core
  pub bytes : List ℕ

-- the start: everything is 0, in or empty
abbrev pub started : Core
started = record {
  engine = record { place = 0; values = replicate 8 0; registers = replicate 8 empty; frames = []; stack = []; floor = 0 };
  slots = replicate 64 empty;
  counters = replicate 17 fresh;
  panel = 0;
}

-- the parts
abbrev pub place_of : Core → ℕ
place_of c = c.engine.place

abbrev pub tag_now : Planned → Core → ℕ
tag_now p c = tag_at p (place_of c)

abbrev pub value : Core → ℕ → ℕ
value c r = slice_index c.engine.values r

abbrev pub holding : Core → ℕ → Holding
holding c r = slice_index_or c.engine.registers r empty

abbrev pub depth : Core → ℕ
depth c = length c.engine.frames

abbrev pub height : Core → ℕ
height c = length c.engine.stack

abbrev pub no_frame : Frame
no_frame = record { place = 0; floor = 0 }

-- the engine with one part changed
abbrev pub moved_engine : ℕ → EngineState → EngineState
moved_engine x e = record { place = x; values = e.values; registers = e.registers; frames = e.frames; stack = e.stack; floor = e.floor }

abbrev pub valued_engine : ℕ → ℕ → EngineState → EngineState
valued_engine r x e = record { place = e.place; values = slice_set e.values r x; registers = e.registers; frames = e.frames; stack = e.stack; floor = e.floor }

abbrev pub told_engine : ℕ → Event → EngineState → EngineState
told_engine r x e = record {
  place = e.place;
  values = e.values;
  registers = slice_set e.registers r (after (slice_index_or e.registers r empty) x);
  frames = e.frames;
  stack = e.stack;
  floor = e.floor;
}

abbrev pub stacked_engine : List Holding → EngineState → EngineState
stacked_engine x e = record { place = e.place; values = e.values; registers = e.registers; frames = e.frames; stack = x; floor = e.floor }

-- the core with one part changed
abbrev pub run : EngineState → Core → Core
run x c = record { engine = x; slots = c.slots; counters = c.counters; panel = c.panel }

abbrev pub moved : ℕ → Core → Core
moved x c = run (moved_engine x c.engine) c

abbrev pub valued : ℕ → ℕ → Core → Core
valued r x c = run (valued_engine r x c.engine) c

abbrev pub told : ℕ → Event → Core → Core
told r x c = run (told_engine r x c.engine) c

abbrev pub stacked : List Holding → Core → Core
stacked x c = run (stacked_engine x c.engine) c

abbrev pub slotted : ℕ → Holding → Core → Core
slotted i x c = record { engine = c.engine; slots = slice_set c.slots i x; counters = c.counters; panel = c.panel }

abbrev pub counted : ℕ → Counter → Core → Core
counted k x c = record { engine = c.engine; slots = c.slots; counters = slice_set c.counters k x; panel = c.panel }

abbrev pub shown : ℕ → Core → Core
shown x c = record { engine = c.engine; slots = c.slots; counters = c.counters; panel = x }

-- the next place
abbrev pub on : Core → Core
on c = moved (place_of c + 4) c
