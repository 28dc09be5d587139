-- How a text is read: line by line, each judged at its stage. Assumes nothing.
use Rattle.std.specs.Prelude.{ℕ, ◌+◌, Bool, true, false, if◌then◌else◌, ◌&&◌, List, [], ◌∷◌, length, Ok, Err, Result, ◌==◌, nat_le}
use Rattle.fault.specs.declared.refusal.Refusal.{Refusal}
use Rattle.fault.specs.declared.refusal.Refusal.TheVariants.{BadText}
use Rattle.std.specs.Str.{bytes_eq}
use Rattle.text.specs.Sections.{blank_closes, names_of, next_of}
use Rattle.text.specs.Sheets.{Task, empty, memory_of, row_of}
use Rattle.text.specs.Splitting.{Line, closed, unclosed, lines_of}
use Rattle.text.specs.declared.job.ReadError.{ReadError}
use Rattle.text.specs.declared.job.ReadError.TheVariants.{Memory as Lack, Refused as Told}
use Rattle.text.specs.declared.job.Refused.{Refused}
use Rattle.text.specs.declared.sections.Section.{Section}
use Rattle.text.specs.declared.sections.Section.TheVariants.{Memory, Pages, Entries, Counters, Trace}
use Rattle.text.specs.declared.sections.Stage.{Stage}
use Rattle.text.specs.declared.sections.Stage.TheVariants.{Names, Rows, Closed}

-- what has been read, and what the next line must be
pub record State : Type 0 where
  pub stage : Stage
  pub task : Task

abbrev pub at : Stage → Task → State
at stage t = record { stage = stage; task = t }

abbrev pub start : State
start = at (Names Memory) empty

abbrev pub demand_line : Bool → State → Result State Refusal
demand_line test s = if test then Ok s else Err BadText

abbrev pub is_blank : List ℕ → Bool
is_blank line = length line == 0

abbrev pub moved : Stage → Result Task Refusal → Result State Refusal
moved stage (Ok t) = Ok (at stage t)
moved stage (Err refusal) = Err refusal

-- a row: the memory has just one
abbrev pub row_at : Section → Task → List ℕ → Result State Refusal
row_at Memory t line = moved (Closed Memory) (memory_of t line)
row_at Pages t line = moved (Rows Pages) (row_of Pages t line)
row_at Entries t line = moved (Rows Entries) (row_of Entries t line)
row_at Counters t line = moved (Rows Counters) (row_of Counters t line)
row_at Trace t line = moved (Rows Trace) (row_of Trace t line)

abbrev pub step_at : Stage → Task → List ℕ → Result State Refusal
step_at (Names s) t line = demand_line (bytes_eq line (names_of s)) (at (Rows s) t)
step_at (Rows s) t line = if blank_closes s && is_blank line then Ok (at (Names (next_of s)) t) else row_at s t line
step_at (Closed s) t line = demand_line (is_blank line) (at (Names (next_of s)) t)

-- one line, without its line feed
abbrev pub step_line : State → List ℕ → Result State Refusal
step_line s line = step_at s.stage s.task line

abbrev pub refused_at : Refusal → ℕ → Refused
refused_at refusal line = record { refusal = refusal; line = line }

-- what stops a line stops the text there
abbrev pub told_at : ℕ → ReadError Refusal → ReadError Refused
told_at line (Told refusal) = Told (refused_at refusal line)
told_at line (Lack error) = Lack error

-- the text may end among the rows of the trace alone
abbrev pub may_end : Stage → Bool
may_end (Names s) = false
may_end (Rows Memory) = false
may_end (Rows Pages) = false
may_end (Rows Entries) = false
may_end (Rows Counters) = false
may_end (Rows Trace) = true
may_end (Closed s) = false

abbrev pub ending : State → ℕ → Result Task Refused
ending s n = if may_end s.stage then Ok s.task else Err (refused_at BadText n)

abbrev pub onward : ℕ → Result State Refusal → (State → Result Task Refused) → Result Task Refused
onward n (Ok s) rest = rest s
onward n (Err refusal) rest = Err (refused_at refusal n)

-- the lines from line n on; the first that is wrong decides
abbrev pub read_from : State → ℕ → List Line → Result Task Refused
read_from s n [] = ending s n
read_from s n (closed line ∷ ls) = onward n (step_line s line) (λ t. read_from t (n + 1) ls)
read_from s n (unclosed line ∷ ls) = Err (refused_at BadText n)

-- a text of any length
abbrev pub judge : List ℕ → Result Task Refused
judge text = read_from start 1 (lines_of text)

abbrev pub read_of : List ℕ → Result Task Refused
read_of text = if nat_le (length text) 32768 then judge text else Err (refused_at BadText 0)
