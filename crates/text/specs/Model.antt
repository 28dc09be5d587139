-- What the code's job stands for. Assumes nothing.
use Rattle.plan.specs.Model.{drafted}
use Rattle.std.specs.Prelude.{⊤, Ok, Err, vec_items, Result}
use Rattle.text.specs.Reading.{State, at}
use Rattle.text.specs.Sheets.{Task}
use Rattle.text.specs.declared.job.Job.{Job}
use Rattle.text.specs.declared.job.ReadError.{ReadError}
use Rattle.text.specs.declared.job.ReadError.TheVariants.{Memory, Refused as Told}
use Rattle.text.specs.declared.job.Refused.{Refused}
use Rattle.text.specs.declared.sheet.Sheet.{Sheet}

abbrev pub task_of : Job → Task
task_of j = record { make = j.make; size = j.size; draft = drafted j.draft; records = vec_items j.records }

abbrev pub state_of : Sheet → State
state_of s = at s.stage (task_of s.job)

-- what is known of the reading when all lines are read
abbrev pub finished : Result Unit Refused → State → Result Task Refused
finished (Ok x) s = Ok s.task
finished (Err refused) s = Err refused

-- the job that a text was read into, or its refusal
abbrev pub outcome : Result Job Refused → Result Task Refused
outcome (Ok job) = Ok (task_of job)
outcome (Err refused) = Err refused

-- P of the answer, unless memory ran out
abbrev pub IfAnswered : {X R : Type 0} → Result X (ReadError R) → (Result X R → Type 0) → Type 0
IfAnswered (Ok x) P = P (Ok x)
IfAnswered (Err (Told refusal)) P = P (Err refusal)
IfAnswered (Err (Memory error)) P = ⊤
