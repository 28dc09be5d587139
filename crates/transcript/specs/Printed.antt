-- What is printed of a text. Assumes nothing.
use Rattle.std.specs.Prelude.{ℕ, ◌+◌, List, [], ◌∷◌, ◌++◌, replicate, Ok, Err, Result}
use Rattle.fault.specs.Refusals.{number_of}
use Rattle.fault.specs.declared.report.Fault.{Fault}
use Rattle.instruction.specs.Decoding.{encoded}
use Rattle.machine.specs.Runs.{answer, obey, step}
use Rattle.machine.specs.State.{State, started}
use Rattle.machine.specs.declared.answer.Done.{Done}
use Rattle.transcript.specs.Printing.{printed_names, printed_refusal, printed_row}
use Rattle.text.specs.Reading.{read_of}
use Rattle.text.specs.Sheets.{Task}
use Rattle.instruction.specs.declared.record.Record.{Record}
use Rattle.text.specs.declared.job.Refused.{Refused}

-- an accepted record prints 0, its place and its value; a refused one its number, the old place and 0
abbrev pub answer_row : ℕ → Result Done Fault → List ℕ
answer_row n (Ok d) = printed_row n 0 d.place d.value
answer_row n (Err f) = printed_row n (number_of f.refusal) f.place 0

-- a row for each record, obeyed on the state that the last one left
abbrev pub rows_from : State → ℕ → List Record → List ℕ
rows_from s n [] = []
rows_from s n (r ∷ rs) = answer_row n (answer s (obey (encoded r))) ++ rows_from (step s (obey (encoded r))) (n + 1) rs

-- the machine of a task: its plan, sealed with a memory of zeros
abbrev pub start_of : Task → State
start_of t = record { plan = t.draft.plan; core = started; bytes = replicate t.size 0 }

abbrev pub printed_of : Result Task Refused → List ℕ
printed_of (Ok t) = printed_names ++ rows_from (start_of t) 1 t.records
printed_of (Err r) = printed_refusal (number_of r.refusal) r.line

abbrev pub transcript : List ℕ → List ℕ
transcript text = printed_of (read_of text)
