use Rattle.std.proofs.Common.{rules}
use Rattle.text.specs.Model.{task_of}
use Rattle.text.specs.declared.sections.Section.TheVariants.{Counters}
use Rattle.text.proofs.Drafts.{row_is, row_taken}
use Rattle.text.proofs.job.Job.counter_row.Goals as goal

pub returns-in_err-counter : goal.returns-in_err-counter
returns-in_err-counter c = record { answer = search rules; after = search rules }

pub returns : goal.returns
returns c =
    let t = task_of c.args.self.now in
    let line = c.args.line.bytes.now in
    let row = row_is Counters t line c.in_ok-counter.field-0 c.fields.result c.in_ok-counter.was c.fields.ensures in
    row_taken Counters t line _ row c.counter.result c.map_err.result _ (search rules) c.counter.ensures.answer c.counter.ensures.after
