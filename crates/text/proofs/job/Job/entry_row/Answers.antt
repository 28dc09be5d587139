use Rattle.std.proofs.Common.{rules}
use Rattle.text.specs.Model.{task_of}
use Rattle.text.specs.declared.sections.Section.TheVariants.{Entries}
use Rattle.text.proofs.Drafts.{row_is, row_taken}
use Rattle.text.proofs.job.Job.entry_row.Goals as goal

pub returns-in_err-tag : goal.returns-in_err-tag
returns-in_err-tag c = record { answer = search rules; after = search rules }

pub returns : goal.returns
returns c =
    let t = task_of c.args.self.now in
    let line = c.args.line.bytes.now in
    let row = row_is Entries t line c.in_ok-tag.field-0 c.fields.result c.in_ok-tag.was c.fields.ensures in
    row_taken Entries t line _ row c.entry.result c.map_err.result _ (search rules) c.entry.ensures.answer c.entry.ensures.after
