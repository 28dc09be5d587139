use Rattle.std.proofs.Common.{rules}
use Rattle.text.specs.Model.{task_of}
use Rattle.text.specs.declared.sections.Section.TheVariants.{Pages}
use Rattle.text.proofs.Drafts.{row_is, row_taken}
use Rattle.text.proofs.job.Job.page_row.Goals as goal

pub returns-in_err-page : goal.returns-in_err-page
returns-in_err-page c = record { answer = search rules; after = search rules }

pub returns : goal.returns
returns c =
    let t = task_of c.args.self.now in
    let line = c.args.line.bytes.now in
    let row = row_is Pages t line c.in_ok-page.field-0 c.fields.result c.in_ok-page.was c.fields.ensures in
    row_taken Pages t line _ row c.page.result c.map_err.result _ (search rules) c.page.ensures.answer c.page.ensures.after
