use Rattle.std.proofs.Common.{refl, rules}
use Rattle.text.specs.declared.job.ReadError.TheVariants.{Refused as Told}
use Rattle.text.specs.declared.sections.Section.TheVariants.{Memory, Counters, Trace}
use Rattle.text.specs.declared.sections.Stage.TheVariants.{Closed, Rows}
use Rattle.text.proofs.Staying.{refused-row}
use Rattle.text.proofs.sheet.Sheet.row.Goals as goal

pub returns-in_err-memory_row-in-Memory : goal.returns-in_err-memory_row-in-Memory
returns-in_err-memory_row-in-Memory c =
    let err = c.in_err-memory_row-in-Memory in
    refused-row c.args.section Memory c.in-Memory.is _ (Closed Memory) _ _ _ _ (Told err.field-0.0) c.from_residual.result refl (search rules) err.ensures

pub returns-in_err-counter_row-in-Counters : goal.returns-in_err-counter_row-in-Counters
returns-in_err-counter_row-in-Counters c =
    let err = c.in_err-counter_row-in-Counters in
    refused-row c.args.section Counters c.in-Counters.is _ (Rows Counters) _ _ _ _ (Told err.field-0.0) c.from_residual-in_err-counter_row-in-Counters.result refl (search rules) err.ensures

pub returns-in_err-record_row-in-Trace : goal.returns-in_err-record_row-in-Trace
returns-in_err-record_row-in-Trace c =
    let err = c.in_err-record_row-in-Trace in
    refused-row c.args.section Trace c.in-Trace.is _ (Rows Trace) _ _ _ _ err.field-0.0 c.from_residual-in_err-record_row-in-Trace.result refl (search rules) err.ensures
