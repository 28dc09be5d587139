use Rattle.std.proofs.Common.{take, ap, ◌∙◌, arith}
use Rattle.memory.specs.Meaning.{join_halves}
use Rattle.text.specs.Model.{task_of}
use Rattle.text.specs.Sheets.{longest_of}
use Rattle.transcript.proofs.Rows.{flat_zeros, nibble_zeros, zeros_run}
use Rattle.transcript.proofs.program.run_job.Goals as goal

pub returns-in-Flat : goal.returns-in-Flat
returns-in-Flat c =
    let zeros = c.new.ensures ∙ c.deref_mut.ensures.value ∙ c.in_ok-area-in-Flat.ensures.items_if_clones_equal (λ y h. h) in
    let flat = ap (take 32768) zeros ∙ flat_zeros c.args.job.size (omega (arith, c.args.job.fits, ap longest_of c.in-Flat.is)) in
    zeros_run (task_of c.args.job) _ _ c.run_over.result _ _ flat c.deref.ensures.value c.run_over.ensures

pub returns : goal.returns
returns c =
    let zeros = c.new-in-Nibble.ensures ∙ c.deref_mut-in-Nibble.ensures.value ∙ c.in_ok-area-in-Nibble.ensures.items_if_clones_equal (λ y h. h) in
    let nibble = ap (join_halves 16384) zeros ∙ nibble_zeros c.args.job.size (omega (arith, c.args.job.fits, ap longest_of c.in-Nibble.is)) in
    zeros_run (task_of c.args.job) _ _ c.run_over-in-Nibble.result _ _ nibble c.deref-in-Nibble.ensures.value c.run_over-in-Nibble.ensures
