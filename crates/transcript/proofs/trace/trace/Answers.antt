use Rattle.std.proofs.Common.{◌≡◌, length, arith, inl, inr}
use Rattle.machine.specs.Model.{model}
use Rattle.transcript.proofs.Rows.{rows_none}
use Rattle.transcript.proofs.trace.trace.Goals as goal

pub returns : goal.returns
returns g c =
    let left = c.loop-line.line-iterator.b.rest.now in
    let none : length left ≡ 0 = elim c.in-None.ensures.steps [ inl w ↦ omega (arith, w.1.0, c.loop-line.invariant.1) | inr w ↦ w.1.0 ] in
    rows_none (model g.M.Memory.bytes c.loop-line.machine) c.loop-line.line-iterator.a.start left _ _ none c.loop-line.invariant.0
