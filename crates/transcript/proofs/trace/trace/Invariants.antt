use Rattle.std.proofs.Common.{◌≡◌, ◌+◌, ◌++◌, length, string_bytes}
use Rattle.machine.specs.Model.{model}
use Rattle.transcript.specs.Printed.{rows_from}
use Rattle.transcript.proofs.trace.trace.Given as goal

abbrev pub invariant-loop-line : goal.invariant-loop-line
invariant-loop-line g l =
    (string_bytes l.out ++ rows_from (model g.M.Memory.bytes l.machine) l.line-iterator.a.start l.line-iterator.b.rest.now
    ≡ string_bytes l.initial.out ++ rows_from (model g.M.Memory.bytes l.initial.machine) 1 l.records)
    × (l.line-iterator.a.start + length l.line-iterator.b.rest.now ≡ 1 + length l.records)
