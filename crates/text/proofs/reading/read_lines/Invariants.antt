use Rattle.std.proofs.Common.{◌≡◌, length}
use Rattle.text.specs.Model.{state_of}
use Rattle.text.specs.Reading.{read_from}
use Rattle.text.specs.Splitting.{lines_of}
use Rattle.text.proofs.reading.read_lines.Given as goal

abbrev pub invariant-loop-part : goal.invariant-loop-part
invariant-loop-part l =
    read_from (state_of l.sheet) l.reader.line (lines_of l.reader.rest.now)
    ≡ read_from (state_of l.initial.sheet) l.initial.reader.line (lines_of l.initial.reader.rest.now)

abbrev pub decreases-loop-part : goal.decreases-loop-part
decreases-loop-part l = length l.reader.rest.now
