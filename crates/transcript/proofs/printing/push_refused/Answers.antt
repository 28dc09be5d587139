use Rattle.std.proofs.Common.{sym}
use Rattle.transcript.proofs.printing.push_refused.Goals as goal

pub returns : goal.returns
returns c = rw (sym c.from-number.ensures) c.writeln.ensures.bytes
