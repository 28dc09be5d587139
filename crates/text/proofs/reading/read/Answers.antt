use Rattle.std.proofs.Common.{rules}
use Rattle.text.proofs.Exactly.{exact}
use Rattle.text.proofs.Once.{once}
use Rattle.text.proofs.Refusing.{earliest, long}
use Rattle.text.proofs.reading.read.Goals as goal

pub returns-then-text-gt-LONGEST : goal.returns-then-text-gt-LONGEST
returns-then-text-gt-LONGEST c = record { value = search rules; exact = exact; once = once; earliest = earliest; long = long }

pub returns-in_err-read_lines : goal.returns-in_err-read_lines
returns-in_err-read_lines c = record { value = search rules; exact = exact; once = once; earliest = earliest; long = long }

pub returns : goal.returns
returns c = record { value = search rules; exact = exact; once = once; earliest = earliest; long = long }
