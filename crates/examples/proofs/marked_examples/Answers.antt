use Rattle.std.proofs.Common.{refl}
use Rattle.examples.proofs.Worked.{marked}
use Rattle.examples.proofs.marked_examples.Goals as goal

pub returns : goal.returns
returns c = record { examples = marked; count = refl }
