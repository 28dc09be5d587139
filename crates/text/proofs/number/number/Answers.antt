use Rattle.std.proofs.Common.{None, rules}
use Rattle.text.proofs.Numbering.{writes}
use Rattle.text.proofs.number.number.Goals as goal

pub returns-in_default-clause-exact : goal.returns-in_default-clause-exact
returns-in_default-clause-exact c = writes c.args.word.now c.digits.result (search rules)

pub returns-in-empty-clause-exact : goal.returns-in-empty-clause-exact
returns-in-empty-clause-exact c = writes c.args.word.now None (search rules)

pub returns-in-empty-2-clause-exact : goal.returns-in-empty-2-clause-exact
returns-in-empty-2-clause-exact c = writes c.args.word.now None (search rules)
