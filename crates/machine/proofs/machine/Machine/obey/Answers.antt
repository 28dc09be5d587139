use Rattle.std.proofs.Common.{rules}
use Rattle.machine.specs.Model.{model}
use Rattle.machine.specs.Runs.{obey}
use Rattle.machine.proofs.Laws.{refuses-call}
use Rattle.machine.proofs.machine.Machine.obey.Goals as goal

pub returns-in_err-d-clause-refuses : goal.returns-in_err-d-clause-refuses
returns-in_err-d-clause-refuses g c =
    refuses-call (model g.M.Memory.bytes c.args.self.now) (obey c.args.word.now) _ _ (search rules) (search rules)

pub returns-clause-refuses : goal.returns-clause-refuses
returns-clause-refuses g c =
    refuses-call (model g.M.Memory.bytes c.args.self.now) (obey c.args.word.now) _ _ (search rules) (search rules)
