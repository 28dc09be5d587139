use Rattle.plan.proofs.Printed.{rule}
use Rattle.plan.proofs.chart.printed.Goals as goal

pub returns : goal.returns
returns c = let r = rule c.args.bits c.args.level c.args.question c.requires in cc
