use Rattle.std.proofs.Common.{ap, ◌∙◌}
use Rattle.plan.specs.Chart.{refusal_of}
use Rattle.plan.proofs.Answered.{answered}
use Rattle.plan.proofs.chart.decide.Goals as goal

pub returns : goal.returns
returns c =
    c.refusal.ensures ∙ ap refusal_of c.printed.ensures ∙ answered c.args.bits c.args.level c.args.question
