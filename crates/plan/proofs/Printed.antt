-- The rule of the printed chart at each of its 768 entries. Assumes nothing.
use Rattle.std.proofs.Common.{◌≡◌, ℕ, ◌+◌, ◌*◌, ◌<◌, get_or, refl}
use Rattle.plan.specs.Chart.{answer_of, decision, question_number}
use Rattle.plan.proofs.Whole.{reads}
use Rattle.plan.specs.declared.chart.TheConstants.{CHART}
use Rattle.fault.specs.Levels.{rank_of}
use Rattle.fault.specs.declared.level.Level.{Level}
use Rattle.plan.specs.declared.chart.Question.{Question}

pub rule : (b : ℕ) (l : Level) (q : Question) → b < 32 → get_or CHART (24 * b + 6 * rank_of l + question_number q) 0 ≡ answer_of (decision b l q)
rule = reads CHART tt refl
