-- A decision can be read off its printed number. Assumes nothing.
use Rattle.std.proofs.Common.{◌≡◌, ℕ, Bool, true, false, not, leb, refl}
use Rattle.fault.specs.Levels.{rank_of}
use Rattle.fault.specs.declared.level.Level.{Level}
use Rattle.fault.specs.declared.level.Level.TheVariants.{Nothing, Call, Read, Write}
use Rattle.plan.specs.Chart.{access_of, answer_of, decision, entry_of, has_bit, refusal_of}
use Rattle.plan.specs.declared.chart.Question.{Question}
use Rattle.plan.specs.declared.chart.Question.TheVariants.{Load, Store, Fetch, Keep, Door, Elsewhere}

access-back : (kind bit high : Bool) → refusal_of (answer_of (access_of kind bit high)) ≡ access_of kind bit high
access-back false bit high = refl
access-back true false high = refl
access-back true true false = refl
access-back true true true = refl

entry_back : (x : Bool) (l : Level) (door : Bool) → refusal_of (answer_of (entry_of x l door)) ≡ entry_of x l door
entry_back false l door = refl
entry_back true Nothing door = refl
entry_back true Call true = refl
entry_back true Call false = refl
entry_back true Read true = refl
entry_back true Read false = refl
entry_back true Write true = refl
entry_back true Write false = refl

pub answered : (b : ℕ) (l : Level) (q : Question) → refusal_of (answer_of (decision b l q)) ≡ decision b l q
answered b l Load = access-back (not (has_bit 16 b)) (has_bit 1 b) (leb 2 (rank_of l))
answered b l Store = access-back (not (has_bit 16 b)) (has_bit 2 b) (leb 3 (rank_of l))
answered b l Fetch = access-back (has_bit 16 b) (has_bit 1 b) (leb 2 (rank_of l))
answered b l Keep = access-back (has_bit 16 b) (has_bit 2 b) (leb 3 (rank_of l))
answered b l Door = entry_back (has_bit 4 b) l true
answered b l Elsewhere = entry_back (has_bit 4 b) l false
