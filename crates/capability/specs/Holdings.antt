-- What a capability grants, how long it lives, and what a register holds next. Assumes nothing.
use Rattle.std.specs.Prelude.{ℕ, ◌+◌, Bool, false, if◌then◌else◌, not, ◌&&◌, List, fold, Some, None, Option, ◌==◌, nat_le, nat_lt, slice_index_or}
use Rattle.fault.specs.Levels.{higher_of}
use Rattle.fault.specs.declared.level.Level.{Level}
use Rattle.fault.specs.declared.level.Level.TheVariants.{Nothing}
use Rattle.capability.specs.declared.counter.Counter.{Counter}
use Rattle.capability.specs.declared.holding.Event.{Event}
use Rattle.capability.specs.declared.holding.Event.TheVariants.{Returned, Dropped, Took}
use Rattle.capability.specs.declared.holding.Holding.{Holding}
use Rattle.capability.specs.declared.holding.Holding.TheVariants.{Empty, Short, Counted}
use Rattle.capability.specs.declared.right.Right.{Right}
use Rattle.capability.specs.declared.right.Span.{Span}

abbrev pub empty : Holding
empty = Empty

-- no capability has size 0 or an end above 32,768
abbrev pub spans : ℕ → ℕ → Bool
spans base size = not (size == 0) && nat_le (base + size) 32768

-- the bytes that a right gives its level over
abbrev pub span_of : Right → Span
span_of g = record { base = g.base; size = g.size }

-- all n bytes from a on lie within
abbrev pub covers : Right → ℕ → ℕ → Bool
covers g a n = nat_le g.base a && nat_le (a + n) (g.base + g.size)

-- a counter at the start: it shows 0 and is in
abbrev pub fresh : Counter
fresh = record { reading = 0; out = false }

abbrev pub reading_of : List Counter → ℕ → ℕ
reading_of ks k = (slice_index_or ks k fresh).reading

-- what is granted now: a short one is live while held, a counted one while its counter shows its reading
abbrev pub granted : List Counter → Holding → Option Right
granted ks Empty = None
granted ks (Short g d) = Some g
granted ks (Counted g k n) = if reading_of ks k == n then Some g else None

abbrev pub given_by : Option Right → ℕ → ℕ → Level
given_by None a n = Nothing
given_by (Some g) a n = if covers g a n then g.level else Nothing

-- the level that a holding gives over all n bytes from a on
abbrev pub level_over : List Counter → Holding → ℕ → ℕ → Level
level_over ks h a n = given_by (granted ks h) a n

-- a level, raised to the greatest that one of the holdings gives
abbrev pub raised : List Counter → ℕ → ℕ → Level → List Holding → Level
raised ks a n l hs = fold (λ l h. higher_of l (level_over ks h a n)) l hs

-- what is held and what happens decide together what is held next
abbrev pub after : Holding → Event → Holding
after Empty (Returned to) = Empty
after (Short g d) (Returned to) = if nat_lt to d then Empty else Short g d
after (Counted g k n) (Returned to) = Counted g k n
after h Dropped = Empty
after h (Took x) = x
