-- The checks that instructions and host calls share. Assumes nothing.
use Rattle.std.specs.Prelude.{ℕ, ◌%◌, Bool, true, false, if◌then◌else◌, not, Some, None, Ok, Err, Option, Result, ◌==◌, nat_lt}
use Rattle.capability.specs.Holdings.{raised, reading_of, spans}
use Rattle.capability.specs.declared.holding.Holding.{Holding}
use Rattle.capability.specs.declared.holding.Holding.TheVariants.{Empty, Short, Counted}
use Rattle.fault.specs.Faults.{access_fault, bare_fault}
use Rattle.fault.specs.declared.level.Level.{Level}
use Rattle.fault.specs.declared.refusal.Refusal.{Refusal}
use Rattle.fault.specs.declared.refusal.Refusal.TheVariants.{AddressRange, Misaligned, StackFull, StackEmpty, BadSpan, ShortLife, NotOwner, NotPrivileged, CounterSpent}
use Rattle.fault.specs.declared.report.Access.{Access}
use Rattle.fault.specs.declared.report.Fault.{Fault}
use Rattle.machine.specs.State.{Core, place_of, tag_now, depth, height}
use Rattle.plan.specs.Chart.{has_bit}
use Rattle.plan.specs.Tables.{Planned, decides, entry_at, level_for, owner_of, page_at, tag_at}
use Rattle.plan.specs.declared.chart.Question.{Question}

-- a check passes or refuses
abbrev pub Check : Type 0
Check = Result Unit Fault

abbrev pub and_then : Check → Check → Check
and_then (Ok u) x = x
and_then (Err f) x = Err f

-- a test that refuses with a bare fault
abbrev pub demand : Core → Refusal → Bool → Check
demand c refusal test = if test then Ok tt else Err (bare_fault refusal (place_of c))

abbrev pub addressed : Core → ℕ → Check
addressed c a = demand c AddressRange (nat_lt a 32768)

abbrev pub aligned : Core → ℕ → ℕ → Check
aligned c n a = demand c Misaligned (a % n == 0)

-- the level that tag t's list gives at a
abbrev pub listed : Planned → ℕ → ℕ → Level
listed p t a = level_for p t (tag_at p a)

-- the greatest of the current tag's level and those of the live registers that cover all n bytes from a on
abbrev pub level_at : Planned → Core → ℕ → ℕ → Level
level_at p c a n = raised c.counters a n (listed p (tag_now p c) a) c.engine.registers

-- what a fault of an access tells
abbrev pub access_at : Planned → ℕ → Level → Access
access_at p a l = record { address = a; tag = tag_at p a; level = l }

abbrev pub judged : Core → Access → Option Refusal → Check
judged c x None = Ok tt
judged c x (Some refusal) = Err (access_fault refusal (place_of c) x)

-- the chart's answer to a question about the n bytes from a on
abbrev pub judgement : Planned → Core → Question → ℕ → ℕ → Check
judgement p c q a n = judged c (access_at p a (level_at p c a n)) (decides p q a (level_at p c a n))

-- what the n bytes from a on need, where a has to be a multiple of m: 5, 7, chart
abbrev pub access_check : Planned → Core → Question → ℕ → ℕ → ℕ → Check
access_check p c q a m n = and_then (addressed c a) (and_then (aligned c m a) (judgement p c q a n))

-- what entering at a needs: 5, 7, chart
abbrev pub entrance : Planned → Core → ℕ → Check
entrance p c a = access_check p c (entry_at p a) a 4 1

-- what a byte needs of the machine: 5, chart
abbrev pub byte_check : Planned → Core → Question → ℕ → Check
byte_check p c q a = and_then (addressed c a) (judgement p c q a 1)

-- what a slot needs: 5, 7, chart
abbrev pub slot_check : Planned → Core → Question → ℕ → Check
slot_check p c q a = access_check p c q a 32 32

abbrev pub frame_room : Core → Check
frame_room c = demand c StackFull (nat_lt (depth c) 32)

abbrev pub frame_there : Core → Check
frame_there c = demand c StackEmpty (nat_lt 0 (depth c))

abbrev pub stack_room : Core → Check
stack_room c = demand c StackFull (nat_lt (height c) 64)

abbrev pub above_floor : Core → Check
above_floor c = demand c StackEmpty (nat_lt c.engine.floor (height c))

abbrev pub span_check : Core → ℕ → ℕ → Check
span_check c base size = demand c BadSpan (spans base size)

abbrev pub owned_by : Planned → Core → ℕ → ℕ → Check
owned_by p c k owner = demand c NotOwner (owner_of p k == owner)

abbrev pub unspent : Core → ℕ → Check
unspent c k = demand c CounterSpent (nat_lt (reading_of c.counters k) 999999)

abbrev pub privileged : Planned → Core → Check
privileged p c = demand c NotPrivileged (has_bit 8 (page_at p (place_of c)).bits)

abbrev pub is_short : Holding → Bool
is_short Empty = false
is_short (Short g d) = true
is_short (Counted g k n) = false

abbrev pub lasts : Core → Holding → Check
lasts c h = demand c ShortLife (not (is_short h))
