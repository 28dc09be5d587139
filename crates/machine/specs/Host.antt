-- The host's calls DEPOSIT, LEND and RECALL. Assumes nothing.
use Rattle.std.specs.Prelude.{ℕ, ◌+◌, Bool, true, false, if◌then◌else◌, not, ◌&&◌, is_some, Ok, Err, Result, ◌==◌, nat_le, nat_lt, slice_index_or}
use Rattle.capability.specs.Holdings.{fresh, reading_of}
use Rattle.capability.specs.declared.counter.Counter.{Counter}
use Rattle.capability.specs.declared.holding.Event.TheVariants.{Took}
use Rattle.capability.specs.declared.holding.Holding.{Holding}
use Rattle.capability.specs.declared.holding.Holding.TheVariants.{Counted}
use Rattle.fault.specs.Faults.{access_fault}
use Rattle.fault.specs.Levels.{level_named}
use Rattle.fault.specs.declared.level.Level.TheVariants.{Nothing}
use Rattle.fault.specs.declared.refusal.Refusal.TheVariants.{FieldRange, WrongPageKind, CounterOut}
use Rattle.fault.specs.declared.report.Fault.{Fault}
use Rattle.machine.specs.Actions.{Action, check, go, write_byte}
use Rattle.machine.specs.Checks.{Check, access_at, addressed, and_then, demand, owned_by, span_check, unspent}
use Rattle.machine.specs.Rules.{right_of}
use Rattle.machine.specs.State.{Core, counted, place_of, told}
use Rattle.machine.specs.declared.answer.Slip.{Slip}
use Rattle.plan.specs.Chart.{has_bit}
use Rattle.plan.specs.Tables.{Planned, page_at}
use Rattle.std.specs.Option.{unwrap_or}

-- DEPOSIT: writes one byte; 5, 8 (S page), 6
abbrev pub kind_check : Planned → Core → ℕ → Check
kind_check p c a =
    if has_bit 16 (page_at p a).bits then Err (access_fault WrongPageKind (place_of c) (access_at p a Nothing)) else Ok tt

abbrev pub deposit_rule : Planned → Core → ℕ → ℕ → Action
deposit_rule p c a b = check (addressed c a) (check (kind_check p c a) (write_byte a b c))

-- RECALL: if the slip's counter is out at the slip's reading, it is put in and raised by 1
abbrev pub counter_at : Core → ℕ → Counter
counter_at c k = slice_index_or c.counters k fresh

abbrev pub due : Core → ℕ → ℕ → Bool
due c k n = nat_le 1 k && (nat_le k 16 && ((counter_at c k).out && (counter_at c k).reading == n))

abbrev pub recall_rule : Core → ℕ → ℕ → Action
recall_rule c k n = if due c k n then go (counted k (record { reading = n + 1; out = false }) c) 1 else go c 0

-- what a loan on counter k to register r needs: 3, 14, 17, 20, 19
abbrev pub lend_check : Planned → Core → ℕ → ℕ → ℕ → ℕ → ℕ → Check
lend_check p c k r base size level =
    and_then (demand c FieldRange (nat_le 1 k && (nat_le k 16 && (nat_lt r 8 && is_some (level_named level)))))
    (and_then (span_check c base size)
    (and_then (owned_by p c k 0)
    (and_then (demand c CounterOut (not (counter_at c k).out)) (unspent c k))))

-- the capability that a loan makes
abbrev pub loan : Core → ℕ → ℕ → ℕ → ℕ → Holding
loan c k base size level = Counted (right_of base size (unwrap_or (level_named level) Nothing)) k (reading_of c.counters k)

-- LEND: writes the capability, puts the counter out and answers the slip
abbrev pub lent : Core → ℕ → ℕ → ℕ → ℕ → ℕ → Core
lent c k r base size level =
    told r (Took (loan c k base size level)) (counted k (record { reading = reading_of c.counters k; out = true }) c)

abbrev pub lend_core : Check → Core → Core → Core
lend_core (Ok u) c d = d
lend_core (Err f) c d = c

abbrev pub lend_answer : Check → Core → ℕ → Result Slip Fault
lend_answer (Ok u) c k = Ok (record { counter = k; reading = reading_of c.counters k })
lend_answer (Err f) c k = Err f
