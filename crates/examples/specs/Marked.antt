-- Ten examples that hold of the rules. Assumes nothing.
use Rattle.std.specs.Prelude.{◌≡◌, ℕ, true, Err, slice_index_or}
use Rattle.capability.specs.Holdings.{fresh, reading_of, spans}
use Rattle.fault.specs.Faults.{bare_fault}
use Rattle.fault.specs.Refusals.{number_of}
use Rattle.fault.specs.declared.refusal.Refusal.TheVariants.{AddressRange, BadSpan, CounterSpent}
use Rattle.machine.specs.Actions.{go, refuse}
use Rattle.machine.specs.Checks.{span_check}
use Rattle.machine.specs.Rules.{branch_rule, revoke_rule}
use Rattle.machine.specs.State.{Core, counted, moved, on, place_of, tag_now, value}
use Rattle.plan.specs.Chart.{charted}
use Rattle.plan.specs.Tables.{Planned, StartsFirst, owner_of}

pub record Marked : Type 0 where
  pub chart78 : charted 78 ≡ 10
  pub chart84 : charted 84 ≡ 0
  pub chart474 : charted 474 ≡ 8
  pub chart131 : charted 131 ≡ 11
  -- base 32,767 with size 1 is a span, size 2 gives 14
  pub last_byte : spans 32767 1 ≡ true
  pub past_end : (c : Core) → (span_check c 32767 2 ≡ Err (bare_fault BadSpan (place_of c))) × (number_of BadSpan ≡ 14)
  -- from place 8 a taken BRANCH with d = -2 lands on 0, with d = -3 it gives 5
  pub back_to_zero : (p : Planned) (c : Core) (a : ℕ) → StartsFirst p.pages → place_of c ≡ 8 → value c a ≡ 0 → branch_rule p c a 4294967294 ≡ go (moved 0 c) 0
  pub below_zero : (p : Planned) (c : Core) (a : ℕ) → place_of c ≡ 8 → value c a ≡ 0 → (branch_rule p c a 4294967293 ≡ refuse (bare_fault AddressRange 8)) × (number_of AddressRange ≡ 5)
  -- REVOKE at 999,998 answers 999,999, and the next gives 19
  pub last_revoke : (p : Planned) (c : Core) (k : ℕ) → owner_of p k ≡ tag_now p c → reading_of c.counters k ≡ 999998 → revoke_rule p c k ≡ go (counted k (record { reading = 999999; out = (slice_index_or c.counters k fresh).out }) (on c)) 999999
  pub no_more : (p : Planned) (c : Core) (k : ℕ) → owner_of p k ≡ tag_now p c → reading_of c.counters k ≡ 999999 → (revoke_rule p c k ≡ refuse (bare_fault CounterSpent (place_of c))) × (number_of CounterSpent ≡ 19)
