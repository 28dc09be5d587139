-- What a check that passed shows. Assumes nothing.
use Rattle.std.proofs.Common.{◌≡◌, ℕ, ◌%◌, Bool, true, false, cond, eqb, ltb, Some, None, Ok, Err, Option, refl}
use Rattle.fault.specs.declared.level.Level.{Level}
use Rattle.fault.specs.declared.refusal.Refusal.{Refusal}
use Rattle.fault.specs.declared.refusal.Refusal.TheVariants.{AddressRange, Misaligned}
use Rattle.fault.specs.declared.report.Access.{Access}
use Rattle.machine.specs.Checks.{Check, access_at, addressed, aligned, and_then, demand, entrance, judged, judgement, level_at}
use Rattle.machine.specs.Sound.{Grounded}
use Rattle.machine.specs.State.{Core}
use Rattle.plan.specs.Chart.{entry_of, has_bit}
use Rattle.plan.specs.declared.chart.Question.TheVariants.{Door, Elsewhere}
use Rattle.plan.specs.Tables.{Planned, decides, entry_at, page_at}
use Rattle.std.proofs.lemmas.Bool.{eqb-true, ltb-true}

pub demand_passed : (c : Core) (r : Refusal) (t : Bool) → Ok tt ≡ demand c r t → t ≡ true
demand_passed c r true e = refl
demand_passed c r false e = cc

pub both_passed : (x y : Check) → Ok tt ≡ and_then x y → (Ok tt ≡ x) × (Ok tt ≡ y)
both_passed (Ok u) y e = (refl, e)
both_passed (Err f) y e = cc

pub judged_passed : (c : Core) (x : Access) (o : Option Refusal) → Ok tt ≡ judged c x o → o ≡ None
judged_passed c x None e = refl
judged_passed c x (Some r) e = cc

entry_passed : (x : Bool) (l : Level) (door : Bool) → entry_of x l door ≡ None → x ≡ true
entry_passed true l door e = refl
entry_passed false l door e = cc

by_door : (p : Planned) (a : ℕ) (l : Level) (door : Bool) → decides p (cond door Door Elsewhere) a l ≡ None → has_bit 4 (page_at p a).bits ≡ true
by_door p a l true e = entry_passed (has_bit 4 (page_at p a).bits) l true e
by_door p a l false e = entry_passed (has_bit 4 (page_at p a).bits) l false e

pub entered : (p : Planned) (c : Core) (a : ℕ) → Ok tt ≡ entrance p c a → Grounded p a
entered p c a e =
    let x = both_passed (addressed c a) (and_then (aligned c 4 a) (judgement p c (entry_at p a) a 1)) e in
    let y = both_passed (aligned c 4 a) (judgement p c (entry_at p a) a 1) x.1 in (
      eqb-true (a % 4) 0 (demand_passed c Misaligned (eqb (a % 4) 0) y.0),
      ltb-true a 32768 (demand_passed c AddressRange (ltb a 32768) x.0),
      by_door p a (level_at p c a 1) (eqb (a % 64) 0) (judged_passed c (access_at p a (level_at p c a 1)) (decides p (entry_at p a) a (level_at p c a 1)) y.1),
    )
