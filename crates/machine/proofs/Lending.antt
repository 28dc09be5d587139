-- What LEND's checks show, and what LEND and RECALL leave settled. Assumes nothing.
use Rattle.std.proofs.Common.{◌≡◌, ℕ, ◌+◌, ◌<◌, ◌≤◌, Bool, true, false, if◌then◌else◌, not, ◌&&◌, eqb, ltb, leb, is_some, Some, None, Ok, Option, sym, refl, ap, subst, ⊎_elim, arith}
use Rattle.capability.specs.Holdings.{reading_of, spans}
use Rattle.capability.specs.declared.counter.Counter.{Counter}
use Rattle.capability.specs.declared.holding.Event.TheVariants.{Took}
use Rattle.capability.specs.declared.holding.Holding.TheVariants.{Counted}
use Rattle.capability.specs.declared.right.Right.{Right}
use Rattle.fault.specs.Levels.{level_named, rank_of}
use Rattle.fault.specs.declared.level.Level.{Level}
use Rattle.fault.specs.declared.level.Level.TheVariants.{Call, Read, Write}
use Rattle.fault.specs.declared.level.UnknownLevel.{UnknownLevel}
use Rattle.fault.specs.declared.refusal.Refusal.TheVariants.{BadSpan, CounterOut, CounterSpent, FieldRange, NotOwner}
use Rattle.machine.specs.Checks.{and_then, demand, owned_by, span_check, unspent}
use Rattle.machine.specs.Host.{counter_at, lend_check}
use Rattle.machine.specs.Sound.{Sound, fine, formed, settled}
use Rattle.machine.specs.State.{Core, counted, told}
use Rattle.machine.proofs.Fines.{fine-counted, formed-right}
use Rattle.machine.proofs.Passing.{both_passed, demand_passed}
use Rattle.machine.proofs.Sounds.{fine-kept, sound_counted, sound_took}
use Rattle.plan.specs.Tables.{Planned, owner_of}
use Rattle.std.proofs.lemmas.Bool.{and_from, and_parts, both_ways, eq-eqb, eqb-true, le-leb, leb-true, lt-ltb, ltb-true, or_cases}
use Rattle.std.specs.Option.{ok_or}

by_tests : (x y z : Bool) (l : Level) → (if x then Some Call else if y then Some Read else if z then Some Write else None) ≡ Some l → 0 < rank_of l
by_tests true y z l e = grind arith
by_tests false true z l e = grind arith
by_tests false false true l e = grind arith
by_tests false false false l e = cc

grants : (n : ℕ) (l : Level) → level_named n ≡ Some l → 0 < rank_of l
grants n l e = by_tests (eqb n 1) (eqb n 2) (eqb n 3) l e

-- a number that was converted names the level
pub named : (o : Option Level) (e : UnknownLevel) (l : Level) → Ok l ≡ ok_or o e → o ≡ Some l
named None e l h = cc
named (Some m) e l h = cc

pub settled_recalled : (owner : ℕ) (x : Counter) → settled owner x ≡ true → x.out ≡ true → settled owner (record { reading = x.reading + 1; out = false }) ≡ true
settled_recalled owner x e o =
    let q = or_cases (not x.out) (eqb owner 0 && ltb x.reading 999999) (and_parts (leb x.reading 999999) _ e).1 in
    let low : x.reading < 999999 = ⊎_elim (λ i. absurd (both_ways (not x.out) (ap not o) i)) (λ r. ltb-true x.reading 999999 (and_parts (eqb owner 0) _ r).1) q in
    and_from (leb (x.reading + 1) 999999) true (le-leb (x.reading + 1) 999999 (omega arith)) refl

settled-lent : (owner n : ℕ) → owner ≡ 0 → n < 999999 → settled owner (record { reading = n; out = true }) ≡ true
settled-lent owner n z l =
    and_from (leb n 999999) _ (le-leb n 999999 (omega arith)) (and_from (eqb owner 0) (ltb n 999999) (eq-eqb owner 0 z) (lt-ltb n 999999 l))

-- the parts of LEND's checks
pub record Lendable (p : Planned) (c : Core) (k : ℕ) (g : Right) : Type 0 where
  pub low : 1 ≤ k
  pub high : k ≤ 16
  pub formed : formed g ≡ true
  pub host : owner_of p k ≡ 0
  pub unspent : reading_of c.counters k < 999999

pub lend_passed : (p : Planned) (c : Core) (k r : ℕ) (g : Right) (n : ℕ) → level_named n ≡ Some g.level → Ok tt ≡ lend_check p c k r g.base g.size n → Lendable p c k g
lend_passed p c k r g n h e =
    let known = leb 1 k && (leb k 16 && (ltb r 8 && is_some (level_named n))) in
    let out = demand c CounterOut (not (counter_at c k).out) in
    let x = both_passed (demand c FieldRange known) (and_then (span_check c g.base g.size) (and_then (owned_by p c k 0) (and_then out (unspent c k)))) e in
    let y = both_passed (span_check c g.base g.size) (and_then (owned_by p c k 0) (and_then out (unspent c k))) x.1 in
    let z = both_passed (owned_by p c k 0) (and_then out (unspent c k)) y.1 in
    let w = both_passed out (unspent c k) z.1 in
    let i = and_parts (leb 1 k) (leb k 16 && (ltb r 8 && is_some (level_named n))) (demand_passed c FieldRange known x.0) in
    let j = and_parts (leb k 16) (ltb r 8 && is_some (level_named n)) i.1 in
    record {
      low = leb-true 1 k i.0;
      high = leb-true k 16 j.0;
      formed = formed-right g (demand_passed c BadSpan (spans g.base g.size) y.0) (grants n g.level h);
      host = eqb-true (owner_of p k) 0 (demand_passed c NotOwner (eqb (owner_of p k) 0) z.0);
      unspent = ltb-true (reading_of c.counters k) 999999 (demand_passed c CounterSpent (ltb (reading_of c.counters k) 999999) w.1);
    }

-- the core after a loan of a right, at a reading
abbrev pub lent_at : Core → ℕ → ℕ → Right → ℕ → Core
lent_at c k r g n = told r (Took (Counted g k n)) (counted k (record { reading = n; out = true }) c)

pub sound_lent : (p : Planned) (c : Core) (k r : ℕ) (g : Right) (n : ℕ) → Sound p c → Lendable p c k g → n ≡ reading_of c.counters k → Sound p (lent_at c k r g n)
sound_lent p c k r g n s l e =
    let x : Counter = record { reading = n; out = true } in
    let u : n < 999999 = omega (arith, l.unspent, e) in
    let f = fine-counted c.counters g k l.formed l.low l.high l.unspent in
    let f = subst (λ (m : ℕ). fine c.counters (Counted g k m) ≡ true) (sym e) f in
    sound_took p (counted k x c) (sound_counted p c s k x (omega arith) (settled-lent (owner_of p k) n l.host u)) r (Counted g k n) (fine-kept c.counters k x (omega arith) (Counted g k n) f)
