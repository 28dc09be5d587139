-- The ten marked examples. Assumes nothing.
use Rattle.std.proofs.Common.{◌≡◌, ℕ, ◌+◌, ◌<◌, ◌≤◌, Bool, true, false, eqb, ltb, List, [], ◌∷◌, get_or, None, Ok, refl, ap, ◌∙◌, arith}
use Rattle.capability.specs.Holdings.{fresh, level_over, raised, reading_of}
use Rattle.capability.specs.declared.counter.Counter.{Counter}
use Rattle.capability.specs.declared.holding.Holding.{Holding}
use Rattle.fault.specs.Faults.{bare_fault}
use Rattle.fault.specs.Levels.{higher_of, rank_of}
use Rattle.fault.specs.declared.level.Level.{Level}
use Rattle.fault.specs.declared.level.Level.TheVariants.{Nothing, Call, Read, Write}
use Rattle.fault.specs.declared.refusal.Refusal.TheVariants.{AddressRange, CounterSpent, NotOwner}
use Rattle.machine.specs.Actions.{check, go, refuse}
use Rattle.machine.specs.Checks.{access_at, demand, entrance, judged, level_at, owned_by, unspent}
use Rattle.examples.specs.Marked.{Marked}
use Rattle.machine.specs.Rules.{branch_rule, landing, raised_counter, revoke_rule, target}
use Rattle.machine.specs.State.{Core, counted, moved, on, place_of, tag_now, value}
use Rattle.plan.specs.Chart.{entry_of, has_bit}
use Rattle.plan.specs.Tables.{Planned, StartsFirst, level_for, owner_of, page_at, tag_at}
use Rattle.std.proofs.lemmas.Bool.{cond_both, cond-true, eq-eqb, le-ltb, lt-ltb, ltb-true}

-- registers only raise a level
higher_least : (x y : Level) → rank_of x ≤ rank_of (higher_of x y)
higher_least x y =
    cond_both (ltb (rank_of x) (rank_of y)) y x (λ l. rank_of x ≤ rank_of l) (λ e. omega (arith, ltb-true (rank_of x) (rank_of y) e)) (λ e. omega arith)

pub raised_least : (ks : List Counter) (a n : ℕ) (l : Level) (hs : List Holding) → rank_of l ≤ rank_of (raised ks a n l hs)
raised_least ks a n l [] = omega arith
raised_least ks a n l (h ∷ hs) =
    let m = higher_of l (level_over ks h a n) in
    omega (arith, higher_least l (level_over ks h a n), raised_least ks a n m hs)

entry_open : (x : Bool) (l : Level) → x ≡ true → 0 < rank_of l → entry_of x l true ≡ None
entry_open false l e h = absurd (let z : ◌≡◌ {A = ℕ} 0 1 = cc in omega arith)
entry_open true Nothing e h = absurd (omega arith)
entry_open true Call e h = refl
entry_open true Read e h = refl
entry_open true Write e h = refl

own_level : (p : Planned) (t u : ℕ) → t ≡ 1 → u ≡ 1 → level_for p t u ≡ Write
own_level p t u e f = ap (λ x. level_for p x u) e ∙ ap (λ x. level_for p 1 x) f

taken : (p : Planned) (c : Core) (a v : ℕ) → value c a ≡ 0 → branch_rule p c a v ≡ landing p c (target (place_of c) v)
taken p c a v e = cond-true (eqb (value c a) 0) (landing p c (target (place_of c) v)) (go (on c) 0) (eq-eqb (value c a) 0 e)

-- page 0 lets its own tag in at place 0
zero_open : (p : Planned) (c : Core) → StartsFirst p.pages → place_of c ≡ 8 → entrance p c 0 ≡ Ok tt
zero_open p c f e =
    let now : tag_now p c ≡ 1 = ap (λ a. tag_at p a) e ∙ f.0 in
    let l = level_at p c 0 1 in
    let w = own_level p (tag_now p c) (tag_at p 0) now f.0 in
    let r = raised_least c.counters 0 1 (level_for p (tag_now p c) (tag_at p 0)) c.engine.registers in
    let up : 0 < rank_of l = omega (arith, r, ap rank_of w) in
    ap (judged c (access_at p 0 l)) (entry_open (has_bit 4 (page_at p 0).bits) l (ap (has_bit 4) f.1) up)

back : (p : Planned) (c : Core) (a : ℕ) → StartsFirst p.pages → place_of c ≡ 8 → value c a ≡ 0 → branch_rule p c a 4294967294 ≡ go (moved 0 c) 0
unfolding target
back p c a f e z =
    taken p c a 4294967294 z ∙ ap (λ n. landing p c (target n 4294967294)) e ∙ ap (λ k. check k (go (moved 0 c) 0)) (zero_open p c f e)

below : (p : Planned) (c : Core) (a : ℕ) → place_of c ≡ 8 → value c a ≡ 0 → branch_rule p c a 4294967293 ≡ refuse (bare_fault AddressRange 8)
unfolding target
below p c a e z =
    taken p c a 4294967293 z ∙ ap (λ n. landing p c (target n 4294967293)) e ∙ ap (λ n. refuse (bare_fault AddressRange n)) e

owned : (p : Planned) (c : Core) (k : ℕ) → owner_of p k ≡ tag_now p c → owned_by p c k (tag_now p c) ≡ Ok tt
owned p c k e = ap (demand c NotOwner) (eq-eqb (owner_of p k) (tag_now p c) e)

last : (p : Planned) (c : Core) (k : ℕ) → owner_of p k ≡ tag_now p c → reading_of c.counters k ≡ 999998 → revoke_rule p c k ≡ go (counted k (record { reading = 999999; out = (get_or c.counters k fresh).out }) (on c)) 999999
last p c k e f =
    let done = go (counted k (raised_counter (get_or c.counters k fresh)) (on c)) (reading_of c.counters k + 1) in
    ap (λ x. check x (check (unspent c k) done)) (owned p c k e)
    ∙ ap (λ x. check x done) (ap (demand c CounterSpent) (lt-ltb (reading_of c.counters k) 999999 (omega (arith, f))))
    ∙ ap (λ n. go (counted k (record { reading = n + 1; out = (get_or c.counters k fresh).out }) (on c)) (n + 1)) f

none_left : (p : Planned) (c : Core) (k : ℕ) → owner_of p k ≡ tag_now p c → reading_of c.counters k ≡ 999999 → revoke_rule p c k ≡ refuse (bare_fault CounterSpent (place_of c))
none_left p c k e f =
    let done = go (counted k (raised_counter (get_or c.counters k fresh)) (on c)) (reading_of c.counters k + 1) in
    ap (λ x. check x (check (unspent c k) done)) (owned p c k e)
    ∙ ap (λ x. check x done) (ap (demand c CounterSpent) (le-ltb (reading_of c.counters k) 999999 (omega (arith, f))))

pub marked : Marked
marked = record {
  chart78 = refl;
  chart84 = refl;
  chart474 = refl;
  chart131 = refl;
  last_byte = refl;
  past_end = λ c. (refl, refl);
  back_to_zero = back;
  below_zero = λ p c a e z. (below p c a e z, refl);
  last_revoke = last;
  no_more = λ p c k e f. (none_left p c k e f, refl);
}
