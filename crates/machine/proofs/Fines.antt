-- The capabilities that MAKE and CUT write are fine, and so is a counter that REVOKE raises. Assumes nothing.
use Rattle.std.proofs.Common.{◌≡◌, ℕ, ◌+◌, ◌<◌, ◌≤◌, true, cond, not, ◌&&◌, ◌||◌, eqb, ltb, leb, List, Some, None, Ok, Option, refl, ap, ◌∙◌, ⊎_elim, arith}
use Rattle.capability.specs.Holdings.{reading_of, spans}
use Rattle.capability.specs.declared.counter.Counter.{Counter}
use Rattle.capability.specs.declared.holding.Holding.{Holding}
use Rattle.capability.specs.declared.holding.Holding.TheVariants.{Empty, Short, Counted}
use Rattle.capability.specs.declared.right.Right.{Right}
use Rattle.fault.specs.Levels.{rank_of}
use Rattle.fault.specs.declared.refusal.Refusal.TheVariants.{CounterSpent}
use Rattle.machine.specs.Checks.{and_then, owned_by, unspent}
use Rattle.machine.specs.Rules.{content, cut, life_check, made}
use Rattle.machine.specs.Sound.{Fine, fine, formed, settled}
use Rattle.machine.specs.State.{Core, depth, tag_now}
use Rattle.plan.specs.Tables.{Planned}
use Rattle.std.proofs.lemmas.Bool.{and_from, and_parts, cases_eq, cond-false, eq-eqb, eqb-true, le-leb, lt-ltb, ltb-true, ne_eqb, or_cases}
use Rattle.machine.proofs.Passing.{both_passed, demand_passed}

pub formed-right : (g : Right) → spans g.base g.size ≡ true → 0 < rank_of g.level → formed g ≡ true
formed-right g e l = and_from (spans g.base g.size) _ e (le-leb 1 (rank_of g.level) l)

pub fine-counted : (ks : List Counter) (g : Right) (k : ℕ) → formed g ≡ true → 0 < k → k ≤ 16 → reading_of ks k < 999999 → fine ks (Counted g k (reading_of ks k)) ≡ true
fine-counted ks g k f l h u =
    and_from (formed g) _ f
    (and_from (leb (reading_of ks k) (reading_of ks k)) _ (le-leb (reading_of ks k) (reading_of ks k) (omega arith))
    (and_from (ltb (reading_of ks k) 999999) _ (lt-ltb (reading_of ks k) 999999 u)
    (and_from (leb 1 k) (leb k 16) (le-leb 1 k l) (le-leb k 16 h))))

pub fine-made : (p : Planned) (c : Core) (g : Right) (k : ℕ) → formed g ≡ true → k ≤ 16 → Ok tt ≡ life_check p c k → fine c.counters (made c g k) ≡ true
fine-made p c g k f h e =
    ⊎_elim
    (λ (z : k ≡ 0). ap (λ b. fine c.counters (cond b (Short g (depth c)) (Counted g k (reading_of c.counters k)))) (eq-eqb k 0 z) ∙ f)
    (λ (z : k ≡ 0 → ⊥).
    let x = both_passed (owned_by p c k (tag_now p c)) (unspent c k) (e ∙ cond-false (eqb k 0) (Ok tt) (and_then (owned_by p c k (tag_now p c)) (unspent c k)) (ne_eqb k 0 z)) in
    let u = ltb-true (reading_of c.counters k) 999999 (demand_passed c CounterSpent (ltb (reading_of c.counters k) 999999) x.1) in
    ap (λ b. fine c.counters (cond b (Short g (depth c)) (Counted g k (reading_of c.counters k)))) (ne_eqb k 0 z)
    ∙ fine-counted c.counters g k f (omega arith) h u)
    (cases_eq k 0)

pub fine-cut : (ks : List Counter) (x : Right) (h : Holding) → formed x ≡ true → fine ks h ≡ true → fine ks (cut x h) ≡ true
fine-cut ks x Empty f e = refl
fine-cut ks x (Short g d) f e = f
fine-cut ks x (Counted g k n) f e = and_from (formed x) _ f (and_parts (formed g) _ e).1

-- a counter of a tag's is in, so it may be raised up to 999,999
pub settled-raised : (owner : ℕ) (x : Counter) → 0 < owner → settled owner x ≡ true → x.reading < 999999 → settled owner (record { reading = x.reading + 1; out = x.out }) ≡ true
settled-raised owner x l e u =
    let q = (and_parts (leb x.reading 999999) _ e).1 in
    and_from (leb (x.reading + 1) 999999) _ (le-leb (x.reading + 1) 999999 (omega arith))
    (⊎_elim
    (λ i. ap (λ b. b || (eqb owner 0 && ltb (x.reading + 1) 999999)) i)
    (λ o. absurd (omega (arith, l, eqb-true owner 0 (and_parts (eqb owner 0) _ o).0)))
    (or_cases (not x.out) (eqb owner 0 && ltb x.reading 999999) q))

pub fine-content : (c : Core) → Fine c.counters c.slots → (o : Option ℕ) → fine c.counters (content c o) ≡ true
fine-content c h None = refl
fine-content c h (Some i) = h i
