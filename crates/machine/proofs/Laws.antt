-- The laws that public calls name: a refusal leaves everything and tells the truth; what was recalled stays dead. Assumes nothing.
use Rattle.std.proofs.Common.{◌≡◌, ℕ, ◌+◌, ◌<◌, ◌≤◌, Bool, true, false, cond, ltb, List, [], ◌∷◌, length, get_or, Ok, Err, Result, sym, refl, subst, arith}
use Rattle.capability.specs.Holdings.{reading_of}
use Rattle.fault.specs.declared.report.Fault.{Fault}
use Rattle.machine.specs.Actions.{Action, after_read, after_write, answer_of, go, read_byte, refuse, said, state_of, stepped, told_at, write_byte}
use Rattle.machine.specs.Checks.{Check}
use Rattle.machine.specs.Host.{lend_check, lend_core, lent}
use Rattle.machine.specs.Runs.{Call, Dead, Move, action, after_moves, answer, call, lend, move_on, step}
use Rattle.machine.specs.State.{Core, State, place_of}
use Rattle.machine.specs.Telling.{Refuses}
use Rattle.machine.specs.declared.answer.Done.{Done}
use Rattle.machine.proofs.Lawful.{Above, Lawful, lawful}
use Rattle.machine.proofs.Sounds.{rises}
use Rattle.memory.specs.Meaning.{outside}
use Rattle.std.proofs.lemmas.Bool.{cond-false, ltb-false, ne_eqb}

-- the memory's own refusal, by whether the address lies within
read_refuses : (s : State) (a r : ℕ) (d : Core) (b : Bool) → ltb a (length s.bytes) ≡ b → let o = after_read r d s.bytes (told_at (place_of s.core) (cond b (Ok (get_or s.bytes a 0)) (Err (outside a (length s.bytes))))) in Refuses s (state_of s o) (answer_of o)
read_refuses s a r d true e = tt
read_refuses s a r d false e = (refl, record { place = refl; layer = refl; kind = refl; cause = (refl, ltb-false a (length s.bytes) e) })

write_refuses : (s : State) (a x : ℕ) (d : Core) (b : Bool) → ltb a (length s.bytes) ≡ b → let o = after_write a x d s.bytes (told_at (place_of s.core) (cond b (Ok tt) (Err (outside a (length s.bytes))))) in Refuses s (state_of s o) (answer_of o)
write_refuses s a x d true e = tt
write_refuses s a x d false e = (refl, record { place = refl; layer = refl; kind = refl; cause = (refl, ltb-false a (length s.bytes) e) })

refuses : (s : State) (x : Action) → Lawful s x → Refuses s (stepped s x) (said s x)
refuses s (refuse f) h = (refl, h)
refuses s (go d v) h = tt
refuses s (read_byte a r d) h = read_refuses s a r d (ltb a (length s.bytes)) refl
refuses s (write_byte a b d) h = write_refuses s a b d (ltb a (length s.bytes)) refl

pub refuses-call : (s : State) (x : Call) (t : State) (r : Result Done Fault) → t ≡ step s x → r ≡ answer s x → Refuses s t r
refuses-call s x t r e f =
    subst (λ (u : State). Refuses s u r) (sym e) (subst (λ (q : Result Done Fault). Refuses s (step s x) q) (sym f) (refuses s (action s.plan s.core x) (lawful s x)))

-- readings through a step
above_read : (c d : Core) (s : State) (r : ℕ) (q : Result ℕ Fault) → Above s.core d → Above s.core (state_of s (after_read r d s.bytes q)).core
above_read c d s r (Ok x) h = h
above_read c d s r (Err f) h = λ k. omega arith

above_write : (d : Core) (s : State) (a b : ℕ) (q : Result Unit Fault) → Above s.core d → Above s.core (state_of s (after_write a b d s.bytes q)).core
above_write d s a b (Ok u) h = h
above_write d s a b (Err f) h = λ k. omega arith

above_action : (s : State) (x : Action) → Lawful s x → Above s.core (stepped s x).core
above_action s (refuse f) h = λ k. omega arith
above_action s (go d v) h = h
above_action s (read_byte a r d) h = above_read d d s r _ h
above_action s (write_byte a b d) h = above_write d s a b _ h

above_lend : (c d : Core) (k : Check) → Above c d → Above c (lend_core k c d)
above_lend c d (Ok u) h = h
above_lend c d (Err f) h = λ k. omega arith

above_move : (s : State) (x : Move) → Above s.core (move_on s x).core
above_move s (call x) = above_action s (action s.plan s.core x) (lawful s x)
above_move s (lend k r base size level) =
    above_lend s.core (lent s.core k r base size level) (lend_check s.plan s.core k r base size level) (rises s.core.counters k _ (omega arith))

above_moves : (s : State) (xs : List Move) (k n : ℕ) → n ≤ reading_of s.core.counters k → n ≤ reading_of (after_moves s xs).core.counters k
above_moves s [] k n h = h
above_moves s (x ∷ xs) k n h = above_moves (move_on s x) xs k n (omega (arith, above_move s x k))

pub dead : (s : State) (k n : ℕ) → n < reading_of s.core.counters k → Dead s k n
dead s k n h xs g =
    let l = above_moves s xs k (n + 1) (omega arith) in
    cond-false _ _ _ (ne_eqb (reading_of (after_moves s xs).core.counters k) n (λ e. omega (arith, l, e)))
