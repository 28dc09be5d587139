-- Runs: lists of calls, each on the state that the last one left. Assumes nothing.
use Rattle.std.specs.Prelude.{◌≡◌, ℕ, List, [], ◌∷◌, length, None, Result}
use Rattle.capability.specs.Holdings.{granted}
use Rattle.capability.specs.declared.holding.Holding.TheVariants.{Counted}
use Rattle.capability.specs.declared.right.Right.{Right}
use Rattle.fault.specs.declared.report.Fault.{Fault}
use Rattle.machine.specs.Actions.{Action, said, stepped}
use Rattle.machine.specs.Host.{deposit_rule, lend_check, lend_core, lent, recall_rule}
use Rattle.machine.specs.Rules.{obey_rule}
use Rattle.machine.specs.State.{Core, State}
use Rattle.machine.specs.declared.answer.Done.{Done}
use Rattle.plan.specs.Tables.{Planned}

-- a call of a run: OBEY with any bytes as the record, DEPOSIT with any address and byte, RECALL with any slip
pub data Call : Type 0 where
  obey : List ℕ → Call
  deposit : ℕ → ℕ → Call
  recall : ℕ → ℕ → Call

abbrev pub action : Planned → Core → Call → Action
action p c (obey bs) = obey_rule p c bs
action p c (deposit a b) = deposit_rule p c a b
action p c (recall k n) = recall_rule c k n

abbrev pub step : State → Call → State
step s x = stepped s (action s.plan s.core x)

abbrev pub answer : State → Call → Result Done Fault
answer s x = said s (action s.plan s.core x)

abbrev pub after : State → List Call → State
after s [] = s
after s (x ∷ xs) = after (step s x) xs

abbrev pub answers : State → List Call → List (Result Done Fault)
answers s [] = []
answers s (x ∷ xs) = answer s x ∷ answers (step s x) xs

-- two machines are alike when every part is equal, save that of the memories only the sizes need be
pub record Alike (s t : State) : Type 0 where
  pub plan : s.plan ≡ t.plan
  pub core : s.core ≡ t.core
  pub size : length s.bytes ≡ length t.bytes

-- what may happen to a machine: a call of a run, or a loan
pub data Move : Type 0 where
  call : Call → Move
  lend : ℕ → ℕ → ℕ → ℕ → ℕ → Move

abbrev pub move_on : State → Move → State
move_on s (call x) = step s x
move_on s (lend k r base size level) = record {
  plan = s.plan;
  core = lend_core (lend_check s.plan s.core k r base size level) s.core (lent s.core k r base size level);
  bytes = s.bytes;
}

abbrev pub after_moves : State → List Move → State
after_moves s [] = s
after_moves s (x ∷ xs) = after_moves (move_on s x) xs

-- whatever happens next, a capability of this counter and reading grants nothing
abbrev pub Dead : State → ℕ → ℕ → Type 0
Dead s k n = (xs : List Move) (g : Right) → granted (after_moves s xs).core.counters (Counted g k n) ≡ None
