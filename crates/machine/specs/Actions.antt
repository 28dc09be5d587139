-- What a call asks of the memory and makes of the rest, and what it then comes to. Assumes nothing.
use Rattle.std.specs.Prelude.{◌≡◌, ℕ, ◌+◌, List, Ok, Err, Result, slice_set}
use Rattle.fault.specs.Faults.{placed_at}
use Rattle.fault.specs.declared.report.Fault.{Fault}
use Rattle.machine.specs.Checks.{Check}
use Rattle.machine.specs.State.{Core, State, on, place_of, valued}
use Rattle.machine.specs.declared.answer.Done.{Done}
use Rattle.memory.specs.Meaning.{read_of, write_of}

-- refuse; go on with a value; read the byte at an address into a value register; write a byte at an address
pub data Action : Type 0 where
  refuse : Fault → Action
  go : Core → ℕ → Action
  read_byte : ℕ → ℕ → Core → Action
  write_byte : ℕ → ℕ → Core → Action

abbrev pub check : Check → Action → Action
check (Ok u) x = x
check (Err f) x = refuse f

pub data Outcome : Type 0 where
  done : Core → List ℕ → ℕ → Outcome
  refused : Fault → Outcome

-- the memory's own refusal is told at the machine's place
abbrev pub told_at : {X : Type 0} → ℕ → Result X Fault → Result X Fault
told_at place (Ok x) = Ok x
told_at place (Err f) = Err (placed_at place f)

abbrev pub after_read : ℕ → Core → List ℕ → Result ℕ Fault → Outcome
after_read r d bs (Ok x) = done (valued r x d) bs x
after_read r d bs (Err f) = refused f

abbrev pub after_write : ℕ → ℕ → Core → List ℕ → Result Unit Fault → Outcome
after_write a b d bs (Ok u) = done d (slice_set bs a b) 0
after_write a b d bs (Err f) = refused f

-- the one definition that touches the bytes
abbrev pub perform : Core → List ℕ → Action → Outcome
perform c bs (refuse f) = refused f
perform c bs (go d v) = done d bs v
perform c bs (read_byte a r d) = after_read r d bs (told_at (place_of c) (read_of bs a))
perform c bs (write_byte a b d) = after_write a b d bs (told_at (place_of c) (write_of bs a))

abbrev pub outcome : State → Action → Outcome
outcome s x = perform s.core s.bytes x

-- the state after it: a refusal changes nothing
abbrev pub state_of : State → Outcome → State
state_of s (done c bs v) = record { plan = s.plan; core = c; bytes = bs }
state_of s (refused f) = s

-- what is answered: the new place and a value, or the fault
abbrev pub answer_of : Outcome → Result Done Fault
answer_of (done c bs v) = Ok (record { place = place_of c; value = v })
answer_of (refused f) = Err f

-- the state that an action leaves, and what it answers
abbrev pub stepped : State → Action → State
stepped s x = state_of s (outcome s x)

abbrev pub said : State → Action → Result Done Fault
said s x = answer_of (outcome s x)

-- a call from one state to another, with its answer, does what an action says
pub record Does (s t : State) (result : Result Done Fault) (x : Action) : Type 0 where
  pub after : t ≡ stepped s x
  pub answer : result ≡ said s x

-- the state once the machine has gone on to the next place
abbrev pub gone_on : State → State
gone_on s = record { plan = s.plan; core = on s.core; bytes = s.bytes }

-- an effect with its value does what an action says, but for going on; a refusal is the action's, and changes nothing
abbrev pub Yields : State → State → Result ℕ Fault → Action → Type 0
Yields s t (Ok v) x =
    (place_of t.core ≡ place_of s.core) × Does s (gone_on t) (Ok (record { place = place_of s.core + 4; value = v })) x
Yields s t (Err f) x = (t ≡ s) × Does s t (Err f) x
