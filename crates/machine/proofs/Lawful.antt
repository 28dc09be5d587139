-- Every call refuses truthfully, and no counter ever falls. Assumes nothing.
use Rattle.std.proofs.Common.{◌≡◌, ℕ, ◌+◌, ◌-◌, ◌*◌, ◌/◌, ◌%◌, ◌≤◌, max, Bool, true, false, cond, not, ◌||◌, eqb, ltb, leb, List, [], ◌∷◌, ◌++◌, length, get_or, take, Some, None, Ok, Err, Option, sym, refl, arith}
use Rattle.capability.specs.Holdings.{empty, fresh, granted, reading_of, spans}
use Rattle.capability.specs.declared.holding.Event.TheVariants.{Took}
use Rattle.capability.specs.declared.holding.Holding.{Holding}
use Rattle.capability.specs.declared.right.Right.{Right}
use Rattle.fault.specs.Faults.{access_fault, bare_fault}
use Rattle.fault.specs.Levels.{rank_of}
use Rattle.fault.specs.declared.level.Level.{Level}
use Rattle.fault.specs.declared.level.Level.TheVariants.{Nothing, Call as ForCall, Read, Write}
use Rattle.fault.specs.declared.refusal.Refusal.{Refusal}
use Rattle.fault.specs.declared.refusal.Refusal.TheVariants.{RecordLength, UnknownCode, FieldRange, PageEnd, AddressRange, Misaligned, WrongPageKind, LevelTooLow, StackFull, StackEmpty, BadSpan, DeadSource, ShortLife, NotOwner, NotPrivileged, CounterSpent}
use Rattle.instruction.specs.Decoding.{fitting, number, op_of, shaped}
use Rattle.instruction.specs.declared.decode.Decoded.{Decoded}
use Rattle.instruction.specs.declared.op.Op.{Op}
use Rattle.instruction.specs.declared.op.Op.TheVariants.{Set, Add, Load, Store, Jump, Call, Return, Branch, Make, Cut, Drop, Push, Pop, Keep, Fetch, Revoke, Panel}
use Rattle.machine.specs.Actions.{Action, check, go, read_byte, refuse, write_byte}
use Rattle.machine.specs.Checks.{Check, above_floor, access_at, addressed, aligned, and_then, byte_check, demand, entrance, frame_room, frame_there, is_short, judged, judgement, lasts, level_at, owned_by, privileged, slot_check, span_check, stack_room, unspent}
use Rattle.machine.specs.Host.{counter_at, due, kind_check}
use Rattle.machine.specs.Rules.{called_engine, content, cut, cut_from, kept, landing, leaves, life_check, list_check, list_judged, lowest_below, made, make_check, obey_decoded, pages_touched, part_check, raised_counter, returned_engine, right_of, room_check, row, target, wanted, within}
use Rattle.machine.specs.Runs.{Call as RunCall, action, deposit, obey, recall}
use Rattle.machine.specs.State.{Core, State, counted, depth, height, holding, moved, on, place_of, run, shown, stacked, tag_now, told, value}
use Rattle.machine.specs.Telling.{Told, access, bare, kind_for}
use Rattle.machine.proofs.Sounds.{rises}
use Rattle.plan.specs.Chart.{access_of, decision, entry_of, has_bit}
use Rattle.plan.specs.Tables.{decides, entry_at, level_for, owner_of, page_at, slot_at, tag_at}
use Rattle.plan.specs.declared.chart.Question.{Question}
use Rattle.plan.specs.declared.chart.Question.TheVariants.{Load as AskLoad, Store as AskStore, Fetch as AskFetch, Keep as AskKeep, Door, Elsewhere}
use Rattle.std.proofs.lemmas.Bool.{and_parts, eqb-true}

-- no counter falls from one core to another
abbrev pub Above : Core → Core → Type 0
Above c d = (k : ℕ) → reading_of c.counters k ≤ reading_of d.counters k

-- a decision's refusals tell an access
abbrev Fair : Option Refusal → Type 0
Fair None = Unit {0}
Fair (Some r) = kind_for r ≡ access

fair-access : (kind bit high : Bool) → Fair (access_of kind bit high)
fair-access false bit high = refl
fair-access true false high = refl
fair-access true true false = refl
fair-access true true true = tt

fair_entry : (x : Bool) (l : Level) (door : Bool) → Fair (entry_of x l door)
fair_entry false l door = refl
fair_entry true Nothing door = refl
fair_entry true ForCall true = tt
fair_entry true ForCall false = refl
fair_entry true Read true = tt
fair_entry true Read false = tt
fair_entry true Write true = tt
fair_entry true Write false = tt

fair : (bits : ℕ) (l : Level) (q : Question) → Fair (decision bits l q)
fair bits l AskLoad = fair-access (not (has_bit 16 bits)) (has_bit 1 bits) (leb 2 (rank_of l))
fair bits l AskStore = fair-access (not (has_bit 16 bits)) (has_bit 2 bits) (leb 3 (rank_of l))
fair bits l AskFetch = fair-access (has_bit 16 bits) (has_bit 1 bits) (leb 2 (rank_of l))
fair bits l AskKeep = fair-access (has_bit 16 bits) (has_bit 2 bits) (leb 3 (rank_of l))
fair bits l Door = fair_entry (has_bit 4 bits) l true
fair bits l Elsewhere = fair_entry (has_bit 4 bits) l false

module _ (s : State) where
  abbrev pub Lawful : Action → Type 0
  Lawful (refuse f) = Told s f
  Lawful (go d v) = Above s.core d
  Lawful (read_byte a r d) = Above s.core d
  Lawful (write_byte a b d) = Above s.core d

  abbrev Honest : Check → Type 0
  Honest (Ok u) = Unit {0}
  Honest (Err f) = Told s f

  bare_told : (r : Refusal) → kind_for r ≡ bare → Told s (bare_fault r (place_of s.core))
  bare_told r e = record { place = refl; layer = refl; kind = sym e; cause = tt }

  access_told : (r : Refusal) (a : ℕ) (l : Level) → kind_for r ≡ access → Told s (access_fault r (place_of s.core) (access_at s.plan a l))
  access_told r a l e = record { place = refl; layer = refl; kind = sym e; cause = refl }

  -- the checks
  demanded : (r : Refusal) (t : Bool) → kind_for r ≡ bare → Honest (demand s.core r t)
  demanded r true e = tt
  demanded r false e = bare_told r e

  both : (x y : Check) → Honest x → Honest y → Honest (and_then x y)
  both (Ok u) y h g = g
  both (Err f) y h g = h

  honest_judged : (a : ℕ) (l : Level) (o : Option Refusal) → Fair o → Honest (judged s.core (access_at s.plan a l) o)
  honest_judged a l None h = tt
  honest_judged a l (Some r) h = access_told r a l h

  honest_judgement : (q : Question) (a n : ℕ) → Honest (judgement s.plan s.core q a n)
  honest_judgement q a n =
      honest_judged a (level_at s.plan s.core a n) (decides s.plan q a (level_at s.plan s.core a n)) (fair (page_at s.plan a).bits (level_at s.plan s.core a n) q)

  honest_byte : (q : Question) (a : ℕ) → Honest (byte_check s.plan s.core q a)
  honest_byte q a = both (addressed s.core a) (judgement s.plan s.core q a 1) (demanded AddressRange (ltb a 32768) refl) (honest_judgement q a 1)

  -- an aligned address, for an entry or a slot
  honest_aligned : (q : Question) (n w a : ℕ) → Honest (and_then (addressed s.core a) (and_then (aligned s.core n a) (judgement s.plan s.core q a w)))
  honest_aligned q n w a =
      both (addressed s.core a) (and_then (aligned s.core n a) (judgement s.plan s.core q a w)) (demanded AddressRange (ltb a 32768) refl)
      (both (aligned s.core n a) (judgement s.plan s.core q a w) (demanded Misaligned (eqb (a % n) 0) refl) (honest_judgement q a w))

  honest_entrance : (a : ℕ) → Honest (entrance s.plan s.core a)
  honest_entrance a = honest_aligned (entry_at s.plan a) 4 1 a

  honest_owned : (k t : ℕ) → Honest (and_then (owned_by s.plan s.core k t) (unspent s.core k))
  honest_owned k t = both (owned_by s.plan s.core k t) (unspent s.core k) (demanded NotOwner (eqb (owner_of s.plan k) t) refl) (demanded CounterSpent (ltb (reading_of s.core.counters k) 999999) refl)

  honest_life : (b : Bool) (k : ℕ) → Honest (cond b (Ok tt) (and_then (owned_by s.plan s.core k (tag_now s.plan s.core)) (unspent s.core k)))
  honest_life true k = tt
  honest_life false k = honest_owned k (tag_now s.plan s.core)

  honest_list : (base : ℕ) (o : Option ℕ) → Honest (list_judged s.plan s.core base o)
  honest_list base None = tt
  honest_list base (Some k) = access_told LevelTooLow (max base (256 * k)) (level_for s.plan (tag_now s.plan s.core) (tag_at s.plan (256 * k))) refl

  honest_make : (x : Right) (k : ℕ) → Honest (make_check s.plan s.core x k)
  honest_make x k =
      both (span_check s.core x.base x.size) (and_then (life_check s.plan s.core k) (list_check s.plan s.core x)) (demanded BadSpan (spans x.base x.size) refl)
      (both (life_check s.plan s.core k) (list_check s.plan s.core x) (honest_life (eqb k 0) k)
      (honest_list x.base (lowest_below s.plan (tag_now s.plan s.core) x.level (x.base / 256) (pages_touched x.base x.size))))

  honest_part : (x g : Right) (b : Bool) → Honest (cond b (Ok tt) (Err (access_fault LevelTooLow (place_of s.core) (access_at s.plan x.base g.level))))
  honest_part x g true = tt
  honest_part x g false = access_told LevelTooLow x.base g.level refl

  honest_kind : (a : ℕ) (b : Bool) → Honest (cond b (Err (access_fault WrongPageKind (place_of s.core) (access_at s.plan a Nothing))) (Ok tt))
  honest_kind a true = access_told WrongPageKind a Nothing refl
  honest_kind a false = tt

  -- the actions
  checked : (k : Check) (x : Action) → Honest k → Lawful x → Lawful (check k x)
  checked (Ok u) x h g = g
  checked (Err f) x h g = h

  still : Above s.core s.core
  still k = omega arith

  law_jump : (to : ℕ) → Lawful (check (entrance s.plan s.core to) (go (moved to s.core) 0))
  law_jump to = checked (entrance s.plan s.core to) (go (moved to s.core) 0) (honest_entrance to) still

  law_landing : (o : Option ℕ) → Lawful (landing s.plan s.core o)
  law_landing None = bare_told AddressRange refl
  law_landing (Some to) = law_jump to

  law_branch : (b : Bool) (o : Option ℕ) → Lawful (cond b (landing s.plan s.core o) (go (on s.core) 0))
  law_branch true o = law_landing o
  law_branch false o = still

  law_cut : (a : ℕ) (x : Right) (h : Holding) (o : Option Right) → Lawful (cut_from s.plan s.core a x h o)
  law_cut a x h None = bare_told DeadSource refl
  law_cut a x h (Some g) =
      let done = go (told a (Took (cut x h)) (on s.core)) 0 in
      checked (span_check s.core x.base x.size) (check (part_check s.plan s.core x g) done) (demanded BadSpan (spans x.base x.size) refl)
      (checked (part_check s.plan s.core x g) done (honest_part x g (within x g)) still)

  kept_above : (o : Option ℕ) (h : Holding) → Above s.core (kept o h (on s.core))
  kept_above None h = still
  kept_above (Some i) h = still

  law_row : (op : Op) (a b d v : ℕ) → Lawful (row s.plan s.core op a b d v)
  law_row Set a b d v = still
  law_row Add a b d v = still
  law_row Load a b d v =
      let at = value s.core b + v in
      checked (byte_check s.plan s.core AskLoad at) (read_byte at a (on s.core)) (honest_byte AskLoad at) still
  law_row Store a b d v =
      let at = value s.core b + v in
      checked (byte_check s.plan s.core AskStore at) (write_byte at (value s.core a % 256) (on s.core)) (honest_byte AskStore at) still
  law_row Jump a b d v = law_jump v
  law_row Call a b d v =
      let called = go (run (called_engine v s.core.engine) s.core) 0 in
      checked (entrance s.plan s.core v) (check (frame_room s.core) called) (honest_entrance v)
      (checked (frame_room s.core) called (demanded StackFull (ltb (depth s.core) 32) refl) still)
  law_row Return a b d v =
      checked (frame_there s.core) (go (run (returned_engine s.core.engine) s.core) 0) (demanded StackEmpty (ltb 0 (depth s.core)) refl) still
  law_row Branch a b d v = law_branch (eqb (value s.core a) 0) (target (place_of s.core) v)
  law_row Make a b d v =
      let x = right_of (value s.core b) (value s.core d) (wanted v) in
      checked (make_check s.plan s.core x (v / 4)) (go (told a (Took (made s.core x (v / 4))) (on s.core)) 0) (honest_make x (v / 4)) still
  law_row Cut a b d v =
      law_cut a (right_of (value s.core b) (value s.core d) (wanted v)) (holding s.core (v / 4)) (granted s.core.counters (holding s.core (v / 4)))
  law_row Drop a b d v = still
  law_row Push a b d v =
      checked (stack_room s.core) (go (stacked (s.core.engine.stack ++ holding s.core a ∷ []) (on s.core)) 0) (demanded StackFull (ltb (height s.core) 64) refl) still
  law_row Pop a b d v =
      let n = height s.core - 1 in
      checked (above_floor s.core) (go (told a (Took (get_or s.core.engine.stack n empty)) (stacked (take n s.core.engine.stack) (on s.core))) 0) (demanded StackEmpty (ltb s.core.engine.floor (height s.core)) refl) still
  law_row Keep a b d v =
      let at = value s.core b + v in
      let done = go (kept (slot_at s.plan at) (holding s.core a) (on s.core)) 0 in
      checked (slot_check s.plan s.core AskKeep at) (check (lasts s.core (holding s.core a)) done) (honest_aligned AskKeep 32 32 at)
      (checked (lasts s.core (holding s.core a)) done (demanded ShortLife (not (is_short (holding s.core a))) refl) (kept_above (slot_at s.plan at) (holding s.core a)))
  law_row Fetch a b d v =
      let at = value s.core b + v in
      checked (slot_check s.plan s.core AskFetch at) (go (told a (Took (content s.core (slot_at s.plan at))) (on s.core)) 0) (honest_aligned AskFetch 32 32 at) still
  law_row Revoke a b d v =
      let t = tag_now s.plan s.core in
      let done = go (counted a (raised_counter (get_or s.core.counters a fresh)) (on s.core)) (reading_of s.core.counters a + 1) in
      checked (owned_by s.plan s.core a t) (check (unspent s.core a) done) (demanded NotOwner (eqb (owner_of s.plan a) t) refl)
      (checked (unspent s.core a) done (demanded CounterSpent (ltb (reading_of s.core.counters a) 999999) refl) (rises s.core.counters a (raised_counter (get_or s.core.counters a fresh)) (omega arith)))
  law_row Panel a b d v =
      checked (privileged s.plan s.core) (go (shown (value s.core a) (on s.core)) (value s.core a)) (demanded NotPrivileged (has_bit 8 (page_at s.plan (place_of s.core)).bits) refl) still

  -- the decoder's refusals are bare
  law_shaped : (d : Decoded) (b : Bool) → Lawful (obey_decoded s.plan s.core (cond b (Ok d) (Err FieldRange)))
  law_shaped d true =
      checked (room_check s.core d.op d.a) (row s.plan s.core d.op d.a d.b d.c d.v)
      (demanded PageEnd (not (eqb (place_of s.core % 256) 252) || leaves s.core d.op d.a) refl) (law_row d.op d.a d.b d.c d.v)
  law_shaped d false = bare_told FieldRange refl

  law_coded : (o : Option Op) (a b d v : ℕ) → Lawful (obey_decoded s.plan s.core (shaped o a b d v))
  law_coded None a b d v = bare_told UnknownCode refl
  law_coded (Some op) a b d v =
      let x : Decoded = record { op = op; a = a; b = b; c = d; v = v } in
      law_shaped x (fitting x)

  law_length : (bs : List ℕ) (t : Bool) → Lawful (obey_decoded s.plan s.core (cond t (shaped (op_of (get_or bs 0 0)) (get_or bs 1 0) (get_or bs 2 0) (get_or bs 3 0) (number bs)) (Err RecordLength)))
  law_length bs true = law_coded (op_of (get_or bs 0 0)) (get_or bs 1 0) (get_or bs 2 0) (get_or bs 3 0) (number bs)
  law_length bs false = bare_told RecordLength refl

  law_recall : (k n : ℕ) (b : Bool) → b ≡ due s.core k n → Lawful (cond b (go (counted k (record { reading = n + 1; out = false }) s.core) 1) (go s.core 0))
  law_recall k n true e =
      let x = and_parts (leb 1 k) _ (sym e) in
      let y = and_parts (leb k 16) _ x.1 in
      let z = and_parts (counter_at s.core k).out (eqb (counter_at s.core k).reading n) y.1 in
      let q = eqb-true (counter_at s.core k).reading n z.1 in
      rises s.core.counters k (record { reading = n + 1; out = false }) (omega (arith, q))
  law_recall k n false e = still

  pub lawful : (x : RunCall) → Lawful (action s.plan s.core x)
  lawful (obey bs) = law_length bs (eqb (length bs) 8)
  lawful (deposit a b) =
      checked (addressed s.core a) (check (kind_check s.plan s.core a) (write_byte a b s.core)) (demanded AddressRange (ltb a 32768) refl)
      (checked (kind_check s.plan s.core a) (write_byte a b s.core) (honest_kind a (has_bit 16 (page_at s.plan a).bits)) still)
  lawful (recall k n) = law_recall k n (due s.core k n) refl
