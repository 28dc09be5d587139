-- The seventeen instructions: each one's checks in order, then its effect and its value. Assumes nothing.
use Rattle.std.specs.Prelude.{ℕ, ◌+◌, ◌-◌, ◌*◌, ◌/◌, ◌%◌, ◌^◌, max, Bool, true, false, if◌then◌else◌, not, ◌&&◌, ◌||◌, List, [], ◌∷◌, ◌++◌, map, length, take, ℤ, pos, negsuc, ◌+ℤ◌, ◌*ℤ◌, Some, None, Ok, Err, Option, Result, ◌==◌, nat_le, nat_lt, slice_index_or}
use Rattle.std.specs.Int.{w32}
use Rattle.std.proofs.Common.{to_z}
use Rattle.capability.specs.Holdings.{after, empty, fresh, granted, reading_of}
use Rattle.capability.specs.declared.counter.Counter.{Counter}
use Rattle.capability.specs.declared.holding.Event.TheVariants.{Returned, Dropped, Took}
use Rattle.capability.specs.declared.holding.Holding.{Holding}
use Rattle.capability.specs.declared.holding.Holding.TheVariants.{Empty, Short, Counted}
use Rattle.capability.specs.declared.right.Right.{Right}
use Rattle.fault.specs.Faults.{access_fault, bare_fault}
use Rattle.fault.specs.Levels.{level_named, rank_of}
use Rattle.fault.specs.declared.level.Level.{Level}
use Rattle.fault.specs.declared.level.Level.TheVariants.{Nothing}
use Rattle.fault.specs.declared.refusal.Refusal.{Refusal}
use Rattle.fault.specs.declared.refusal.Refusal.TheVariants.{PageEnd, AddressRange, LevelTooLow, DeadSource}
use Rattle.instruction.specs.Decoding.{decoded}
use Rattle.instruction.specs.declared.decode.Decoded.{Decoded}
use Rattle.instruction.specs.declared.op.Op.{Op}
use Rattle.instruction.specs.declared.op.Op.TheVariants.{Set, Add, Load, Store, Jump, Call, Return, Branch, Make, Cut, Drop, Push, Pop, Keep, Fetch, Revoke, Panel}
use Rattle.machine.specs.Actions.{Action, check, go, read_byte, refuse, write_byte}
use Rattle.machine.specs.Checks.{Check, above_floor, access_at, and_then, byte_check, demand, entrance, frame_room, frame_there, lasts, listed, owned_by, privileged, slot_check, span_check, stack_room, unspent}
use Rattle.machine.specs.State.{Core, EngineState, counted, depth, height, holding, moved, no_frame, on, place_of, run, shown, slotted, stacked, tag_now, told, value, valued}
use Rattle.machine.specs.declared.frame.Frame.{Frame}
use Rattle.plan.specs.Tables.{Planned, slot_at}
use Rattle.plan.specs.declared.chart.Question.TheVariants.{Load as AskLoad, Store as AskStore, Fetch as AskFetch, Keep as AskKeep}
use Rattle.std.specs.List.{find, range_with_len}
use Rattle.std.specs.Option.{unwrap_or}

-- 1 SET: register a becomes v
abbrev pub set_rule : Core → ℕ → ℕ → Action
set_rule c a v = go (valued a v (on c)) v

-- 2 ADD: a becomes a + b, wrapping at 32 bits
abbrev pub sum : Core → ℕ → ℕ → ℕ
sum c a b = (value c a + value c b) % 2 ^ 32

abbrev pub add_rule : Core → ℕ → ℕ → Action
add_rule c a b = go (valued a (sum c a b) (on c)) (sum c a b)

-- 3 LOAD: a becomes the byte at; 5, chart, 6
abbrev pub load_rule : Planned → Core → ℕ → ℕ → Action
load_rule p c a at = check (byte_check p c AskLoad at) (read_byte at a (on c))

-- 4 STORE: a's low byte goes to at; 5, chart, 6
abbrev pub store_rule : Planned → Core → ℕ → ℕ → Action
store_rule p c a at = check (byte_check p c AskStore at) (write_byte at (value c a % 256) (on c))

-- 5 JUMP: to a place; 5, 7, chart
abbrev pub jump_rule : Planned → Core → ℕ → Action
jump_rule p c to = check (entrance p c to) (go (moved to c) 0)

-- 6 CALL: as JUMP, then 12; the frame keeps the next place and the floor, and the floor becomes the height
abbrev pub frame_now : EngineState → Frame
frame_now e = record { place = e.place + 4; floor = e.floor }

abbrev pub called_engine : ℕ → EngineState → EngineState
called_engine to e = record { place = to; values = e.values; registers = e.registers; frames = e.frames ++ frame_now e ∷ []; stack = e.stack; floor = length e.stack }

abbrev pub call_rule : Planned → Core → ℕ → Action
call_rule p c to = check (entrance p c to) (check (frame_room c) (go (run (called_engine to c.engine) c) 0))

-- 7 RETURN: 13; the stack is cut to the floor, the frame's place and floor come back, and short capabilities made deeper are emptied
abbrev pub top_frame : EngineState → Frame
top_frame e = slice_index_or e.frames (length e.frames - 1) no_frame

abbrev pub returned_engine : EngineState → EngineState
returned_engine e = record {
  place = (top_frame e).place;
  values = e.values;
  registers = map (λ h. after h (Returned (length e.frames - 1))) e.registers;
  frames = take (length e.frames - 1) e.frames;
  stack = take e.floor e.stack;
  floor = (top_frame e).floor;
}

abbrev pub return_rule : Core → Action
return_rule c = check (frame_there c) (go (run (returned_engine c.engine) c) 0)

-- 8 BRANCH: if a is 0, as JUMP to place + 4d, where v is d in signed 32-bit two's complement
abbrev pub natural : ℤ → Option ℕ
natural (pos n) = Some n
natural (negsuc n) = None

unfoldable pub target : ℕ → ℕ → Option ℕ
target place v = natural (pos place +ℤ (pos 4 *ℤ to_z w32 v))

abbrev pub landing : Planned → Core → Option ℕ → Action
landing p c None = refuse (bare_fault AddressRange (place_of c))
landing p c (Some to) = jump_rule p c to

abbrev pub branch_rule : Planned → Core → ℕ → ℕ → Action
branch_rule p c a v = if value c a == 0 then landing p c (target (place_of c) v) else go (on c) 0

-- 9 MAKE: 14; for a counted life 17 and 19; 10 at the lowest page whose list level is below the wanted one
abbrev pub right_of : ℕ → ℕ → Level → Right
right_of base size level = record { base = base; size = size; level = level }

abbrev pub life_check : Planned → Core → ℕ → Check
life_check p c life = if life == 0 then Ok tt else and_then (owned_by p c life (tag_now p c)) (unspent c life)

-- of n pages from page k on, the lowest for which tag t has less than the level
abbrev pub lowest_below : Planned → ℕ → Level → ℕ → ℕ → Option ℕ
lowest_below p t level k n = find (λ j. nat_lt (rank_of (listed p t (256 * j))) (rank_of level)) (range_with_len k n)

abbrev pub pages_touched : ℕ → ℕ → ℕ
pages_touched base size = (base + size - 1) / 256 + 1 - base / 256

abbrev pub list_judged : Planned → Core → ℕ → Option ℕ → Check
list_judged p c base None = Ok tt
list_judged p c base (Some k) = Err (access_fault LevelTooLow (place_of c) (access_at p (max base (256 * k)) (listed p (tag_now p c) (256 * k))))

abbrev pub list_check : Planned → Core → Right → Check
list_check p c x = list_judged p c x.base (lowest_below p (tag_now p c) x.level (x.base / 256) (pages_touched x.base x.size))

abbrev pub make_check : Planned → Core → Right → ℕ → Check
make_check p c x life = and_then (span_check c x.base x.size) (and_then (life_check p c life) (list_check p c x))

abbrev pub made : Core → Right → ℕ → Holding
made c right life = if life == 0 then Short right (depth c) else Counted right life (reading_of c.counters life)

abbrev pub make_rule : Planned → Core → ℕ → Right → ℕ → Action
make_rule p c a x life = check (make_check p c x life) (go (told a (Took (made c x life)) (on c)) 0)

-- 10 CUT: a part of a live source, keeping its life; 15, 14, 10
abbrev pub within : Right → Right → Bool
within x g = nat_le g.base x.base && (nat_le (x.base + x.size) (g.base + g.size) && nat_le (rank_of x.level) (rank_of g.level))

abbrev pub part_check : Planned → Core → Right → Right → Check
part_check p c x g = if within x g then Ok tt else Err (access_fault LevelTooLow (place_of c) (access_at p x.base g.level))

abbrev pub cut : Right → Holding → Holding
cut x Empty = Empty
cut x (Short g d) = Short x d
cut x (Counted g k n) = Counted x k n

abbrev pub cut_from : Planned → Core → ℕ → Right → Holding → Option Right → Action
cut_from p c a x h None = refuse (bare_fault DeadSource (place_of c))
cut_from p c a x h (Some g) =
    check (span_check c x.base x.size) (check (part_check p c x g) (go (told a (Took (cut x h)) (on c)) 0))

abbrev pub cut_rule : Planned → Core → ℕ → Right → ℕ → Action
cut_rule p c a x source = cut_from p c a x (holding c source) (granted c.counters (holding c source))

-- 11 DROP: empties capability a
abbrev pub drop_rule : Core → ℕ → Action
drop_rule c a = go (told a Dropped (on c)) 0

-- 12 PUSH: copies capability a to the stack; 12
abbrev pub push_rule : Core → ℕ → Action
push_rule c a = check (stack_room c) (go (stacked (c.engine.stack ++ holding c a ∷ []) (on c)) 0)

-- 13 POP: moves the top to a; 13 at the floor
abbrev pub pop_rule : Core → ℕ → Action
pop_rule c a =
    check (above_floor c) (go (told a (Took (slice_index_or c.engine.stack (height c - 1) empty)) (stacked (take (height c - 1) c.engine.stack) (on c))) 0)

-- 14 KEEP: copies capability a to the slot at; 5, 7, chart, 16
abbrev pub kept : Option ℕ → Holding → Core → Core
kept None h c = c
kept (Some i) h c = slotted i h c

abbrev pub keep_rule : Planned → Core → ℕ → ℕ → Action
keep_rule p c a at =
    check (slot_check p c AskKeep at) (check (lasts c (holding c a)) (go (kept (slot_at p at) (holding c a) (on c)) 0))

-- 15 FETCH: copies the slot's content to a; 5, 7, chart
abbrev pub content : Core → Option ℕ → Holding
content c None = Empty
content c (Some i) = slice_index_or c.slots i empty

abbrev pub fetch_rule : Planned → Core → ℕ → ℕ → Action
fetch_rule p c a at = check (slot_check p c AskFetch at) (go (told a (Took (content c (slot_at p at))) (on c)) 0)

-- 16 REVOKE: counter k grows by 1; 17, 19
abbrev pub raised_counter : Counter → Counter
raised_counter x = record { reading = x.reading + 1; out = x.out }

abbrev pub revoke_rule : Planned → Core → ℕ → Action
revoke_rule p c k =
    check (owned_by p c k (tag_now p c)) (check (unspent c k)
    (go (counted k (raised_counter (slice_index_or c.counters k fresh)) (on c)) (reading_of c.counters k + 1)))

-- 17 PANEL: shows value a; 18
abbrev pub panel_rule : Planned → Core → ℕ → Action
panel_rule p c a = check (privileged p c) (go (shown (value c a) (on c)) (value c a))

abbrev pub wanted : ℕ → Level
wanted v = unwrap_or (level_named (v % 4)) Nothing

abbrev pub row : Planned → Core → Op → ℕ → ℕ → ℕ → ℕ → Action
row p c Set a b d v = set_rule c a v
row p c Add a b d v = add_rule c a b
row p c Load a b d v = load_rule p c a (value c b + v)
row p c Store a b d v = store_rule p c a (value c b + v)
row p c Jump a b d v = jump_rule p c v
row p c Call a b d v = call_rule p c v
row p c Return a b d v = return_rule c
row p c Branch a b d v = branch_rule p c a v
row p c Make a b d v = make_rule p c a (right_of (value c b) (value c d) (wanted v)) (v / 4)
row p c Cut a b d v = cut_rule p c a (right_of (value c b) (value c d) (wanted v)) (v / 4)
row p c Drop a b d v = drop_rule c a
row p c Push a b d v = push_rule c a
row p c Pop a b d v = pop_rule c a
row p c Keep a b d v = keep_rule p c a (value c b + v)
row p c Fetch a b d v = fetch_rule p c a (value c b + v)
row p c Revoke a b d v = revoke_rule p c a
row p c Panel a b d v = panel_rule p c a

-- check 4: at the page's last place only JUMP, RETURN and a taken BRANCH go on
abbrev pub leaves : Core → Op → ℕ → Bool
leaves c Set a = false
leaves c Add a = false
leaves c Load a = false
leaves c Store a = false
leaves c Jump a = true
leaves c Call a = false
leaves c Return a = true
leaves c Branch a = value c a == 0
leaves c Make a = false
leaves c Cut a = false
leaves c Drop a = false
leaves c Push a = false
leaves c Pop a = false
leaves c Keep a = false
leaves c Fetch a = false
leaves c Revoke a = false
leaves c Panel a = false

abbrev pub has_room : Core → Op → ℕ → Bool
has_room c op a = not (place_of c % 256 == 252) || leaves c op a

abbrev pub room_check : Core → Op → ℕ → Check
room_check c op a = demand c PageEnd (has_room c op a)

-- OBEY: 1 to 3 by the decoder, 4, then the row
abbrev pub obey_decoded : Planned → Core → Result Decoded Refusal → Action
obey_decoded p c (Err refusal) = refuse (bare_fault refusal (place_of c))
obey_decoded p c (Ok d) = check (room_check c d.op d.a) (row p c d.op d.a d.b d.c d.v)

abbrev pub obey_rule : Planned → Core → List ℕ → Action
obey_rule p c bs = obey_decoded p c (decoded bs)
