-- A record of eight bytes: code, a, b, c, then the number v in four, low byte first. Assumes nothing.
use Rattle.std.specs.Prelude.{◌≡◌, ℕ, ◌<◌, ◌^◌, ◌+◌, ◌*◌, ◌/◌, ◌%◌, Bool, true, if◌then◌else◌, not, ◌&&◌, List, [], ◌∷◌, length, Some, None, Ok, Err, Option, Result, ◌==◌, nat_le, nat_lt, slice_index}
use Rattle.std.specs.Option.{ok_or}
use Rattle.fault.specs.declared.refusal.Refusal.{Refusal}
use Rattle.fault.specs.declared.refusal.Refusal.TheVariants.{RecordLength, UnknownCode, FieldRange}
use Rattle.instruction.specs.declared.decode.Decoded.{Decoded}
use Rattle.instruction.specs.declared.form.Field.{Field}
use Rattle.instruction.specs.declared.form.Field.TheVariants.{Unused, Register, Counter, Any, Grant, Part}
use Rattle.instruction.specs.declared.form.Form.{Form}
use Rattle.instruction.specs.declared.op.Op.{Op}
use Rattle.instruction.specs.declared.op.Op.TheVariants.{Set, Add, Load, Store, Jump, Call, Return, Branch, Make, Cut, Drop, Push, Pop, Keep, Fetch, Revoke, Panel}
use Rattle.instruction.specs.declared.record.Record.{Record}

-- the instruction of a code, 1 to 17
abbrev pub op_of : ℕ → Option Op
op_of code =
    if code == 1 then Some Set
    else if code == 2 then Some Add
    else if code == 3 then Some Load
    else if code == 4 then Some Store
    else if code == 5 then Some Jump
    else if code == 6 then Some Call
    else if code == 7 then Some Return
    else if code == 8 then Some Branch
    else if code == 9 then Some Make
    else if code == 10 then Some Cut
    else if code == 11 then Some Drop
    else if code == 12 then Some Push
    else if code == 13 then Some Pop
    else if code == 14 then Some Keep
    else if code == 15 then Some Fetch
    else if code == 16 then Some Revoke
    else if code == 17 then Some Panel
    else None

-- that instruction, or the refusal of a code that names none
abbrev pub op_named : ℕ → Result Op Refusal
op_named code = ok_or (op_of code) UnknownCode

abbrev pub fields : Field → Field → Field → Field → Form
fields a b c v = record { a = a; b = b; c = c; v = v }

-- the fields of each instruction
abbrev pub form_of : Op → Form
form_of Set = fields Register Unused Unused Any
form_of Add = fields Register Register Unused Unused
form_of Load = fields Register Register Unused Any
form_of Store = fields Register Register Unused Any
form_of Jump = fields Unused Unused Unused Any
form_of Call = fields Unused Unused Unused Any
form_of Return = fields Unused Unused Unused Unused
form_of Branch = fields Register Unused Unused Any
form_of Make = fields Register Register Register Grant
form_of Cut = fields Register Register Register Part
form_of Drop = fields Register Unused Unused Unused
form_of Push = fields Register Unused Unused Unused
form_of Pop = fields Register Unused Unused Unused
form_of Keep = fields Register Register Unused Any
form_of Fetch = fields Register Register Unused Any
form_of Revoke = fields Counter Unused Unused Unused
form_of Panel = fields Register Unused Unused Unused

-- the numbers that a field may have
abbrev pub fits : Field → ℕ → Bool
fits Unused n = n == 0
fits Register n = nat_lt n 8
fits Counter n = nat_le 1 n && nat_le n 16
fits Any n = true
fits Grant n = not (n % 4 == 0) && nat_le (n / 4) 16
fits Part n = not (n % 4 == 0) && nat_lt (n / 4) 8

abbrev pub fitting : Decoded → Bool
fitting d =
    fits (form_of d.op).a d.a && (fits (form_of d.op).b d.b && (fits (form_of d.op).c d.c && fits (form_of d.op).v d.v))

-- the code first, then the fields
abbrev pub shaped : Option Op → ℕ → ℕ → ℕ → ℕ → Result Decoded Refusal
shaped None a b c v = Err UnknownCode
shaped (Some op) a b c v =
    if fitting (record { op = op; a = a; b = b; c = c; v = v }) then Ok (record { op = op; a = a; b = b; c = c; v = v }) else Err FieldRange

abbrev pub number : List ℕ → ℕ
number bs = slice_index bs 4 + slice_index bs 5 * 256 + slice_index bs 6 * 65536 + slice_index bs 7 * 16777216

abbrev pub decoded : List ℕ → Result Decoded Refusal
decoded bs =
    if length bs == 8 then shaped (op_of (slice_index bs 0)) (slice_index bs 1) (slice_index bs 2) (slice_index bs 3) (number bs) else Err RecordLength

-- the eight bytes of a record
abbrev pub encoded : Record → List ℕ
encoded r =
    r.op ∷ r.a ∷ r.b ∷ r.c ∷ (r.v % 256) ∷ (r.v / 256 % 256) ∷ (r.v / 65536 % 256) ∷ (r.v / 16777216 % 256) ∷ []

-- what a record writes is read back as its fields
abbrev pub ReadBack : Type 0
ReadBack = (r : Record) → r.v < 2 ^ 32 → decoded (encoded r) ≡ shaped (op_of r.op) r.a r.b r.c r.v
