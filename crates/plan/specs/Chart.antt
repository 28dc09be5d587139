-- The rule of the chart. Assumes nothing.
use Rattle.std.specs.Prelude.{ℕ, ◌/◌, ◌%◌, Bool, true, false, if◌then◌else◌, not, ◌||◌, [], ◌∷◌, Some, None, Option, ◌==◌, nat_le, slice_index_or}
use Rattle.fault.specs.Levels.{rank_of}
use Rattle.fault.specs.Refusals.{number_of}
use Rattle.fault.specs.declared.level.Level.{Level}
use Rattle.fault.specs.declared.level.Level.TheVariants.{Nothing, Call, Read, Write}
use Rattle.fault.specs.declared.refusal.Refusal.{Refusal}
use Rattle.fault.specs.declared.refusal.Refusal.TheVariants.{WrongPageKind, MissingBit, LevelTooLow, NotADoor}
use Rattle.plan.specs.declared.chart.Question.{Question}
use Rattle.plan.specs.declared.chart.Question.TheVariants.{Load, Store, Fetch, Keep, Door, Elsewhere}

-- whether a sum of bits holds the bit of that worth: R 1, W 2, X 4, P 8, S 16
abbrev pub has_bit : ℕ → ℕ → Bool
has_bit worth bits = bits / worth % 2 == 1

-- the kind of page first, then the bit, then the level
abbrev pub access_of : Bool → Bool → Bool → Option Refusal
access_of kind bit high =
    if kind then (if bit then (if high then None else Some LevelTooLow) else Some MissingBit) else Some WrongPageKind

abbrev pub entry_of : Bool → Level → Bool → Option Refusal
entry_of x level door =
    if x then (if nat_le 1 (rank_of level) then (if door || nat_le 2 (rank_of level) then None else Some NotADoor) else Some LevelTooLow) else Some MissingBit

-- what is refused of a page with these bits at this level, if anything is
abbrev pub decision : ℕ → Level → Question → Option Refusal
decision bits level Load = access_of (not (has_bit 16 bits)) (has_bit 1 bits) (nat_le 2 (rank_of level))
decision bits level Store = access_of (not (has_bit 16 bits)) (has_bit 2 bits) (nat_le 3 (rank_of level))
decision bits level Fetch = access_of (has_bit 16 bits) (has_bit 1 bits) (nat_le 2 (rank_of level))
decision bits level Keep = access_of (has_bit 16 bits) (has_bit 2 bits) (nat_le 3 (rank_of level))
decision bits level Door = entry_of (has_bit 4 bits) level true
decision bits level Elsewhere = entry_of (has_bit 4 bits) level false

abbrev pub question_number : Question → ℕ
question_number Load = 0
question_number Store = 1
question_number Fetch = 2
question_number Keep = 3
question_number Door = 4
question_number Elsewhere = 5

-- a printed answer: 0, or the refusal's number
abbrev pub answer_of : Option Refusal → ℕ
answer_of None = 0
answer_of (Some r) = number_of r

abbrev pub refusal_of : ℕ → Option Refusal
refusal_of n =
    if n == 8 then Some WrongPageKind else if n == 9 then Some MissingBit else if n == 10 then Some LevelTooLow else if n == 11 then Some NotADoor else None

-- levels and questions by their numbers
abbrev pub level_no : ℕ → Level
level_no n = slice_index_or (Nothing ∷ Call ∷ Read ∷ Write ∷ []) n Nothing

abbrev pub question_no : ℕ → Question
question_no n = slice_index_or (Load ∷ Store ∷ Fetch ∷ Keep ∷ Door ∷ Elsewhere ∷ []) n Load

-- entry k of the chart
abbrev pub charted : ℕ → ℕ
charted k = answer_of (decision (k / 24) (level_no (k / 6 % 4)) (question_no (k % 6)))
