-- What has been read so far, and what one row adds to it. Assumes nothing.
use Rattle.std.specs.Prelude.{◌≡◌, ℕ, if◌then◌else◌, ◌&&◌, List, [], ◌∷◌, ◌++◌, Some, None, Ok, Err, codes, Option, Result, nat_le, slice_index}
use Rattle.fault.specs.declared.refusal.Refusal.{Refusal}
use Rattle.fault.specs.declared.refusal.Refusal.TheVariants.{BadText}
use Rattle.plan.specs.Drafting.{Drafted, blank, draft_counter, draft_entry, draft_page}
use Rattle.std.specs.Str.{bytes_eq}
use Rattle.text.specs.Numbers.{fields_of}
use Rattle.text.specs.Sections.{width_of}
use Rattle.text.specs.Splitting.{pieces}
use Rattle.text.specs.declared.job.Make.{Make}
use Rattle.text.specs.declared.job.Make.TheVariants.{Flat, Nibble}
use Rattle.instruction.specs.declared.record.Record.{Record}
use Rattle.text.specs.declared.sections.Section.{Section}
use Rattle.text.specs.declared.sections.Section.TheVariants.{Memory, Pages, Entries, Counters, Trace}

-- a memory, a draft and the records
pub record Task : Type 0 where
  pub make : Make
  pub size : ℕ
  pub draft : Drafted
  pub records : List Record

abbrev pub empty : Task
empty = record { make = Flat; size = 0; draft = blank; records = [] }

abbrev pub with_memory : Make → ℕ → Task → Task
with_memory make size t = record { make = make; size = size; draft = t.draft; records = t.records }

abbrev pub with_draft : Drafted → Task → Task
with_draft d t = record { make = t.make; size = t.size; draft = d; records = t.records }

abbrev pub with_record : Record → Task → Task
with_record r t = record { make = t.make; size = t.size; draft = t.draft; records = t.records ++ r ∷ [] }

-- the memory's letter and its size
abbrev pub longest_of : Make → ℕ
longest_of Flat = 32768
longest_of Nibble = 16384

abbrev pub letter_of : Make → List ℕ
letter_of Flat = codes "F"
letter_of Nibble = codes "N"

abbrev pub make_named : List ℕ → Option Make
make_named w = if bytes_eq w (letter_of Flat) then Some Flat else (if bytes_eq w (letter_of Nibble) then Some Nibble else None)

abbrev pub sized_task : Task → Make → ℕ → Result Task Refusal
sized_task t make size = if nat_le size (longest_of make) then Ok (with_memory make size t) else Err BadText

abbrev pub made_task : Task → Option Make → Option (List ℕ) → Result Task Refusal
made_task t None fs = Err BadText
made_task t (Some make) None = Err BadText
made_task t (Some make) (Some fs) = sized_task t make (slice_index fs 0)

abbrev pub memory_words : Task → List (List ℕ) → Result Task Refusal
memory_words t [] = Err BadText
memory_words t (w ∷ ws) = made_task t (make_named w) (fields_of (width_of Memory) ws)

-- a record's first four fields are bytes
abbrev pub record_of : List ℕ → Record
record_of fs = record { op = slice_index fs 0; a = slice_index fs 1; b = slice_index fs 2; c = slice_index fs 3; v = slice_index fs 4 }

abbrev pub record_task : Task → Record → Result Task Refusal
record_task t r =
    if nat_le r.op 255 && (nat_le r.a 255 && (nat_le r.b 255 && nat_le r.c 255)) then Ok (with_record r t) else Err BadText

abbrev pub draft_task : Task → Result Drafted Refusal → Result Task Refusal
draft_task t (Ok d) = Ok (with_draft d t)
draft_task t (Err refusal) = Err refusal

-- what a row of numbers does in its section
abbrev pub take_row : Section → Task → List ℕ → Result Task Refusal
take_row Memory t fs = Err BadText
take_row Pages t fs = draft_task t (draft_page t.draft (slice_index fs 0) (slice_index fs 1) (slice_index fs 2))
take_row Entries t fs = draft_task t (draft_entry t.draft (slice_index fs 0) (slice_index fs 1) (slice_index fs 2))
take_row Counters t fs = draft_task t (draft_counter t.draft (slice_index fs 0) (slice_index fs 1))
take_row Trace t fs = record_task t (record_of fs)

-- the text first: a line that is not just the section's numbers is refused before the draft is asked
abbrev pub take_fields : Section → Task → Option (List ℕ) → Result Task Refusal
take_fields s t None = Err BadText
take_fields s t (Some fs) = take_row s t fs

abbrev pub row_of : Section → Task → List ℕ → Result Task Refusal
row_of s t line = take_fields s t (fields_of (width_of s) (pieces 32 line))

abbrev pub memory_of : Task → List ℕ → Result Task Refusal
memory_of t line = memory_words t (pieces 32 line)

-- what a step answers, and what it leaves
abbrev pub answer_of : {X : Type 0} → Result X Refusal → Result Unit Refusal
answer_of (Ok x) = Ok tt
answer_of (Err refusal) = Err refusal

abbrev pub after_of : {X : Type 0} → X → Result X Refusal → X
after_of x (Ok y) = y
after_of x (Err refusal) = x

-- a step from s to t answers as the rule r says, and leaves what r leaves: s where r refuses
pub record Takes {X : Type 0} (s t : X) (answered : Result Unit Refusal) (r : Result X Refusal) : Type 0 where
  pub answer : answered ≡ answer_of r
  pub after : t ≡ after_of s r
