-- What a refusal leaves and tells. Assumes nothing.
use Rattle.std.specs.Prelude.{◌≡◌, ◌≤◌, length, Ok, Err, Result}
use Rattle.fault.specs.Refusals.{layer_of}
use Rattle.fault.specs.declared.refusal.Refusal.{Refusal}
use Rattle.fault.specs.declared.refusal.Refusal.TheVariants.{RecordLength, UnknownCode, FieldRange, PageEnd, AddressRange, OutsideMemory, Misaligned, WrongPageKind, MissingBit, LevelTooLow, NotADoor, StackFull, StackEmpty, BadSpan, DeadSource, ShortLife, NotOwner, NotPrivileged, CounterSpent, CounterOut, DraftNumber, DraftTag, DraftBits, DraftRepeat, DraftFull, MapStorage, BadText}
use Rattle.fault.specs.declared.report.Cause.{Cause}
use Rattle.fault.specs.declared.report.Cause.TheVariants.{Access as OfAccess, Memory as OfMemory, Bare}
use Rattle.fault.specs.declared.report.Fault.{Fault}
use Rattle.machine.specs.State.{State, place_of}
use Rattle.machine.specs.declared.answer.Done.{Done}
use Rattle.plan.specs.Tables.{tag_at}

-- the kinds of cause, and the kind that each refusal has: access for 8 to 11, memory for 6, else bare
pub data Kind : Type 0 where
  access : Kind
  memory : Kind
  bare : Kind

abbrev pub kind_of : Cause → Kind
kind_of (OfAccess x) = access
kind_of (OfMemory x) = memory
kind_of Bare = bare

abbrev pub kind_for : Refusal → Kind
kind_for RecordLength = bare
kind_for UnknownCode = bare
kind_for FieldRange = bare
kind_for PageEnd = bare
kind_for AddressRange = bare
kind_for OutsideMemory = memory
kind_for Misaligned = bare
kind_for WrongPageKind = access
kind_for MissingBit = access
kind_for LevelTooLow = access
kind_for NotADoor = access
kind_for StackFull = bare
kind_for StackEmpty = bare
kind_for BadSpan = bare
kind_for DeadSource = bare
kind_for ShortLife = bare
kind_for NotOwner = bare
kind_for NotPrivileged = bare
kind_for CounterSpent = bare
kind_for CounterOut = bare
kind_for DraftNumber = bare
kind_for DraftTag = bare
kind_for DraftBits = bare
kind_for DraftRepeat = bare
kind_for DraftFull = bare
kind_for MapStorage = bare
kind_for BadText = bare

-- an access tells the tag of its address's page; the memory tells its size and an address past it
abbrev pub CauseTrue : State → Cause → Type 0
CauseTrue s (OfAccess x) = x.tag ≡ tag_at s.plan x.address
CauseTrue s (OfMemory x) = (x.size ≡ length s.bytes) × (x.size ≤ x.address)
CauseTrue s Bare = Unit {0}

-- a fault tells the present place, its refusal's layer, and a true cause of its refusal's kind
pub record Told (s : State) (f : Fault) : Type 0 where
  pub place : f.place ≡ place_of s.core
  pub layer : f.layer ≡ layer_of f.refusal
  pub kind : kind_of f.cause ≡ kind_for f.refusal
  pub cause : CauseTrue s f.cause

-- a refused call leaves everything as it was, and its fault tells the truth
abbrev pub Refuses : State → State → Result Done Fault → Type 0
Refuses s t (Ok d) = Unit {0}
Refuses s t (Err f) = (t ≡ s) × Told s f
