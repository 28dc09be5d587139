-- The number and the layer of every refusal. Assumes nothing.
use Rattle.std.specs.Prelude.{ℕ}
use Rattle.fault.specs.declared.refusal.Layer.{Layer}
use Rattle.fault.specs.declared.refusal.Layer.TheVariants.{Record, Page, Memory, Right, Stack, Owner, Draft, Map, Text}
use Rattle.fault.specs.declared.refusal.Refusal.{Refusal}
use Rattle.fault.specs.declared.refusal.Refusal.TheVariants.{RecordLength, UnknownCode, FieldRange, PageEnd, AddressRange, OutsideMemory, Misaligned, WrongPageKind, MissingBit, LevelTooLow, NotADoor, StackFull, StackEmpty, BadSpan, DeadSource, ShortLife, NotOwner, NotPrivileged, CounterSpent, CounterOut, DraftNumber, DraftTag, DraftBits, DraftRepeat, DraftFull, MapStorage, BadText}

abbrev pub number_of : Refusal → ℕ
number_of RecordLength = 1
number_of UnknownCode = 2
number_of FieldRange = 3
number_of PageEnd = 4
number_of AddressRange = 5
number_of OutsideMemory = 6
number_of Misaligned = 7
number_of WrongPageKind = 8
number_of MissingBit = 9
number_of LevelTooLow = 10
number_of NotADoor = 11
number_of StackFull = 12
number_of StackEmpty = 13
number_of BadSpan = 14
number_of DeadSource = 15
number_of ShortLife = 16
number_of NotOwner = 17
number_of NotPrivileged = 18
number_of CounterSpent = 19
number_of CounterOut = 20
number_of DraftNumber = 21
number_of DraftTag = 22
number_of DraftBits = 23
number_of DraftRepeat = 24
number_of DraftFull = 25
number_of MapStorage = 26
number_of BadText = 27

abbrev pub layer_of : Refusal → Layer
layer_of RecordLength = Record
layer_of UnknownCode = Record
layer_of FieldRange = Record
layer_of PageEnd = Record
layer_of AddressRange = Page
layer_of OutsideMemory = Memory
layer_of Misaligned = Page
layer_of WrongPageKind = Page
layer_of MissingBit = Page
layer_of LevelTooLow = Right
layer_of NotADoor = Right
layer_of StackFull = Stack
layer_of StackEmpty = Stack
layer_of BadSpan = Right
layer_of DeadSource = Right
layer_of ShortLife = Right
layer_of NotOwner = Owner
layer_of NotPrivileged = Owner
layer_of CounterSpent = Owner
layer_of CounterOut = Owner
layer_of DraftNumber = Draft
layer_of DraftTag = Draft
layer_of DraftBits = Draft
layer_of DraftRepeat = Draft
layer_of DraftFull = Draft
layer_of MapStorage = Map
layer_of BadText = Text
