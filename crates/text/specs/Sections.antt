-- The table of the sections: their names, how many numbers a row has, and what follows. Assumes nothing.
use Rattle.std.specs.Prelude.{ℕ, Bool, true, false, List, codes}
use Rattle.text.specs.declared.sections.Section.{Section}
use Rattle.text.specs.declared.sections.Section.TheVariants.{Memory, Pages, Entries, Counters, Trace}

abbrev pub names_of : Section → List ℕ
names_of Memory = codes "memory size"
names_of Pages = codes "page tag bits"
names_of Entries = codes "tag to level"
names_of Counters = codes "counter owner"
names_of Trace = codes "op a b c v"

-- how many numbers a row holds; in the memory's row they stand behind a letter
abbrev pub width_of : Section → ℕ
width_of Memory = 1
width_of Pages = 3
width_of Entries = 3
width_of Counters = 2
width_of Trace = 5

-- whether a blank line closes the rows: the memory has just one, and the trace ends with the text
abbrev pub blank_closes : Section → Bool
blank_closes Memory = false
blank_closes Pages = true
blank_closes Entries = true
blank_closes Counters = true
blank_closes Trace = false

-- the section behind this one; the trace is the last
abbrev pub next_of : Section → Section
next_of Memory = Pages
next_of Pages = Entries
next_of Entries = Counters
next_of Counters = Trace
next_of Trace = Trace
