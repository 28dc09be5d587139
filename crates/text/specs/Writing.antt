-- How a plan and a trace are written, and what they mean. Assumes nothing.
use Rattle.std.specs.Prelude.{◌≡◌, ℕ, ◌^◌, ◌<◌, ◌≤◌, List, [], ◌∷◌, ◌++◌, map, length, Ok, Err, decimal, Result}
use Rattle.fault.specs.declared.refusal.Refusal.{Refusal}
use Rattle.std.specs.List.{AllByRecursion}
use Rattle.text.specs.Sections.{names_of, width_of}
use Rattle.text.specs.Sheets.{Task, empty, letter_of, longest_of, take_row, with_memory}
use Rattle.text.specs.Splitting.{ended, glued}
use Rattle.text.specs.declared.job.Make.{Make}
use Rattle.text.specs.declared.sections.Section.{Section}
use Rattle.text.specs.declared.sections.Section.TheVariants.{Memory, Pages, Entries, Counters, Trace}

-- the memory, and the rows of the other four sections
pub record Content : Type 0 where
  pub make : Make
  pub size : ℕ
  pub pages : List (List ℕ)
  pub entries : List (List ℕ)
  pub counters : List (List ℕ)
  pub trace : List (List ℕ)

-- one space between two words
abbrev pub row : List ℕ → List ℕ
row ns = glued 32 (map decimal ns)

abbrev pub memory_row : Make → ℕ → List ℕ
memory_row make size = glued 32 (letter_of make ∷ decimal size ∷ [])

-- a names line and its rows
abbrev pub section : Section → List (List ℕ) → List (List ℕ)
section s rows = names_of s ∷ map row rows

-- a blank line between two sections
abbrev pub lines_by : Content → List (List ℕ)
lines_by c =
    names_of Memory ∷ memory_row c.make c.size ∷ []
    ∷ (section Pages c.pages ++ [] ∷ (section Entries c.entries ++ [] ∷ (section Counters c.counters ++ [] ∷ section Trace c.trace)))

abbrev pub written : Content → List ℕ
written c = ended (lines_by c)

-- a row has its section's count of numbers, and a memory is as long as its make allows
abbrev pub Fits : Section → List ℕ → Type 0
Fits s ns = (length ns ≡ width_of s) × AllByRecursion (λ n. n < 2 ^ 32) ns

pub record Regular (c : Content) : Type 0 where
  pub memory : c.size ≤ longest_of c.make
  pub pages : AllByRecursion (Fits Pages) c.pages
  pub entries : AllByRecursion (Fits Entries) c.entries
  pub counters : AllByRecursion (Fits Counters) c.counters
  pub trace : AllByRecursion (Fits Trace) c.trace

abbrev pub and_then : Result Task Refusal → (Task → Result Task Refusal) → Result Task Refusal
and_then (Ok t) rest = rest t
and_then (Err refusal) rest = Err refusal

abbrev pub take_rows : Section → Task → List (List ℕ) → Result Task Refusal
take_rows s t [] = Ok t
take_rows s t (r ∷ rs) = and_then (take_row s t r) (λ u. take_rows s u rs)

-- every row is taken, in order
abbrev pub meaning : Content → Result Task Refusal
meaning c =
    and_then (take_rows Pages (with_memory c.make c.size empty) c.pages)
    (λ t. and_then (take_rows Entries t c.entries) (λ u. and_then (take_rows Counters u c.counters) (λ v. take_rows Trace v c.trace)))
