-- Accepted lines part into the sections. Assumes nothing.
use Rattle.std.proofs.Common.{◌≡◌, ℕ, ◌+◌, ◌≤◌, Bool, true, false, cond, ◌&&◌, List, [], ◌∷◌, ◌++◌, map, length, Ok, Err, sym, refl, ap, ◌∙◌}
use Rattle.fault.specs.declared.refusal.Refusal.TheVariants.{BadText}
use Rattle.std.proofs.lemmas.Slice.Eq.{bytes_eq-Decides}
use Rattle.std.proofs.lemmas.List.{nil_from_length}
use Rattle.std.proofs.lemmas.Bool.{eqb-true}
use Rattle.std.specs.List.{AllByRecursion}
use Rattle.std.specs.Str.{bytes_eq}
use Rattle.text.specs.Reading.{State, at, demand_line, ending, is_blank, may_end, moved, onward, read_from, refused_at, row_at, step_at, step_line}
use Rattle.text.specs.Sections.{blank_closes, names_of, next_of}
use Rattle.text.specs.Sheets.{Task, empty, longest_of, memory_of, row_of, take_row, with_memory}
use Rattle.text.specs.Splitting.{Line, closed, unclosed}
use Rattle.text.specs.Writing.{Fits, and_then, memory_row, row, section, take_rows}
use Rattle.text.specs.declared.job.Make.{Make}
use Rattle.text.specs.declared.sections.Section.{Section}
use Rattle.text.specs.declared.sections.Section.TheVariants.{Memory, Pages, Entries, Counters, Trace}
use Rattle.text.specs.declared.sections.Stage.TheVariants.{Names, Rows, Closed}
use Rattle.text.proofs.Accepting.{moved_ok, onward_ok}
use Rattle.text.proofs.Contrary.{never}
use Rattle.text.proofs.MemoryText.{memory_line}
use Rattle.text.proofs.RowText.{line_row}

-- an accepted text has no unclosed line
pub all_closed : (ls : List Line) (s : State) (n : ℕ) (task : Task) → read_from s n ls ≡ Ok task → (lines : List (List ℕ)) × (ls ≡ map closed lines)
all_closed [] s n task e = ([], refl)
all_closed (closed l ∷ ls) s n task e =
    let p = onward_ok n (step_line s l) (λ t. read_from t (n + 1) ls) task e in
    let q = all_closed ls p.0 (n + 1) task p.1.1 in
    (l ∷ q.0, ap (λ k. closed l ∷ k) q.1)
all_closed (unclosed l ∷ ls) s n task e = never (cc)

demand_ok : (b : Bool) (s u : State) → demand_line b s ≡ Ok u → (b ≡ true) × (s ≡ u)
demand_ok true s u e = (refl, cc)
demand_ok false s u e = never (cc)

blank-is : (line : List ℕ) → is_blank line ≡ true → line ≡ []
blank-is line e = nil_from_length line (eqb-true (length line) 0 e)

-- the lines begin with a line, behind which the reading goes on
pub record Begins (line : List ℕ) (s : State) (lines : List (List ℕ)) (task : Task) : Type 0 where
  pub rest : List (List ℕ)
  pub number : ℕ
  pub split : lines ≡ line ∷ rest
  pub goes : read_from s number (map closed rest) ≡ Ok task

begins : (line l : List ℕ) (s u : State) (ls : List (List ℕ)) (n : ℕ) (task : Task) → l ≡ line → s ≡ u → read_from u n (map closed ls) ≡ Ok task → Begins line s (l ∷ ls) task
begins line l s u ls n task e f h =
    record { rest = ls; number = n; split = ap (λ x. x ∷ ls) e; goes = ap (λ x. read_from x n (map closed ls)) f ∙ h }

pub part_names : (s : Section) (t : Task) (lines : List (List ℕ)) (n : ℕ) (task : Task) → read_from (at (Names s) t) n (map closed lines) ≡ Ok task → Begins (names_of s) (at (Rows s) t) lines task
part_names s t [] n task e = never (cc)
part_names s t (l ∷ ls) n task e =
    let p = onward_ok n (step_at (Names s) t l) (λ x. read_from x (n + 1) (map closed ls)) task e in
    let q = demand_ok (bytes_eq l (names_of s)) (at (Rows s) t) p.0 p.1.0 in
    begins (names_of s) l (at (Rows s) t) p.0 ls (n + 1) task ((bytes_eq-Decides l (names_of s)).0 q.0) q.1 p.1.1

pub part_blank : (s : Section) (t : Task) (lines : List (List ℕ)) (n : ℕ) (task : Task) → read_from (at (Closed s) t) n (map closed lines) ≡ Ok task → Begins [] (at (Names (next_of s)) t) lines task
part_blank s t [] n task e = never (cc)
part_blank s t (l ∷ ls) n task e =
    let p = onward_ok n (step_at (Closed s) t l) (λ x. read_from x (n + 1) (map closed ls)) task e in
    let q = demand_ok (is_blank l) (at (Names (next_of s)) t) p.0 p.1.0 in
    begins [] l (at (Names (next_of s)) t) p.0 ls (n + 1) task (blank-is l q.0) q.1 p.1.1

pub record BeginsMemory (t : Task) (lines : List (List ℕ)) (task : Task) : Type 0 where
  pub make : Make
  pub size : ℕ
  pub fits : size ≤ longest_of make
  pub behind : Begins (memory_row make size) (at (Closed Memory) (with_memory make size t)) lines task

pub part_memory : (t : Task) (lines : List (List ℕ)) (n : ℕ) (task : Task) → read_from (at (Rows Memory) t) n (map closed lines) ≡ Ok task → BeginsMemory t lines task
part_memory t [] n task e = never (cc)
part_memory t (l ∷ ls) n task e =
    let p = onward_ok n (step_at (Rows Memory) t l) (λ x. read_from x (n + 1) (map closed ls)) task e in
    let q = moved_ok (Closed Memory) (memory_of t l) p.0 p.1.0 in
    let m = memory_line t q.0 l q.1.0 in
    record {
      make = m.make;
      size = m.size;
      fits = m.fits;
      behind = begins (memory_row m.make m.size) l (at (Closed Memory) (with_memory m.make m.size t)) p.0 ls (n + 1) task m.line_is (ap (at (Closed Memory)) m.is ∙ q.1.1) p.1.1;
    }

-- the lines begin with rows, behind which the reading goes on
pub record BeginsRows (s : Section) (t : Task) (lines : List (List ℕ)) (task : Task) : Type 0 where
  pub rows : List (List ℕ)
  pub rest : List (List ℕ)
  pub to : Task
  pub number : ℕ
  pub split : lines ≡ map row rows ++ [] ∷ rest
  pub fits : AllByRecursion (Fits s) rows
  pub taken : take_rows s t rows ≡ Ok to
  pub goes : read_from (at (Names (next_of s)) to) number (map closed rest) ≡ Ok task

-- one line of a section is a row of it
pub record IsRow (s : Section) (t : Task) (line : List ℕ) (ls : List (List ℕ)) (task : Task) : Type 0 where
  pub ns : List ℕ
  pub to : Task
  pub number : ℕ
  pub line_is : line ≡ row ns
  pub fits : Fits s ns
  pub taken : take_row s t ns ≡ Ok to
  pub goes : read_from (at (Rows s) to) number (map closed ls) ≡ Ok task

is_row : (s : Section) (t : Task) (l : List ℕ) (ls : List (List ℕ)) (n : ℕ) (task : Task) → onward n (moved (Rows s) (row_of s t l)) (λ x. read_from x (n + 1) (map closed ls)) ≡ Ok task → IsRow s t l ls task
is_row s t l ls n task e =
    let p = onward_ok n (moved (Rows s) (row_of s t l)) (λ x. read_from x (n + 1) (map closed ls)) task e in
    let q = moved_ok (Rows s) (row_of s t l) p.0 p.1.0 in
    let r = line_row s t q.0 l q.1.0 in
    record {
      ns = r.0;
      to = q.0;
      number = n + 1;
      line_is = r.1.0;
      fits = r.1.1;
      taken = r.1.2;
      goes = ap (λ x. read_from x (n + 1) (map closed ls)) q.1.1 ∙ p.1.1;
    }

more_rows : (s : Section) (t : Task) (l : List ℕ) (ls : List (List ℕ)) (task : Task) (i : IsRow s t l ls task) → BeginsRows s i.to ls task → BeginsRows s t (l ∷ ls) task
more_rows s t l ls task i b = record {
  rows = i.ns ∷ b.rows;
  rest = b.rest;
  to = b.to;
  number = b.number;
  split = ap (λ x. x ∷ ls) i.line_is ∙ ap (λ x. row i.ns ∷ x) b.split;
  fits = (i.fits, b.fits);
  taken = ap (λ r. and_then r (λ u. take_rows s u b.rows)) i.taken ∙ b.taken;
  goes = b.goes;
}

module _ (s : Section) (plain : (t : Task) (line : List ℕ) → row_at s t line ≡ moved (Rows s) (row_of s t line)) (closing : blank_closes s ≡ true) (on : may_end (Rows s) ≡ false) where
  no_rows : (t : Task) (l : List ℕ) (ls : List (List ℕ)) (n : ℕ) (task : Task) → l ≡ [] → read_from (at (Names (next_of s)) t) n (map closed ls) ≡ Ok task → BeginsRows s t (l ∷ ls) task
  no_rows t l ls n task e h =
      record { rows = []; rest = ls; to = t; number = n; split = ap (λ x. x ∷ ls) e; fits = tt; taken = refl; goes = h }

  pub part_rows : (lines : List (List ℕ)) (t : Task) (n : ℕ) (task : Task) → read_from (at (Rows s) t) n (map closed lines) ≡ Ok task → BeginsRows s t lines task
  part_rows [] t n task e =
      let f : ending (at (Rows s) t) n ≡ Err (refused_at BadText n) = ap (λ b. cond b (Ok t) (Err (refused_at BadText n))) on in
      never (cc)
  part_rows (l ∷ ls) t n task e =
      let go = λ (x : State). read_from x (n + 1) (map closed ls) in
      let f : onward n (cond (is_blank l) (Ok (at (Names (next_of s)) t)) (row_at s t l)) go ≡ Ok task = ap (λ c. onward n (cond (c && is_blank l) (Ok (at (Names (next_of s)) t)) (row_at s t l)) go) (sym closing) ∙ e in
      elim (is_blank l) as (λ b. is_blank l ≡ b → onward n (cond b (Ok (at (Names (next_of s)) t)) (row_at s t l)) go ≡ Ok task → BeginsRows s t (l ∷ ls) task) [
        | true ↦ λ k h. no_rows t l ls (n + 1) task (blank-is l k) h
        | false ↦ λ k h.
            let i : IsRow s t l ls task = is_row s t l ls n task (ap (λ r. onward n r go) (sym (plain t l)) ∙ h) in
            more_rows s t l ls task i (part_rows ls i.to i.number task i.goes)
      ] refl f

-- the trace ends with the text
pub record IsTrace (t : Task) (lines : List (List ℕ)) (task : Task) : Type 0 where
  pub rows : List (List ℕ)
  pub split : lines ≡ map row rows
  pub fits : AllByRecursion (Fits Trace) rows
  pub taken : take_rows Trace t rows ≡ Ok task

pub part_trace : (lines : List (List ℕ)) (t : Task) (n : ℕ) (task : Task) → read_from (at (Rows Trace) t) n (map closed lines) ≡ Ok task → IsTrace t lines task
part_trace [] t n task e = record { rows = []; split = refl; fits = tt; taken = let f : t ≡ task = cc in ap Ok f }
part_trace (l ∷ ls) t n task e =
    let i : IsRow Trace t l ls task = is_row Trace t l ls n task e in
    let b : IsTrace i.to ls task = part_trace ls i.to i.number task i.goes in
    record {
      rows = i.ns ∷ b.rows;
      split = ap (λ x. x ∷ ls) i.line_is ∙ ap (λ x. row i.ns ∷ x) b.split;
      fits = (i.fits, b.fits);
      taken = ap (λ r. and_then r (λ u. take_rows Trace u b.rows)) i.taken ∙ b.taken;
    }

-- the sections from one on: its rows, a blank line, and the rest
pub record From (s : Section) (Rest : Task → List (List ℕ) → Type 0) (t : Task) (lines : List (List ℕ)) : Type 0 where
  pub rows : List (List ℕ)
  pub rest : List (List ℕ)
  pub to : Task
  pub split : lines ≡ section s rows ++ [] ∷ rest
  pub fits : AllByRecursion (Fits s) rows
  pub taken : take_rows s t rows ≡ Ok to
  pub behind : Rest to rest

pub record FromTrace (task t : Task) (lines : List (List ℕ)) : Type 0 where
  pub rows : List (List ℕ)
  pub split : lines ≡ section Trace rows
  pub fits : AllByRecursion (Fits Trace) rows
  pub taken : take_rows Trace t rows ≡ Ok task

abbrev Reaches : Section → (Task → List (List ℕ) → Type 0) → Task → Type 0
Reaches s Rest task = (t : Task) (lines : List (List ℕ)) (n : ℕ) → read_from (at (Names s) t) n (map closed lines) ≡ Ok task → Rest t lines

join_trace : (task t : Task) (lines : List (List ℕ)) (a : Begins (names_of Trace) (at (Rows Trace) t) lines task) → IsTrace t a.rest task → FromTrace task t lines
join_trace task t lines a b =
    record { rows = b.rows; split = a.split ∙ ap (λ x. names_of Trace ∷ x) b.split; fits = b.fits; taken = b.taken }

from-trace : (task : Task) → Reaches Trace (FromTrace task) task
from-trace task t lines n e =
    let a : Begins (names_of Trace) (at (Rows Trace) t) lines task = part_names Trace t lines n task e in
    join_trace task t lines a (part_trace a.rest t a.number task a.goes)

module _ (s : Section) (Rest : Task → List (List ℕ) → Type 0) (task : Task) (reaches : Reaches (next_of s) Rest task) where
  join_rows : (t : Task) (lines : List (List ℕ)) (a : Begins (names_of s) (at (Rows s) t) lines task) → BeginsRows s t a.rest task → From s Rest t lines
  join_rows t lines a b = record {
    rows = b.rows;
    rest = b.rest;
    to = b.to;
    split = a.split ∙ ap (λ x. names_of s ∷ x) b.split;
    fits = b.fits;
    taken = b.taken;
    behind = reaches b.to b.rest b.number b.goes;
  }

  from_rows : (plain : (t : Task) (line : List ℕ) → row_at s t line ≡ moved (Rows s) (row_of s t line)) → blank_closes s ≡ true → may_end (Rows s) ≡ false → Reaches s (From s Rest) task
  from_rows plain closing on t lines n e =
      let a : Begins (names_of s) (at (Rows s) t) lines task = part_names s t lines n task e in
      join_rows t lines a (part_rows s plain closing on a.rest t a.number task a.goes)

from-counters : (task : Task) → Reaches Counters (From Counters (FromTrace task)) task
from-counters task = from_rows Counters (FromTrace task) task (from-trace task) (λ _ _. refl) refl refl

from_entries : (task : Task) → Reaches Entries (From Entries (From Counters (FromTrace task))) task
from_entries task = from_rows Entries (From Counters (FromTrace task)) task (from-counters task) (λ _ _. refl) refl refl

from-pages : (task : Task) → Reaches Pages (From Pages (From Entries (From Counters (FromTrace task)))) task
from-pages task = from_rows Pages (From Entries (From Counters (FromTrace task))) task (from_entries task) (λ _ _. refl) refl refl

pub record FromMemory (task : Task) (lines : List (List ℕ)) : Type 0 where
  pub make : Make
  pub size : ℕ
  pub rest : List (List ℕ)
  pub fits : size ≤ longest_of make
  pub split : lines ≡ names_of Memory ∷ memory_row make size ∷ [] ∷ rest
  pub behind : From Pages (From Entries (From Counters (FromTrace task))) (with_memory make size empty) rest

join_memory : (task : Task) (lines : List (List ℕ)) (a : Begins (names_of Memory) (at (Rows Memory) empty) lines task) (b : BeginsMemory empty a.rest task) → Begins [] (at (Names Pages) (with_memory b.make b.size empty)) b.behind.rest task → FromMemory task lines
join_memory task lines a b d = record {
  make = b.make;
  size = b.size;
  rest = d.rest;
  fits = b.fits;
  split = a.split ∙ ap (λ x. names_of Memory ∷ x) (b.behind.split ∙ ap (λ x. memory_row b.make b.size ∷ x) d.split);
  behind = from-pages task (with_memory b.make b.size empty) d.rest d.number d.goes;
}

pub from-memory : (task : Task) (lines : List (List ℕ)) (n : ℕ) → read_from (at (Names Memory) empty) n (map closed lines) ≡ Ok task → FromMemory task lines
from-memory task lines n e =
    let a : Begins (names_of Memory) (at (Rows Memory) empty) lines task = part_names Memory empty lines n task e in
    let b : BeginsMemory empty a.rest task = part_memory empty a.rest a.number task a.goes in
    join_memory task lines a b (part_blank Memory (with_memory b.make b.size empty) b.behind.rest b.behind.number task b.behind.goes)
