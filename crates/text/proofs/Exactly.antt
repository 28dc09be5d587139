-- A text is accepted just where it is the writing of a content. Assumes nothing.
use Rattle.std.proofs.Common.{◌≡◌, ℕ, ◌<◌, ◌≤◌, true, false, cond, leb, List, [], ◌∷◌, ◌++◌, map, length, Ok, Err, sym, refl, ap, ◌∙◌, arith}
use Rattle.fault.specs.declared.refusal.Refusal.TheVariants.{BadText}
use Rattle.std.proofs.ByRecursion.{All-append, All-map, All-weaker}
use Rattle.std.proofs.lemmas.List.{append-nil}
use Rattle.std.proofs.lemmas.Bool.{cond-true, le-leb, leb-true}
use Rattle.std.specs.List.{AllByRecursion}
use Rattle.text.specs.Laws.{Exact, Says}
use Rattle.text.specs.Reading.{at, judge, moved, read_from, read_of, refused_at, row_at, start}
use Rattle.text.specs.Sections.{blank_closes, names_of, next_of, width_of}
use Rattle.text.specs.Sheets.{Task, empty, row_of, with_memory}
use Rattle.text.specs.Splitting.{closed, ended, lines_of}
use Rattle.text.specs.Writing.{Content, Fits, Regular, and_then, lines_by, meaning, memory_row, row, section, take_rows}
use Rattle.text.specs.declared.sections.Section.{Section}
use Rattle.text.specs.declared.sections.Section.TheVariants.{Memory, Pages, Entries, Counters, Trace}
use Rattle.text.specs.declared.sections.Stage.TheVariants.{Names, Rows, Closed}
use Rattle.text.proofs.Accepting.{Reads, reads_blank, reads-memory, reads_names, reads_rows, reads-step, then_ok}
use Rattle.text.proofs.Contrary.{never}
use Rattle.text.proofs.MemoryText.{free-memory}
use Rattle.text.proofs.Parting.{FromMemory, all_closed, from-memory}
use Rattle.text.proofs.Pieces.{Free, lines_ended, text_of, text_closed, text_lines}
use Rattle.text.proofs.RowText.{free-row}

-- the lines of a content have no line feed
free-section : (s : Section) → Free 10 (names_of s) → (rows : List (List ℕ)) → AllByRecursion (Fits s) rows → AllByRecursion (Free 10) (section s rows)
free-section s f rows g = (f, All-map (Free 10) row rows (All-weaker (Fits s) (λ ns. Free 10 (row ns)) (free-row s) rows g))

pub free-written : (c : Content) → Regular c → AllByRecursion (Free 10) (lines_by c)
free-written c g = (
  refl,
  (
    free-memory c.make c.size g.memory,
    (
      refl,
      All-append (Free 10) (section Pages c.pages) _ (free-section Pages refl c.pages g.pages) (
        refl,
        All-append (Free 10) (section Entries c.entries) _ (free-section Entries refl c.entries g.entries) (
          refl,
          All-append (Free 10) (section Counters c.counters) _ (free-section Counters refl c.counters g.counters) (refl, free-section Trace refl c.trace g.trace),
        ),
      ),
    ),
  ),
)

-- a section that a blank line closes
module _ (s : Section) (plain : (t : Task) (line : List ℕ) → row_at s t line ≡ moved (Rows s) (row_of s t line)) (some : 0 < width_of s) (closing : blank_closes s ≡ true) where
  reads_section : (rows : List (List ℕ)) (t u : Task) (ls : List (List ℕ)) (task : Task) → AllByRecursion (Fits s) rows → take_rows s t rows ≡ Ok u → Reads (at (Names (next_of s)) u) ls task → Reads (at (Names s) t) (section s rows ++ [] ∷ ls) task
  reads_section rows t u ls task f e h =
      reads_names s t (map row rows ++ [] ∷ ls) task (reads_rows s plain some rows t u ([] ∷ ls) task f e (reads_blank s plain some closing u ls task h))

reads-trace : (rows : List (List ℕ)) (t task : Task) → AllByRecursion (Fits Trace) rows → take_rows Trace t rows ≡ Ok task → Reads (at (Names Trace) t) (section Trace rows) task
reads-trace rows t task f e =
    reads_names Trace t (map row rows) task (λ n. ap (λ ls. read_from (at (Rows Trace) t) n (map closed ls)) (sym (append-nil (map row rows))) ∙ reads_rows Trace (λ _ _. refl) (omega arith) rows t task [] task f e (λ _. refl) n)

-- what is written is accepted, section by section from the last
module _ (c : Content) (task : Task) (g : Regular c) where
  abbrev from_counters : List (List ℕ)
  from_counters = section Counters c.counters ++ [] ∷ section Trace c.trace

  abbrev from_entries : List (List ℕ)
  from_entries = section Entries c.entries ++ [] ∷ from_counters

  abbrev from_pages : List (List ℕ)
  from_pages = section Pages c.pages ++ [] ∷ from_entries

  reads_counters : (t : Task) → and_then (take_rows Counters t c.counters) (λ v. take_rows Trace v c.trace) ≡ Ok task → Reads (at (Names Counters) t) from_counters task
  reads_counters t e =
      let p = then_ok (take_rows Counters t c.counters) _ task e in
      reads_section Counters (λ _ _. refl) (omega arith) refl c.counters t p.0 (section Trace c.trace) task g.counters p.1.0 (reads-trace c.trace p.0 task g.trace p.1.1)

  reads_entries : (t : Task) → and_then (take_rows Entries t c.entries) (λ u. and_then (take_rows Counters u c.counters) (λ v. take_rows Trace v c.trace)) ≡ Ok task → Reads (at (Names Entries) t) from_entries task
  reads_entries t e =
      let p = then_ok (take_rows Entries t c.entries) _ task e in
      reads_section Entries (λ _ _. refl) (omega arith) refl c.entries t p.0 from_counters task g.entries p.1.0 (reads_counters p.0 p.1.1)

  reads_pages : meaning c ≡ Ok task → Reads (at (Names Pages) (with_memory c.make c.size empty)) from_pages task
  reads_pages e =
      let m = with_memory c.make c.size empty in
      let p = then_ok (take_rows Pages m c.pages) _ task e in
      reads_section Pages (λ _ _. refl) (omega arith) refl c.pages m p.0 from_entries task g.pages p.1.0 (reads_entries p.0 p.1.1)

  reads_written : meaning c ≡ Ok task → Reads start (lines_by c) task
  reads_written e =
      let m = with_memory c.make c.size empty in
      reads_names Memory empty (memory_row c.make c.size ∷ [] ∷ from_pages) task
      (reads-memory empty c.make c.size ([] ∷ from_pages) task g.memory (reads-step (at (Closed Memory) m) (at (Names Pages) m) [] from_pages task refl (reads_pages e)))

accepted : (text : List ℕ) (task : Task) (c : Content) → Says text task c → read_of text ≡ Ok task
accepted text task c s =
    cond-true (leb (length text) 32768) _ _ (le-leb (length text) 32768 s.short)
    ∙ ap judge s.text_is
    ∙ ap (read_from start 1) (lines_ended (lines_by c) (free-written c s.regular))
    ∙ reads_written c task s.regular s.means 1

-- what is accepted was written
record Parts (lines : List (List ℕ)) (task : Task) : Type 0 where
  content : Content
  lines_are : lines ≡ lines_by content
  regular : Regular content
  means : meaning content ≡ Ok task

assembled : (lines : List (List ℕ)) (task : Task) → FromMemory task lines → Parts lines task
assembled lines task x =
    let p = x.behind in
    let q = p.behind in
    let r = q.behind in
    let k = r.behind in
    record {
      content = record { make = x.make; size = x.size; pages = p.rows; entries = q.rows; counters = r.rows; trace = k.rows };
      lines_are =
          x.split
          ∙ ap (λ l. names_of Memory ∷ memory_row x.make x.size ∷ [] ∷ l) (p.split ∙ ap (λ l. section Pages p.rows ++ [] ∷ l) (q.split ∙ ap (λ l. section Entries q.rows ++ [] ∷ l) (r.split ∙ ap (λ l. section Counters r.rows ++ [] ∷ l) k.split)));
      regular = record { memory = x.fits; pages = p.fits; entries = q.fits; counters = r.fits; trace = k.fits };
      means =
          ap (λ y. and_then y (λ t. and_then (take_rows Entries t q.rows) (λ u. and_then (take_rows Counters u r.rows) (λ v. take_rows Trace v k.rows)))) p.taken
          ∙ ap (λ y. and_then y (λ u. and_then (take_rows Counters u r.rows) (λ v. take_rows Trace v k.rows))) q.taken
          ∙ ap (λ y. and_then y (λ v. take_rows Trace v k.rows)) r.taken
          ∙ k.taken;
    }

parts : (lines : List (List ℕ)) (task : Task) → read_from start 1 (map closed lines) ≡ Ok task → Parts lines task
parts lines task e = assembled lines task (from-memory task lines 1 e)

pub in_length : (text : List ℕ) (task : Task) → read_of text ≡ Ok task → (length text ≤ 32768) × (judge text ≡ Ok task)
in_length text task e =
    elim (leb (length text) 32768) as (λ b. leb (length text) 32768 ≡ b → cond b (judge text) (Err (refused_at BadText 0)) ≡ Ok task → (length text ≤ 32768) × (judge text ≡ Ok task)) [
      | true ↦ λ f h. (leb-true (length text) 32768 f, h)
      | false ↦ λ f h. never (cc)
    ] refl e

said : (text : List ℕ) (task : Task) → read_of text ≡ Ok task → (c : Content) × Says text task c
said text task e =
    let l = in_length text task e in
    let k = all_closed (lines_of text) start 1 task l.1 in
    let p = parts k.0 task (ap (read_from start 1) (sym k.1) ∙ l.1) in (
      p.content,
      record {
        text_is = sym (text_lines text) ∙ ap text_of k.1 ∙ text_closed k.0 ∙ ap ended p.lines_are;
        regular = p.regular;
        means = p.means;
        short = l.0;
      },
    )

pub exact : Exact
exact text task = (said text task, λ p. accepted text task p.0 p.1)
