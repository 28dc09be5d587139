-- What is written is accepted, and what is accepted was written. Assumes nothing.
use Rattle.std.proofs.Common.{◌≡◌, ℕ, ◌+◌, ◌<◌, ◌≤◌, Bool, true, false, cond, ◌&&◌, List, [], ◌∷◌, ◌++◌, map, Ok, Err, Result, refl, ap, ◌∙◌}
use Rattle.fault.specs.declared.refusal.Refusal.{Refusal}
use Rattle.std.proofs.lemmas.Slice.Eq.{bytes_eq-Decides}
use Rattle.std.proofs.lemmas.Bool.{cond-true}
use Rattle.std.specs.List.{AllByRecursion}
use Rattle.std.specs.Str.{bytes_eq}
use Rattle.text.specs.Reading.{State, at, moved, onward, read_from, row_at, step_at, step_line}
use Rattle.text.specs.Sections.{blank_closes, names_of, next_of, width_of}
use Rattle.text.specs.Sheets.{Task, longest_of, row_of, take_row, with_memory}
use Rattle.text.specs.Splitting.{closed}
use Rattle.text.specs.Writing.{Fits, and_then, memory_row, row, take_rows}
use Rattle.text.specs.declared.job.Make.{Make}
use Rattle.text.specs.declared.job.Refused.{Refused}
use Rattle.text.specs.declared.sections.Section.{Section}
use Rattle.text.specs.declared.sections.Section.TheVariants.{Memory}
use Rattle.text.specs.declared.sections.Stage.{Stage}
use Rattle.text.specs.declared.sections.Stage.TheVariants.{Names, Rows, Closed}
use Rattle.text.proofs.Contrary.{never}
use Rattle.text.proofs.MemoryText.{line_memory}
use Rattle.text.proofs.RowText.{row_line, row_some}

-- lines that are all accepted, from whichever line they are counted
abbrev pub Reads : State → List (List ℕ) → Task → Type 0
Reads s ls task = (n : ℕ) → read_from s n (map closed ls) ≡ Ok task

pub reads-step : (s u : State) (line : List ℕ) (ls : List (List ℕ)) (task : Task) → step_line s line ≡ Ok u → Reads u ls task → Reads s (line ∷ ls) task
reads-step s u line ls task e h n = ap (λ r. onward n r (λ t. read_from t (n + 1) (map closed ls))) e ∙ h (n + 1)

pub reads_names : (s : Section) (t : Task) (ls : List (List ℕ)) (task : Task) → Reads (at (Rows s) t) ls task → Reads (at (Names s) t) (names_of s ∷ ls) task
reads_names s t ls task h =
    reads-step (at (Names s) t) (at (Rows s) t) (names_of s) ls task (cond-true (bytes_eq (names_of s) (names_of s)) _ _ ((bytes_eq-Decides (names_of s) (names_of s)).1 refl)) h

pub reads-memory : (t : Task) (make : Make) (size : ℕ) (ls : List (List ℕ)) (task : Task) → size ≤ longest_of make → Reads (at (Closed Memory) (with_memory make size t)) ls task → Reads (at (Rows Memory) t) (memory_row make size ∷ ls) task
reads-memory t make size ls task k h =
    reads-step (at (Rows Memory) t) (at (Closed Memory) (with_memory make size t)) (memory_row make size) ls task (ap (moved (Closed Memory)) (line_memory t make size k)) h

pub then_ok : (r : Result Task Refusal) (f : Task → Result Task Refusal) (u : Task) → and_then r f ≡ Ok u → (t : Task) × ((r ≡ Ok t) × (f t ≡ Ok u))
then_ok (Ok t) f u e = (t, (refl, e))
then_ok (Err refusal) f u e = never (cc)

pub onward_ok : (n : ℕ) (r : Result State Refusal) (f : State → Result Task Refused) (task : Task) → onward n r f ≡ Ok task → (s : State) × ((r ≡ Ok s) × (f s ≡ Ok task))
onward_ok n (Ok s) f task e = (s, (refl, e))
onward_ok n (Err refusal) f task e = never (cc)

pub moved_ok : (to : Stage) (r : Result Task Refusal) (s : State) → moved to r ≡ Ok s → (t : Task) × ((r ≡ Ok t) × (at to t ≡ s))
moved_ok to (Ok t) s e = (t, (refl, cc))
moved_ok to (Err refusal) s e = never (cc)

-- a section of rows of numbers
module _ (s : Section) (plain : (t : Task) (line : List ℕ) → row_at s t line ≡ moved (Rows s) (row_of s t line)) (some : 0 < width_of s) where
  not_blank : (t : Task) (ns : List ℕ) → Fits s ns → step_at (Rows s) t (row ns) ≡ moved (Rows s) (take_row s t ns)
  not_blank t ns f =
      ap (λ b. cond (blank_closes s && b) (Ok (at (Names (next_of s)) t)) (row_at s t (row ns))) (row_some s ns some f)
      ∙ shut (blank_closes s)
      ∙ plain t (row ns)
      ∙ ap (moved (Rows s)) (row_line s t ns some f)
    where
      shut : (b : Bool) → cond (b && false) (Ok (at (Names (next_of s)) t)) (row_at s t (row ns)) ≡ row_at s t (row ns)
      shut true = refl
      shut false = refl

  pub reads_rows : (rows : List (List ℕ)) (t u : Task) (ls : List (List ℕ)) (task : Task) → AllByRecursion (Fits s) rows → take_rows s t rows ≡ Ok u → Reads (at (Rows s) u) ls task → Reads (at (Rows s) t) (map row rows ++ ls) task
  reads_rows [] t u ls task f e h = λ n. let k : t ≡ u = cc in ap (λ x. read_from (at (Rows s) x) n (map closed ls)) k ∙ h n
  reads_rows (ns ∷ rows) t u ls task f e h =
      let p = then_ok (take_row s t ns) (λ x. take_rows s x rows) u e in
      reads-step (at (Rows s) t) (at (Rows s) p.0) (row ns) (map row rows ++ ls) task (not_blank t ns f.0 ∙ ap (moved (Rows s)) p.1.0)
      (reads_rows rows p.0 u ls task f.1 p.1.1 h)

  pub reads_blank : blank_closes s ≡ true → (t : Task) (ls : List (List ℕ)) (task : Task) → Reads (at (Names (next_of s)) t) ls task → Reads (at (Rows s) t) ([] ∷ ls) task
  reads_blank c t ls task h =
      reads-step (at (Rows s) t) (at (Names (next_of s)) t) [] ls task (ap (λ b. cond (b && true) (Ok (at (Names (next_of s)) t)) (row_at s t [])) c) h
