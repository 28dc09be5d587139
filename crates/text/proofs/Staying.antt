-- A row that is refused. Assumes nothing.
use Rattle.std.proofs.Common.{◌≡◌, ℕ, List, Ok, Err, Result, sym, ap, subst, ◌∙◌}
use Rattle.fault.specs.declared.refusal.Refusal.{Refusal}
use Rattle.text.specs.Model.{IfAnswered}
use Rattle.text.specs.Reading.{at, moved, row_at}
use Rattle.text.specs.Sheets.{Takes, Task, after_of, answer_of}
use Rattle.text.specs.declared.job.ReadError.{ReadError}
use Rattle.text.specs.declared.job.ReadError.TheVariants.{Memory, Refused as Told}
use Rattle.text.specs.declared.sections.Section.{Section}
use Rattle.text.specs.declared.sections.Stage.{Stage}
use Rattle.text.proofs.Contrary.{never}

-- what a refused row leaves at a stage, where its section is known
module _ (section s : Section) (is : section ≡ s) (stage to : Stage) (t u : Task) (line : List ℕ) where
  abbrev Row : Result Unit Refusal → Type 0
  Row a = Takes (at stage t) (at stage u) a (row_at section t line)

  refused : (r : Result Task Refusal) (refusal : Refusal) → row_at s t line ≡ moved to r → Takes t u (Err refusal) r → Row (Err refusal)
  refused (Ok v) refusal row h = let e = h.answer in never (cc)
  refused (Err v) refusal row h =
      let r : moved to (Err v) ≡ row_at section t line = sym row ∙ ap (λ z. row_at z t line) (sym is) in
      record { answer = h.answer ∙ ap answer_of r; after = ap (at stage) h.after ∙ ap (after_of (at stage t)) r }

  refused_by : (r : Result Task Refusal) (error : ReadError Refusal) → row_at s t line ≡ moved to r → IfAnswered {X = Unit {0}} (Err error) (λ a. Takes t u a r) → IfAnswered {X = Unit {0}} (Err error) Row
  refused_by r (Told refusal) row h = refused r refusal row h
  refused_by r (Memory lack) row h = tt

  pub refused-row : (r : Result Task Refusal) (error : ReadError Refusal) (a : Result Unit (ReadError Refusal)) → row_at s t line ≡ moved to r → a ≡ Err error → IfAnswered {X = Unit {0}} (Err error) (λ b. Takes t u b r) → IfAnswered a Row
  refused-row r error a row e h = subst (λ x. IfAnswered x Row) (sym e) (refused_by r error row h)
