-- What a row of the draft answers and leaves. Assumes nothing.
use Rattle.std.proofs.Common.{◌≡◌, ℕ, List, Some, None, Ok, Err, Option, Result, sym, refl, ap, ◌∙◌}
use Rattle.fault.specs.declared.refusal.Refusal.{Refusal}
use Rattle.fault.specs.declared.refusal.Refusal.TheVariants.{BadText}
use Rattle.fault.specs.declared.report.Fault.{Fault}
use Rattle.plan.specs.Drafting.{Drafted, draft_after, draft_answer}
use Rattle.std.specs.Option.{ok_or}
use Rattle.text.specs.Numbers.{fields_of}
use Rattle.text.specs.Sections.{width_of}
use Rattle.text.specs.Sheets.{Takes, Task, after_of, answer_of, draft_task, row_of, take_fields, take_row, with_draft}
use Rattle.text.specs.Splitting.{pieces}
use Rattle.text.specs.declared.sections.Section.{Section}
use Rattle.text.proofs.Contrary.{never}

-- a line that is a row of numbers
row_numbers : (s : Section) (t : Task) (fs : List ℕ) (o : Option (List ℕ)) → ok_or o BadText ≡ Ok fs → take_row s t fs ≡ take_fields s t o
row_numbers s t fs None e = never (cc)
row_numbers s t fs (Some gs) e = ap (take_row s t) (cc)

pub row_is : (s : Section) (t : Task) (line fs : List ℕ) (r : Result (List ℕ) Refusal) → r ≡ Ok fs → r ≡ ok_or (fields_of (width_of s) (pieces 32 line)) BadText → take_row s t fs ≡ row_of s t line
row_is s t line fs r e f = row_numbers s t fs (fields_of (width_of s) (pieces 32 line)) (sym f ∙ e)

-- a fault of the draft tells its refusal
abbrev pub told_of : Result Unit Fault → Result Unit Refusal
told_of (Ok x) = Ok tt
told_of (Err fault) = Err fault.refusal

told-call : (t : Task) (r : Result Drafted Refusal) → told_of (draft_answer r) ≡ answer_of (draft_task t r)
told-call t (Ok d) = refl
told-call t (Err refusal) = refl

left_call : (t : Task) (r : Result Drafted Refusal) → with_draft (draft_after t.draft r) t ≡ after_of t (draft_task t r)
left_call t (Ok d) = refl
left_call t (Err refusal) = refl

-- a row that the draft is asked of
pub row_taken : (s : Section) (t : Task) (line : List ℕ) (call : Result Drafted Refusal) → draft_task t call ≡ row_of s t line → (a : Result Unit Fault) (b : Result Unit Refusal) (d : Drafted) → b ≡ told_of a → a ≡ draft_answer call → d ≡ draft_after t.draft call → Takes t (with_draft d t) b (row_of s t line)
row_taken s t line call row a b d f e g = record {
  answer = f ∙ ap told_of e ∙ told-call t call ∙ ap answer_of row;
  after = ap (λ x. with_draft x t) g ∙ left_call t call ∙ ap (after_of t) row;
}
