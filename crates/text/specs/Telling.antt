-- What is printed of a text that is not read. Assumes nothing.
use Rattle.std.specs.Prelude.{ℕ, List, ◌++◌, None, Option, codes, decimal}
use Rattle.fault.specs.Refusals.{number_of}
use Rattle.text.specs.declared.job.ReadError.{ReadError}
use Rattle.text.specs.declared.job.ReadError.TheVariants.{Memory, Refused as Told}
use Rattle.text.specs.declared.job.Refused.{Refused}

-- the refusal's number and the line's
abbrev pub shown_of : Refused → List ℕ
shown_of r = codes "refused with " ++ (decimal (number_of r.refusal) ++ (codes " at line " ++ decimal r.line))

-- what is printed of the refusal; the library does not say what it prints of a want of memory
abbrev pub shown_by : {R : Type 0} → (R → Option (List ℕ)) → ReadError R → Option (List ℕ)
shown_by shown (Told refusal) = shown refusal
shown_by shown (Memory error) = None
