-- The faults, built from a refusal, the place and what else is told. Assumes nothing.
use Rattle.std.specs.Prelude.{ℕ}
use Rattle.fault.specs.Refusals.{layer_of}
use Rattle.fault.specs.declared.refusal.Refusal.{Refusal}
use Rattle.fault.specs.declared.refusal.Refusal.TheVariants.{OutsideMemory}
use Rattle.fault.specs.declared.report.Access.{Access}
use Rattle.fault.specs.declared.report.Cause.{Cause}
use Rattle.fault.specs.declared.report.Cause.TheVariants.{Access as OfAccess, Memory as OfMemory, Bare}
use Rattle.fault.specs.declared.report.Fault.{Fault}
use Rattle.fault.specs.declared.report.Outside.{Outside}

abbrev pub fault_of : Refusal → ℕ → Cause → Fault
fault_of refusal place cause = record { refusal = refusal; layer = layer_of refusal; place = place; cause = cause }

abbrev pub bare_fault : Refusal → ℕ → Fault
bare_fault refusal place = fault_of refusal place Bare

abbrev pub access_fault : Refusal → ℕ → Access → Fault
access_fault refusal place access = fault_of refusal place (OfAccess access)

abbrev pub memory_fault : ℕ → Outside → Fault
memory_fault place outside = fault_of OutsideMemory place (OfMemory outside)

-- the same fault, told at another place
abbrev pub placed_at : ℕ → Fault → Fault
placed_at place f = record { refusal = f.refusal; layer = f.layer; place = place; cause = f.cause }
