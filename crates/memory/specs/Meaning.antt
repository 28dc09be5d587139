-- What a memory means: a list of bytes, and what reading and writing answer of it. Assumes nothing.
use Rattle.std.specs.Prelude.{ℕ, zero, suc, ◌+◌, ◌*◌, ◌%◌, ◌≤◌, if◌then◌else◌, List, [], ◌∷◌, length, take, Ok, Err, Result, nat_lt, slice_index, slice_set}
use Rattle.std.proofs.Common.{arith, length-take}
use Rattle.fault.specs.Faults.{memory_fault}
use Rattle.fault.specs.declared.report.Fault.{Fault}

-- the refusal of address a by a memory of size n, which is told at place 0
abbrev pub outside : ℕ → ℕ → Fault
outside a n = memory_fault 0 (record { address = a; size = n })

-- x, if a is an address of the list, else the refusal
abbrev pub checked : {X : Type 0} → List ℕ → ℕ → X → Result X Fault
checked xs a x = if nat_lt a (length xs) then Ok x else Err (outside a (length xs))

abbrev pub read_of : List ℕ → ℕ → Result ℕ Fault
read_of xs a = checked xs a (slice_index xs a)

abbrev pub write_of : List ℕ → ℕ → Result Unit Fault
write_of xs a = checked xs a tt

-- the bytes after a write that answered so
abbrev pub wrote : Result Unit Fault → List ℕ → ℕ → ℕ → List ℕ
wrote (Ok u) xs a b = slice_set xs a b
wrote (Err e) xs a b = xs

pub take_within : (n : ℕ) (xs : List ℕ) → length (take n xs) ≤ n
take_within n xs = omega (arith, length-take n xs)

-- the bytes that an area of halves holds, at most n: the low half of each first, then its high half; an odd last area byte is unused
abbrev pub join_halves : ℕ → List ℕ → List ℕ
join_halves zero xs = []
join_halves (suc n) [] = []
join_halves (suc n) (x ∷ []) = []
join_halves (suc n) (x ∷ y ∷ ys) = (x % 16 + 16 * (y % 16)) ∷ join_halves n ys

pub halves-within : (n : ℕ) (xs : List ℕ) → length (join_halves n xs) ≤ n
halves-within zero xs = omega arith
halves-within (suc n) [] = omega arith
halves-within (suc n) (x ∷ []) = omega arith
halves-within (suc n) (x ∷ y ∷ ys) = omega (arith, halves-within n ys)
