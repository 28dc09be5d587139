-- A block of bytes that is written whole or not at all. Assumes nothing.
use Rattle.std.specs.Prelude.{ℕ, suc, ◌+◌, max, if◌then◌else◌, List, [], ◌∷◌, length, Ok, Err, Result, nat_le, slice_set}
use Rattle.memory.specs.Meaning.{outside}
use Rattle.fault.specs.declared.report.Fault.{Fault}

-- a block of n bytes at a lies within the list, or is refused at its first address outside
abbrev pub block_of : List ℕ → ℕ → ℕ → Result Unit Fault
block_of xs a n = if nat_le (a + n) (length xs) then Ok tt else Err (outside (max a (length xs)) (length xs))

-- the list with the block laid over it from a on
abbrev pub laid : List ℕ → ℕ → List ℕ → List ℕ
laid xs a [] = xs
laid xs a (b ∷ bs) = laid (slice_set xs a b) (suc a) bs

abbrev pub stored : Result Unit Fault → List ℕ → ℕ → List ℕ → List ℕ
stored (Ok u) xs a bs = laid xs a bs
stored (Err e) xs a bs = xs
