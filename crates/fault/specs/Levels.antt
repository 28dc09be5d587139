-- The four levels, their numbers and their order. Assumes nothing.
use Rattle.std.specs.Prelude.{ℕ, if◌then◌else◌, Some, None, Option, Result, ◌==◌, nat_lt}
use Rattle.std.specs.Option.{ok_or}
use Rattle.fault.specs.declared.level.Level.{Level}
use Rattle.fault.specs.declared.level.UnknownLevel.{UnknownLevel}
use Rattle.fault.specs.declared.level.Level.TheVariants.{Nothing, Call, Read, Write}

abbrev pub rank_of : Level → ℕ
rank_of Nothing = 0
rank_of Call = 1
rank_of Read = 2
rank_of Write = 3

-- the level of a number that grants something, 1 to 3
abbrev pub level_named : ℕ → Option Level
level_named n = if n == 1 then Some Call else if n == 2 then Some Read else if n == 3 then Some Write else None

-- that level, or the number that names none
abbrev pub level_of : ℕ → Result Level UnknownLevel
level_of n = ok_or (level_named n) (record { 0 = n })

-- the greater of two levels
abbrev pub higher_of : Level → Level → Level
higher_of x y = if nat_lt (rank_of x) (rank_of y) then y else x
