-- What every state keeps. Assumes nothing.
use Rattle.std.specs.Prelude.{◌≡◌, ℕ, ◌%◌, ◌<◌, Bool, true, false, not, ◌&&◌, ◌||◌, List, [], ◌∷◌, ◌++◌, map, length, ◌==◌, nat_le, nat_lt, slice_index_or}
use Rattle.capability.specs.Holdings.{empty, fresh, reading_of, spans}
use Rattle.capability.specs.declared.counter.Counter.{Counter}
use Rattle.capability.specs.declared.holding.Holding.{Holding}
use Rattle.capability.specs.declared.holding.Holding.TheVariants.{Empty, Short, Counted}
use Rattle.capability.specs.declared.right.Right.{Right}
use Rattle.fault.specs.Levels.{rank_of}
use Rattle.machine.specs.Checks.{is_short}
use Rattle.machine.specs.State.{Core, no_frame, place_of}
use Rattle.machine.specs.declared.frame.Frame.{Frame}
use Rattle.plan.specs.Chart.{has_bit}
use Rattle.plan.specs.Tables.{Planned, owner_of, page_at}

-- a place is a multiple of 4, an address, and on a page with X
abbrev pub Grounded : Planned → ℕ → Type 0
Grounded p a = (a % 4 ≡ 0) × (a < 32768) × (has_bit 4 (page_at p a).bits ≡ true)

abbrev pub GroundedAll : Planned → List Frame → Type 0
GroundedAll p fs = (k : ℕ) → k < length fs → Grounded p (slice_index_or fs k no_frame).place

-- no capability exists with a bad span or level; a counted one shows a reading that its counter has reached
abbrev pub formed : Right → Bool
formed g = spans g.base g.size && nat_le 1 (rank_of g.level)

abbrev pub fine : List Counter → Holding → Bool
fine ks Empty = true
fine ks (Short g d) = formed g
fine ks (Counted g k n) = formed g && (nat_le n (reading_of ks k) && (nat_lt n 999999 && (nat_le 1 k && nat_le k 16)))

abbrev pub Fine : List Counter → List Holding → Type 0
Fine ks hs = (r : ℕ) → fine ks (slice_index_or hs r empty) ≡ true

-- slots hold no short one
abbrev pub Lasting : List Holding → Type 0
Lasting hs = (r : ℕ) → is_short (slice_index_or hs r empty) ≡ false

-- a counter shows at most 999,999; one that is out is the host's and can still be raised
abbrev pub settled : ℕ → Counter → Bool
settled owner x = nat_le x.reading 999999 && (not x.out || (owner == 0 && nat_lt x.reading 999999))

abbrev pub Settled : Planned → List Counter → Type 0
Settled p ks = (k : ℕ) → settled (owner_of p k) (slice_index_or ks k fresh) ≡ true

-- what every core keeps under its plan
abbrev pub Sound : Planned → Core → Type 0
Sound p c =
    Grounded p (place_of c)
    × GroundedAll p c.engine.frames
    × Fine c.counters c.engine.registers
    × Fine c.counters c.engine.stack
    × Fine c.counters c.slots
    × Lasting c.slots
    × Settled p c.counters

-- the floors of the frames, the floor and the height rise from 0
abbrev pub ladder : List Frame → ℕ → ℕ → List ℕ
ladder fs floor height = map (λ (f : Frame). f.floor) fs ++ (floor ∷ height ∷ [])

abbrev pub climbs : List ℕ → Bool
climbs [] = true
climbs (x ∷ []) = true
climbs (x ∷ y ∷ ys) = nat_le x y && climbs (y ∷ ys)
