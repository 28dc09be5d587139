use Rattle.std.proofs.Common.{◌≡◌, ◌++◌, map, length, take, drop}
use Rattle.capability.specs.Holdings.{after}
use Rattle.capability.proofs.registers.Registers.tell_all.Given as goal

abbrev pub invariant-loop-held : goal.invariant-loop-held
invariant-loop-held l =
    (length l.held-items ≡ 8)
    × (l.held-items ≡ map (λ h. after h l.event) (take l.held-index l.initial.held-items) ++ drop l.held-index l.initial.held-items)
