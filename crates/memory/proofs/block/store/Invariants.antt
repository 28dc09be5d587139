use Rattle.std.proofs.Common.{◌≡◌, ◌+◌, ◌≤◌, length}
use Rattle.memory.specs.Blocks.{laid}
use Rattle.memory.proofs.block.store.Given as goal

abbrev pub invariant-loop-address : goal.invariant-loop-address
invariant-loop-address g l =
    let addresses = l.address-iterator.a in
    let rest = l.address-iterator.b.rest.now in
    (laid (g.M.Memory.bytes l.memory) addresses.start rest ≡ laid (g.M.Memory.bytes l.initial.memory) l.start l.block)
    × (length (g.M.Memory.bytes l.memory) ≡ addresses.end)
    × (addresses.start + length rest ≤ addresses.end)
