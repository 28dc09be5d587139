use Rattle.std.proofs.Common.{[], ◌∷◌, length, rules, ◌≤◌, arith}
use Rattle.machine.proofs.Ladders.{floors, rises_on}
use Rattle.machine.proofs.engine.Engine.pop.Goals as goal

pub invariant_of-self : goal.invariant_of-self
invariant_of-self c =
    let s = c.args.self.now in
    let r = rises_on s.floor (length s.stack.items ∷ []) (length c.pop.new.self.items ∷ []) (search rules) (floors s.frames.items) (s.rising, s.bottom) in
    let low : length c.pop.new.self.items ≤ 64 = search (rules, arith, s.low) in
    assumption (low, r, s)
