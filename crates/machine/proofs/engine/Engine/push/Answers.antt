use Rattle.std.proofs.Common.{[], ◌∷◌, length, rules, ◌≤◌, arith}
use Rattle.machine.proofs.Ladders.{above, floors, rises_on}
use Rattle.machine.proofs.engine.Engine.push.Goals as goal

pub invariant_of-self : goal.invariant_of-self
invariant_of-self c =
    let s = c.args.self.now in
    let h = length s.stack.items ∷ [] in
    let a = above s.floor h (floors s.frames.items) s.rising in
    let r = rises_on s.floor h (length c.push.new.self.items ∷ []) (search rules) (floors s.frames.items) (s.rising, s.bottom) in
    let low : length c.push.new.self.items ≤ 64 = search (rules, arith) in
    assumption (low, r, s)
