use Rattle.std.proofs.Common.{◌≡◌, ◌++◌, [], ◌∷◌, length, arith, rules, ◌≤◌}
use Rattle.std.proofs.lemmas.Bool.{and_parts, leb-true}
use Rattle.machine.proofs.Ladders.{Rises, above, floors, newest_step, rises_on}
use Rattle.machine.proofs.engine.Engine.leave.Goals as goal

pub invariant_of-self : goal.invariant_of-self
invariant_of-self c =
    let s = c.args.self.now in
    let fs = c.pop.new.self.items in
    let x = c.unwrap-frame.result in
    let up = s.floor ∷ length s.stack.items ∷ [] in
    let e : s.frames.items ≡ fs ++ x ∷ [] = search rules in
    let q = newest_step fs x s.floor (length s.stack.items) in
    let t : Rises (floors fs ++ x.floor ∷ up) = (cc, cc) in
    let a = above x.floor up (floors fs) t.0 in
    let n : length c.truncate.new.self.items ≡ s.floor = search (rules, arith, leb-true, and_parts) in
    let r = rises_on x.floor up (s.floor ∷ []) (search rules) (floors fs) t in
    let shallow : length c.pop.new.self.items ≤ 32 = search (rules, arith, s.shallow) in
    let low : length c.truncate.new.self.items ≤ 64 = omega (arith, n, s.low, above s.floor (length s.stack.items ∷ []) (floors s.frames.items) s.rising) in
    record { values8 = s.values8; shallow = shallow; low = low; rising = cc; bottom = cc }
