use Rattle.std.proofs.Common.{◌+◌, [], ◌∷◌, length, rules, ◌≤◌, arith}
use Rattle.std.proofs.lemmas.Bool.{le-leb}
use Rattle.machine.proofs.Ladders.{above, floors, newest_step, rises_on}
use Rattle.machine.proofs.engine.Engine.enter.Goals as goal

pub invariant_of-self : goal.invariant_of-self
invariant_of-self c =
    let s = c.args.self.now in
    let fs = s.frames.items in
    let h = length s.stack.items in
    let a = above s.floor (h ∷ []) (floors fs) s.rising in
    let r = rises_on s.floor (h ∷ []) (h ∷ h ∷ []) (search (rules, le-leb)) (floors fs) (s.rising, s.bottom) in
    let q = newest_step fs (record { place = s.place + 4; floor = s.floor }) h h in
    let shallow : length c.push.new.self.items ≤ 32 = search (rules, arith) in
    record { values8 = s.values8; shallow = shallow; low = s.low; rising = cc; bottom = cc }
