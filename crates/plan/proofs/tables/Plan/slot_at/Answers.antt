use Rattle.std.proofs.Common.{◌≡◌, ◌/◌, ◌<◌, IfSome, is_some, ap, subst, ◌∙◌, rules}
use Rattle.plan.specs.Model.{planned}
use Rattle.plan.specs.Tables.{slot_at}
use Rattle.plan.proofs.Slots.{own_slot, slot_there}
use Rattle.plan.proofs.tables.Plan.slot_at.Goals as goal

pub returns-clause-there : goal.returns-clause-there
returns-clause-there c =
    let p = planned c.args.self.now in
    let e : c.map.result ≡ slot_at p c.args.address = search rules in
    λ h. ap is_some e ∙ slot_there p c.args.address (c.args.self.now.stored (c.args.address / 256) h)

pub returns-clause-own : goal.returns-clause-own
returns-clause-own c =
    let p = planned c.args.self.now in
    let e : c.map.result ≡ slot_at p c.args.address = search rules in
    own_slot p c.args.address c.map.result (subst (λ o. IfSome o (λ k. k < 8)) c.place_in.ensures.value c.place_in.ensures.within) e
