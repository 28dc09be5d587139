use Rattle.std.proofs.Common.{◌≡◌, Ok, is_some, None, ◌∙◌, arith}
use Rattle.std.proofs.Math.ListN.{get_or-map}
use Rattle.std.proofs.lemmas.Grind.{common_steps}
use Rattle.plan.specs.Drafting.{draft_counter, owned}
use Rattle.plan.specs.Model.{drafted}
use Rattle.plan.proofs.Plans.{left, owned_map}
use Rattle.plan.proofs.draft.Draft.counter.Goals as goal

pub returns-clause-after : goal.returns-clause-after
returns-clause-after c =
    let d = drafted c.args.self.now in
    let p = c.args.self.now.plan in
    let k = c.args.counter in
    let n = c.args.owner in
    let g = get_or-map is_some p.owners k None in
    let e : draft_counter d k n ≡ Ok (owned k n d) = grind (arith, common_steps, g) in
    let h = owned_map p.pages p.stores.items _ p.owners k n ∙ left d _ (draft_counter d k n) e in
    grind (arith, common_steps, h)
