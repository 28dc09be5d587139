use Rattle.std.proofs.Common.{◌≡◌, ◌<◌, is_some, true, ap, ◌∙◌, arith}
use Rattle.std.specs.List.{position}
use Rattle.std.proofs.lemmas.Grind.{common_steps}
use Rattle.std.proofs.lemmas.List.{length-set}
use Rattle.plan.specs.Chart.{has_bit}
use Rattle.plan.specs.Tables.{ProperPage, on_page, unplanned}
use Rattle.plan.specs.declared.records.Page.{Page}
use Rattle.plan.proofs.Each.{each_set}
use Rattle.plan.proofs.Plans.{first_kept, found_last}
use Rattle.plan.proofs.draft.Draft.page.Goals as goal
use Rattle.plan.proofs.draft.Draft.page.Goals.{then-stores-2+in_ok-demand-6, else-stores-2}

pub invariant_of-self-2 : goal.invariant_of-self-2
invariant_of-self-2 c =
    let p = c.if-stores-2.self.plan in
    let n = c.args.page in
    let ss = p.stores.items in
    let low : c.args.bits < 32 = grind (arith, common_steps) in
    let named : c.args.tag < 64 = grind (arith, common_steps) in
    let some : 0 < c.args.tag = grind (arith, common_steps) in
    let later : 0 < n = grind (arith, common_steps) in
    let found : has_bit 16 c.args.bits ≡ true → is_some (position (on_page n) ss) ≡ true = elim c.if-stores-2.branch [
      | then-stores-2+in_ok-demand-6 w ↦ λ h. ap (λ d. is_some (position (on_page n) d.plan.stores.items)) w.self-is ∙ ap (λ s. is_some (position (on_page n) s)) w.push.ensures.items ∙ found_last n c.args.self.now.plan.stores.items
      | else-stores-2 w ↦ λ h. grind (arith, common_steps, h)
    ] in
    let pages = length-set p.pages n _ ∙ p.pages128 in
    let proper = each_set (λ k. ProperPage) unplanned p.pages n _ p.proper (low, named, λ e. some) in
    let first = first_kept p.pages n _ later p.first in
    let stored = each_set (λ k (y : Page). has_bit 16 y.bits ≡ true → is_some (position (on_page k) ss) ≡ true) unplanned p.pages n _ p.stored found in
    (pages, (p.lists64, (p.twelves, (p.owners17, (p.stores8, (proper, (first, (stored, tt))))))))
