use Rattle.std.proofs.Common.{◌≡◌, ℕ, [], ◌<◌, length, get_or, map, replicate, refl, ap, ◌∙◌, arith, rules}
use Rattle.std.proofs.lemmas.Grind.{common_steps}
use Rattle.plan.specs.Tables.{unplanned}
use Rattle.plan.proofs.Plans.{all_empty, blank_is, empty, items, new_proper, new_stored, page_blank}
use Rattle.plan.proofs.draft.Draft.new.Goals as goal

pub invariant_of-result-clause-proper : goal.invariant_of-result-clause-proper
invariant_of-result-clause-proper c = new_proper _ 127 (page_blank _ c.default-pages.ensures.0 c.default-pages.ensures.1)

pub invariant_of-result-clause-first : goal.invariant_of-result-clause-first
invariant_of-result-clause-first c = (refl, refl)

pub invariant_of-result-clause-stored : goal.invariant_of-result-clause-stored
invariant_of-result-clause-stored c = new_stored _ 127 _ (page_blank _ c.default-pages.ensures.0 c.default-pages.ensures.1)

pub invariant_of-result-clause-twelves : goal.invariant_of-result-clause-twelves
invariant_of-result-clause-twelves c =
    let made = c.from_fn.ensures.items in
    λ k d h. let e = (made.at k d (omega arith)).2 in grind (arith, common_steps, e)

pub returns : goal.returns
returns c =
    let e : c.default-pages.result ≡ unplanned = page_blank _ c.default-pages.ensures.0 c.default-pages.ensures.1 in
    let made = c.from_fn.ensures.items in
    let each : (i : ℕ) → i < length c.from_fn.result → (get_or c.from_fn.result i empty).items ≡ [] =
    λ i h. let k = (made.at i empty (omega arith)).2 in search rules
    in
    let lists : map items c.from_fn.result ≡ replicate 64 [] = all_empty c.from_fn.result each ∙ ap (λ n. replicate n []) made.long in
    blank_is c.default-pages.result _ c.new.result.items e lists c.new.ensures
