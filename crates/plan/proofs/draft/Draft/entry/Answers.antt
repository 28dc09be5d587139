use Rattle.std.proofs.Common.{◌≡◌, get_or, Err, sym, refl, ap, ◌∙◌, arith}
use Rattle.std.proofs.lemmas.Grind.{common_steps}
use Rattle.std.specs.List.{position}
use Rattle.fault.specs.Faults.{bare_fault}
use Rattle.fault.specs.declared.refusal.Refusal.TheVariants.{DraftRepeat, DraftFull}
use Rattle.plan.specs.Drafting.{draft_answer, draft_entry, listed}
use Rattle.plan.specs.Model.{drafted}
use Rattle.plan.specs.Tables.{for_tag}
use Rattle.plan.proofs.Plans.{adding, adds, fills, kept, left, listed_map, listed_same, repeats}
use Rattle.plan.proofs.draft.Draft.entry.Goals as goal

pub returns-in_err-demand-2 : goal.returns-in_err-demand-2
returns-in_err-demand-2 c =
    let q : c.from_residual-in_err-demand-2.result ≡ Err (bare_fault DraftRepeat 0) = grind (arith, common_steps) in
    let d = drafted c.args.self.now in
    let p = c.args.self.now.plan in
    let list = (get_or p.lists c.args.tag c.index-lists-tag.result).items in
    let found : c.find.result ≡ position (for_tag c.args.to) list = c.find.ensures.value ∙ ap (position (for_tag c.args.to)) c.deref.ensures.0 in
    let r = adding d p.lists c.args.tag c.args.to c.args.level c.in_ok-level.level c.index-lists-tag.result refl (grind (arith, common_steps)) (grind (arith, common_steps)) (grind (arith, common_steps)) ∙ repeats d c.args.tag c.args.to c.in_ok-level.level list c.find.result found (grind (arith, common_steps)) in
    record { answer = q ∙ sym (ap draft_answer r); after = listed_same p.pages p.stores.items p.lists d.plan.owners d.given c.args.tag c.index-lists-tag.result ∙ kept d DraftRepeat (draft_entry d c.args.tag c.args.to c.args.level) r }

pub returns-in_err-demand-3 : goal.returns-in_err-demand-3
returns-in_err-demand-3 c =
    let d = drafted c.args.self.now in
    let p = c.args.self.now.plan in
    let list = (get_or p.lists c.args.tag c.index-lists-tag.result).items in
    let found : c.find.result ≡ position (for_tag c.args.to) list = c.find.ensures.value ∙ ap (position (for_tag c.args.to)) c.deref.ensures.0 in
    let r = adding d p.lists c.args.tag c.args.to c.args.level c.in_ok-level.level c.index-lists-tag.result refl (grind (arith, common_steps)) (grind (arith, common_steps)) (grind (arith, common_steps)) ∙ fills d c.args.tag c.args.to c.in_ok-level.level list c.find.result found (grind (arith, common_steps)) (grind (arith, common_steps)) in
    let q : c.from_residual-in_err-demand-3.result ≡ Err (bare_fault DraftFull 0) = grind (arith, common_steps) in
    record { answer = q ∙ sym (ap draft_answer r); after = listed_same p.pages p.stores.items p.lists d.plan.owners d.given c.args.tag c.index-lists-tag.result ∙ kept d DraftFull (draft_entry d c.args.tag c.args.to c.args.level) r }

pub returns : goal.returns
returns c =
    let d = drafted c.args.self.now in
    let p = c.args.self.now.plan in
    let list = (get_or p.lists c.args.tag c.index-lists-tag.result).items in
    let found : c.find.result ≡ position (for_tag c.args.to) list = c.find.ensures.value ∙ ap (position (for_tag c.args.to)) c.deref.ensures.0 in
    let r = adding d p.lists c.args.tag c.args.to c.args.level c.in_ok-level.level c.index-lists-tag.result refl (grind (arith, common_steps)) (grind (arith, common_steps)) (grind (arith, common_steps)) ∙ adds d c.args.tag c.args.to c.in_ok-level.level list c.find.result found (grind (arith, common_steps)) (grind (arith, common_steps)) in
    record { answer = sym (ap draft_answer r); after = listed_map p.pages p.stores.items p.lists d.plan.owners d.given c.args.tag c.push.new.self ∙ ap (λ x. listed c.args.tag x d) c.push.ensures.items ∙ left d _ (draft_entry d c.args.tag c.args.to c.args.level) r }
