use Rattle.std.proofs.Common.{set, ap, ◌∙◌, arith, length-set}
use Rattle.std.proofs.lemmas.List.{get_or_default}
use Rattle.std.proofs.lemmas.List.Edits.{map_over_more}
use Rattle.capability.specs.Holdings.{after, empty}
use Rattle.capability.proofs.registers.Registers.tell_all.Goals as goal

pub loop-held-preserved : goal.loop-held-preserved
loop-held-preserved c =
    let ys = c.loop-held.held-items in
    let i = c.loop-held.held-index in
    let x = get_or_default ys i empty _ (omega (arith, c.loop-held.invariant.0)) in (
      length-set ys i _ ∙ c.loop-held.invariant.0,
      ap (set ys i) c.happen.ensures ∙ map_over_more (λ h. after h c.args.event) _ ys i _ (omega arith) c.loop-held.invariant.1 x,
    )
