use Rattle.std.proofs.Common.{◌<◌, sym, ◌∙◌, arith, rules}
use Rattle.text.proofs.Filling.{filled_more}
use Rattle.text.proofs.number.numbers.Goals as goal

pub loop-field-preserved : goal.loop-field-preserved
loop-field-preserved g c =
    let i = c.loop-field.field-index in
    let within : i < g.row.N = omega (arith, c.loop-field.invariant.0) in (
      search rules,
      filled_more g.row.N i within _ _ c.in_ok-field.field-0 c.loop-field.field-items c.in_ok-next_word.field-0.bytes.now (sym c.loop-field.invariant.0) c.in_ok-next_word.ensures.word (sym c.in_ok-field.ensures.value)
          ∙ c.loop-field.invariant.1,
    )
