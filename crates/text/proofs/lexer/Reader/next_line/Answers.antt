use Rattle.std.proofs.Common.{◌∷◌, ap, ◌∙◌}
use Rattle.text.specs.Splitting.{lines_in}
use Rattle.text.specs.Tokens.{pieces_left}
use Rattle.text.proofs.Cutting.{lines_cons}
use Rattle.text.proofs.lexer.Reader.next_line.Goals as goal

pub returns-in-Some-clause-token : goal.returns-in-Some-clause-token
returns-in-Some-clause-token c =
    let line = c.split_at_stop.result.0.now in
    ap lines_in c.split_at_stop.ensures.pieces ∙ ap (λ rest. lines_in (line ∷ pieces_left 10 rest)) c.in-Some.is ∙ lines_cons line c.in-Some.behind.now
