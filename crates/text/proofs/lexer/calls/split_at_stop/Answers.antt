use Rattle.std.proofs.Common.{rules}
use Rattle.std.proofs.lemmas.List.{take_rest}
use Rattle.text.proofs.Cutting.{pieces_at, pieces-last}
use Rattle.text.proofs.lexer.calls.split_at_stop.Goals as goal

pub returns-in-Some-clause-pieces : goal.returns-in-Some-clause-pieces
returns-in-Some-clause-pieces c =
    let first = pieces_at c.args.stop c.args.bytes.now c.in-Some.end (search rules) (search rules) (search rules) in
    rw take_rest first

pub returns-in-None-clause-pieces : goal.returns-in-None-clause-pieces
returns-in-None-clause-pieces c = pieces-last c.args.stop c.args.bytes.now (search rules)
