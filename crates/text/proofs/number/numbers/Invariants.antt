use Rattle.std.proofs.Common.{◌≡◌, ◌-◌, length, take}
use Rattle.text.specs.Numbers.{fields_of}
use Rattle.text.specs.Tokens.{words_left}
use Rattle.text.proofs.Filling.{after}
use Rattle.text.proofs.number.numbers.Given as goal

abbrev pub invariant-loop-field : goal.invariant-loop-field
invariant-loop-field g l =
    (length l.field-items ≡ g.row.N)
    × (after (take l.field-index l.field-items) (fields_of (g.row.N - l.field-index) (words_left l.words.rest)) ≡ fields_of g.row.N (words_left l.initial.words.rest))
