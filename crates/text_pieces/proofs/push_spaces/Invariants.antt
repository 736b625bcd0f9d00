use Rattle.std.proofs.Common.{◌≡◌, ◌++◌, replicate}
use Rattle.text_pieces.specs.Columns.{space}
use Rattle.text_pieces.proofs.push_spaces.Given as goal

abbrev pub invariant-loop : goal.invariant-loop
invariant-loop l = l.text.items ≡ l.initial.text.items ++ replicate l.counter space
