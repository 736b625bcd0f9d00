use Rattle.std.proofs.Common.{◌∙◌, sym, arith}
use Rattle.std.proofs.lemmas.List.{take_rest}
use Rattle.trace_csv.proofs.Marks.{short, marked, unmarked}
use Rattle.trace_csv.proofs.records.without_mark.Goals as goal

pub returns-then-text-lt3 : goal.returns-then-text-lt3
returns-then-text-lt3 c = short c.args.text.now (omega (arith, c.if-text-lt3.true))

pub returns-then-is_mark : goal.returns-then-is_mark
returns-then-is_mark c =
    take_rest c.args.text.now 3 ∙ marked c.args.text.now (omega (arith, c.if-text-lt3.false)) (sym c.if-is_mark.ensures)

pub returns-else-is_mark : goal.returns-else-is_mark
returns-else-is_mark c = unmarked c.args.text.now (omega (arith, c.if-text-lt3.false)) (sym c.if-is_mark.ensures)
