use Rattle.std.proofs.Common.{◌≡◌, not, false, sym, ap, arith, rules}
use Rattle.number_laws.proofs.TestLaws.{first_below-is}
use Rattle.program_form.specs.Refusals.{is_covered}
use Rattle.program_form.specs.RowBlock.{rows_seen}
use Rattle.program_form.proofs.program.uncovered_column.Goals as goal

pub returns-then-not-is_held : goal.returns-then-not-is_held
returns-then-not-is_held c =
    let free : is_covered (rows_seen c.args.rows.now) c.loop-column.column ≡ false = search rules in
    sym (first_below-is c.args.columns (λ k. not (is_covered (rows_seen c.args.rows.now) k)) c.loop-column.column (omega arith)
    (λ k l. ap not (c.loop-column.invariant k l)) (λ l. ap not free))

pub returns : goal.returns
returns c =
    sym (first_below-is c.args.columns (λ k. not (is_covered (rows_seen c.args.rows.now) k)) c.args.columns (omega arith)
    (λ k l. ap not (c.loop-column.invariant k (omega arith))) (λ l. absurd (omega arith)))
