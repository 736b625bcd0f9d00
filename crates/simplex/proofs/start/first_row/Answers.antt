use Rattle.std.proofs.Common.{◌+◌, ◌≡◌, ap, ap₂, pos, ◌∙◌}
use Rattle.fraction128.specs.Fraction.{whole}
use Rattle.exchange_runs.specs.Table.{variables}
use Rattle.simplex.proofs.Ending.{first_row_is}
use Rattle.simplex.proofs.start.first_row.Goals as goal

pub returns : goal.returns
returns c =
    let places : c.columns.result + c.rows.result ≡ variables c.args.program.now = ap₂ ◌+◌ c.columns.ensures.value c.rows.ensures.value in
    rw (c.new.ensures, places)
    (first_row_is c.args.program.now c.args.i c.in_ok-entries.entries.items c.whole.result c.in_ok-entries.ensures
    (c.whole.ensures ∙ ap (λ n. whole (pos n)) c.bound_of.ensures.value))
