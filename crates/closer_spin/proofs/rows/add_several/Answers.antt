use Rattle.std.proofs.Common.{◌≡◌, ◌+◌, ◌&&◌, arith, true, false, nat_lt, nat_le, map, length, ap, ◌∙◌, inl, inr}
use Rattle.std.specs.Prelude.{slice_index}
use Rattle.std.proofs.lemmas.Bool.{cases_Bool, ltb-true, lt-ltb}
use Rattle.number_laws.specs.Tests.{count_below}
use Rattle.blocking_columns.specs.ColumnDef.{column_seen}
use Rattle.closer_spin_laws.specs.CloserSpinRows.{used_above}
use Rattle.fragments.proofs.RowStretches.{row_over_all}
use Rattle.closer_spin.specs.Together.{taken_together, row_together, least_above, AreTold}
use Rattle.closer_spin.proofs.Told.{told_many, told_requests, together_missing}
use Rattle.closer_spin.proofs.rows.add_several.Goals as goal

pub returns-then-how_many-le1 : goal.returns-then-how_many-le1
returns-then-how_many-le1 g c =
    let set = c.args.task.now.set.now in
    let i = c.args.task.now.i.0 in
    let row = c.args.row.now in
    let test = taken_together set i row.processor row.group in
    let n = count_below (length set.resources) test in
    let cs = map column_seen c.args.task.now.columns.now in
    let told = rw c.deref.ensures.value at c.how_many.ensures in
    let counted : c.how_many.result ≡ n = told ∙ told_many (length set.resources) test row.table.items c.requires.table in
    let one : nat_lt 1 n ≡ false = elim (cases_Bool (nat_lt 1 n)) [
      | inl more ↦ absurd (omega (arith, ltb-true 1 n more, counted, c.if-how_many-le1.true))
      | inr few ↦ few
    ] in
    g.met.T.RowTaker.missing c.args.taker.now cs (row_together set i row.processor row.group) c.args.task.now.bounds.now
    (together_missing set i row.processor (least_above row.group) test cs
    (ap (λ b. b && nat_le (least_above row.group) (used_above set i row.processor)) one))

pub add_row_limited-requires-clause-row : goal.add_row_limited-requires-clause-row
add_row_limited-requires-clause-row g c =
    let set = c.args.task.now.set.now in
    let i = c.args.task.now.i.0 in
    let row = c.args.row.now in
    let test = taken_together set i row.processor row.group in
    let n = count_below (length set.resources) test in
    let told = rw c.deref.ensures.value at c.how_many.ensures in
    let counted : c.how_many.result ≡ n = told ∙ told_many (length set.resources) test row.table.items c.requires.table in
    let several : nat_lt 1 n ≡ true = lt-ltb 1 n (omega (arith, counted, c.if-how_many-le1.false)) in
    row_over_all set i c.args.task.now.columns.now (row_together set i row.processor row.group)
    (λ column. AreTold set i row.processor row.group row.table.items) c.requires.rows.can.task c.requires.rows.can.known
    (λ column. record { table_is = c.requires.table; several = several; enough = c.requires.enough })

pub add_row_limited-requires-clause-limit : goal.add_row_limited-requires-clause-limit
add_row_limited-requires-clause-limit g c =
    let set = c.args.task.now.set.now in
    let i = c.args.task.now.i.0 in
    let row = c.args.row.now in
    let summed = rw c.deref-2.ensures.value at c.sum_passing-limit.ensures.value in
    ap (λ n. 1 + n) (summed ∙ told_requests set (slice_index c.args.task.now.bounds.now) i (taken_together set i row.processor row.group)
    row.table.items c.args.task.now.requests.now c.requires.table c.requires.rows.requests.each)
