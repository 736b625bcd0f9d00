use Rattle.std.proofs.Common.{◌≡◌, arith, false, nat_lt, nat_le, map, length, inl, inr}
use Rattle.std.proofs.lemmas.Bool.{cases_Bool, leb-true}
use Rattle.number_laws.specs.Tests.{count_below}
use Rattle.blocking_columns.specs.ColumnDef.{column_seen}
use Rattle.closer_spin_laws.specs.CloserSpinRows.{used_above}
use Rattle.closer_spin.specs.Together.{taken_together, row_together, least_above}
use Rattle.closer_spin.proofs.Told.{together_missing, too_few}
use Rattle.closer_spin.proofs.rows.add_group.Goals as goal

pub returns-then-there-least_above : goal.returns-then-there-least_above
returns-then-there-least_above g c =
    let set = c.args.task.now.set.now in
    let i = c.args.task.now.i.0 in
    let k = c.args.there.now.processor in
    let group = c.args.group in
    let cs = map column_seen c.args.task.now.columns.now in
    let test = taken_together set i k group in
    let enough : nat_le (least_above group) (used_above set i k) ≡ false =
    elim (cases_Bool (nat_le (least_above group) (used_above set i k))) [
      | inl most ↦ absurd (omega (
        arith,
        leb-true (least_above group) (used_above set i k) most,
        c.requires.there.there.above_is,
        c.least_above.ensures,
        c.if-there-least_above.true,
      ))
      | inr few ↦ few
    ] in
    g.met.T.RowTaker.missing c.args.taker.now cs (row_together set i k group) c.args.task.now.bounds.now
    (together_missing set i k (least_above group) test cs (too_few (nat_lt 1 (count_below (length set.resources) test)) _ enough))
