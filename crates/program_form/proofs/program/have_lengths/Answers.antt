use Rattle.std.proofs.Common.{◌≡◌, length, ◌==◌, true, sym, ◌∙◌, eq-eqb}
use Rattle.std.proofs.lemmas.List.{length-map}
use Rattle.std.proofs.lemmas.List.Folds.{list_all-map}
use Rattle.program_form.specs.RowBlock.{rows_seen}
use Rattle.program_form.proofs.program.have_lengths.Goals as goal

pub returns-then-limits-rows : goal.returns-then-limits-rows
returns-then-limits-rows c =
    let same : (length c.args.limits.now == length (rows_seen c.args.rows.now)) ≡ true
    = eq-eqb (length c.args.limits.now) (length (rows_seen c.args.rows.now))
    (c.if-limits-rows.true ∙ sym (length-map c.args.rows.now (λ row. row.items))) in
    let seen = list_all-map (λ row. length row == length c.args.costs.now) (λ row. row.items) c.args.rows.now in
    rw (same, seen) c.have_width.ensures
