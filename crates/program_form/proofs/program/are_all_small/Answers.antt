use Rattle.std.proofs.Common.{◌≡◌, true, false, sym, ◌∙◌, refl}
use Rattle.std.specs.List.{list_all}
use Rattle.std.proofs.lemmas.List.Folds.{list_all-map}
use Rattle.program_form.specs.Refusals.{are_small}
use Rattle.program_form.specs.RowBlock.{rows_seen}
use Rattle.program_form.proofs.program.are_all_small.Goals as goal
use Rattle.program_form.proofs.program.are_all_small.Goals.{then-are_numbers_small, else-are_numbers_small}

pub returns-then-are_rows_small : goal.returns-then-are_rows_small
returns-then-are_rows_small c =
    let rows = list_all-map are_small (λ row. row.items) c.args.rows.now in
    elim c.if-are_numbers_small.branch [
      | then-are_numbers_small w ↦
          let costs_small : are_small c.args.costs.now ≡ true = cc in
          let rows_small : list_all are_small (rows_seen c.args.rows.now) ≡ true = cc in
          c.are_numbers_small-then-are_rows_small.ensures ∙ sym (rw (costs_small, rows_small) refl)
      | else-are_numbers_small w ↦ cc
    ]

pub returns-else-are_rows_small : goal.returns-else-are_rows_small
returns-else-are_rows_small c =
    let rows = list_all-map are_small (λ row. row.items) c.args.rows.now in
    elim c.if-are_numbers_small.branch [
      | then-are_numbers_small w ↦
          let costs_small : are_small c.args.costs.now ≡ true = cc in
          let rows_large : list_all are_small (rows_seen c.args.rows.now) ≡ false = cc in
          c.if-are_rows_small.false ∙ sym (rw (costs_small, rows_large) refl)
      | else-are_numbers_small w ↦
          let costs_large : are_small c.args.costs.now ≡ false = cc in
          c.if-are_rows_small.false ∙ sym (rw costs_large refl)
    ]
