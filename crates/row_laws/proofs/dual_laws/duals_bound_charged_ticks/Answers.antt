use Rattle.std.proofs.Common.{◌≡◌, Some}
use Rattle.std.specs.List.{Contains}
use Rattle.sporadic_model.proofs.Laws.{formed_of_accepted}
use Rattle.blocking_columns.specs.ColumnDef.{ColumnDef}
use Rattle.blocking_columns.specs.Columns.{columns_where}
use Rattle.charge_laws.specs.Fractions.{charged_column}
use Rattle.row_laws.proofs.Fractions.{rows_are_point}
use Rattle.row_laws.proofs.Joined.{users_have_lengths, ticks_bounded}
use Rattle.row_laws.proofs.dual_laws.duals_bound_charged_ticks.Goals as goal

pub returns : goal.returns
returns c = λ charges test rows interferes w bounds n j den num accepted users met placed covers.
    ticks_bounded charges (columns_where test w.set) rows interferes w bounds n j den num
    (rows_are_point charges test rows w bounds n j (users_have_lengths test w.set (formed_of_accepted w.set accepted) users) met)
    (λ t l blocked. let a : (c : ColumnDef) × (charged_column charges w t j ≡ Some c) × Contains (columns_where test w.set) c =
    placed t l blocked in
    record { column = a.0; is_it = a.1; there = a.2 }) covers
