use Rattle.std.proofs.Common.{◌≡◌, ◌*◌, ◌≤◌}
use Rattle.std.specs.Prelude.{slice_index}
use Rattle.number_laws.specs.Sums.{sum_below, only_if}
use Rattle.blocking_columns.specs.Columns.{have_one_processor}
use Rattle.blocking_columns.specs.Windows.{requests_in}
use Rattle.spin_protocol.proofs.rows.higher_requests.Given as goal

abbrev pub invariant-loop-h : goal.invariant-loop-h
invariant-loop-h l = record {
  value : l.total ≡ sum_below l.h (λ h. only_if (have_one_processor l.set h l.i.0) (requests_in l.set (slice_index l.bounds) l.i.0 h l.q.0));
  most : l.total ≤ l.h * 2000000000000;
}
