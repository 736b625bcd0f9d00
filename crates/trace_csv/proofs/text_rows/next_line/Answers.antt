use Rattle.std.proofs.Common.{List, slice_get, ap, arith}
use Rattle.trace_csv.specs.Records.{Fields}
use Rattle.trace_csv.proofs.text_rows.next_line.Goals as goal

pub unreachable-requires : goal.unreachable-requires
unreachable-requires c =
    let long = rw c.in-Long.is at c.in_ok-fields.ensures in
    omega (arith, long.3, c.requires long.0 (ap (λ (ls : List Fields). slice_get ls 0) long.2))
