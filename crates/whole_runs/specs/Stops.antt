-- What becomes of the stop of a row.
use Rattle.whole_rows.specs.declared.stops.RowStop.{RowStop}
use Rattle.whole_rows.specs.declared.stops.RowStop.TheVariants as row_stop
use Rattle.whole_runs.specs.declared.stops.Halt.{Halt}
use Rattle.whole_runs.specs.declared.stops.Halt.TheVariants.{Memory, Large}

abbrev pub halt_of : RowStop → Halt
halt_of row_stop.Memory = Memory
halt_of row_stop.Large = Large
