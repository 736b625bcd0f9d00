-- How the fields of a `MemSink` are read as a sink in memory.
use Rattle.std.specs.Prelude.{◌<◌, ◌≤◌, vec_len, vec_capacity}
use Rattle.outside_ports.specs.MemorySink.{MemorySink}
use Rattle.outside_ports.specs.declared.memory_sink.MemSink.TheInside.{Inside}

abbrev pub memory_sink : Inside → MemorySink
memory_sink sink = record {
  bytes = sink.bytes.items;
  room = sink.room;
  piece = sink.piece;
  failing = sink.failing.items;
  calls = sink.calls;
  faults = sink.faults;
}

-- The memory for the whole room is reserved, so a write takes none.
pub record IsReserved (sink : Inside) : Type 0 where
  pub piece : 0 < sink.piece
  pub within : vec_len sink.bytes ≤ sink.room
  pub reserved : sink.room ≤ vec_capacity sink.bytes
