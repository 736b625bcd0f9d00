-- A sink in memory: a room for bytes, and a list of the writes that fail.
use Rattle.std.specs.Prelude.{◌≡◌, ℕ, ◌==◌, ◌||◌, ◌-◌, Bool, List, length, Some, if◌then◌else◌}
use Rattle.std.specs.List.{list_any}
use Rattle.outside_ports.specs.Counts.{counted}
use Rattle.outside_ports.specs.Ports.{SinkDef}

-- `bytes` are written already, `room` is the most of them, `piece` is the most bytes of one write, `calls` counts
-- the writes, and `failing` lists the numbers of writes that fail
pub record MemorySink : Type 0 where
  pub bytes : List ℕ
  pub room : ℕ
  pub piece : ℕ
  pub failing : List ℕ
  pub calls : ℕ
  pub faults : ℕ

-- Is the next write a fault? Its number is listed, or the room is full.
abbrev pub faults_next : MemorySink → Bool
faults_next sink = list_any (λ number. number == counted sink.calls) sink.failing || (sink.room - length sink.bytes == 0)

-- How many more bytes will it take with no fault? None if some write may fail.
abbrev pub room_left : MemorySink → ℕ
room_left sink = if length sink.failing == 0 then sink.room - length sink.bytes else 0

-- What contracts see of it as of a sink. It tells all.
abbrev pub as_sink : MemorySink → SinkDef
as_sink sink = record { written = Some sink.bytes; faults = sink.faults; calls = sink.calls; room = room_left sink }

-- What does every write do to the sink's counts? It is counted, and so is its fault; what was given to `new` stays.
pub record CountsWrite (old new : MemorySink) : Type 0 where
  pub room : new.room ≡ old.room
  pub piece : new.piece ≡ old.piece
  pub failing : new.failing ≡ old.failing
  pub calls : new.calls ≡ counted old.calls
  pub faults : new.faults ≡ (if faults_next old then counted old.faults else old.faults)
