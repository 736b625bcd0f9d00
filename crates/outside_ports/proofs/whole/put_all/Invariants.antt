-- After each write the sink has taken the front of the text.
use Rattle.std.proofs.Common.{◌≡◌, ◌+◌, ◌-◌, ◌≤◌, length, take}
use Rattle.std.specs.Prelude.{is_some}
use Rattle.std.specs.Io.KnownBytes.{Appends}
use Rattle.outside_ports.proofs.whole.put_all.Given as goal

abbrev pub invariant-loop-sent : goal.invariant-loop-sent
invariant-loop-sent g l = record {
  within : l.sent ≤ length l.text;
  tells : is_some (g.K.Sink.seen l.sink).written ≡ is_some (g.K.Sink.seen l.initial.sink).written;
  later : (g.K.Sink.seen l.initial.sink).faults ≤ (g.K.Sink.seen l.sink).faults;
  calls : (g.K.Sink.seen l.sink).calls ≤ (g.K.Sink.seen l.initial.sink).calls + l.sent;
  takes : length l.text ≤ (g.K.Sink.seen l.initial.sink).room
      → ((g.K.Sink.seen l.initial.sink).room ≤ (g.K.Sink.seen l.sink).room + l.sent)
      × ((g.K.Sink.seen l.sink).faults ≡ (g.K.Sink.seen l.initial.sink).faults);
  appended : Appends (g.K.Sink.seen l.initial.sink).written (g.K.Sink.seen l.sink).written (take l.sent l.text);
}

abbrev pub decreases-loop-sent : goal.decreases-loop-sent
decreases-loop-sent g l = length l.text - l.sent
