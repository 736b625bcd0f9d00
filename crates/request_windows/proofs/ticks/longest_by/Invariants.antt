use Rattle.std.proofs.Common.{◌≡◌, ◌≤◌, max, drop}
use Rattle.window_laws.proofs.KeptGreatest.{greatest_of}
use Rattle.request_windows.proofs.UsedTicks.{holding_up}
use Rattle.request_windows.proofs.ticks.longest_by.Given as goal

abbrev pub invariant-loop-q : goal.invariant-loop-q
invariant-loop-q l = record {
  value : max l.longest (greatest_of (holding_up l.set l.i.0 l.k l.x.0 (drop l.q-index l.used))) ≡ greatest_of (holding_up l.set l.i.0 l.k l.x.0 l.used);
  most : l.longest ≤ 1000000000;
}
