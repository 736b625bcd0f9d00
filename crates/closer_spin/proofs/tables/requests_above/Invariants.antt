use Rattle.std.proofs.Common.{◌≡◌, ℕ, ◌+◌, ◌<◌, ◌≤◌, length}
use Rattle.std.specs.Prelude.{slice_index}
use Rattle.sporadic_model.specs.Users.{count_of}
use Rattle.spin_charging.specs.SpinPrograms.{higher_requests}
use Rattle.closer_spin.proofs.tables.requests_above.Given as goal

abbrev pub invariant-loop-q : goal.invariant-loop-q
invariant-loop-q l = record {
  one_each : length l.requests.items ≡ l.q;
  each : (k : ℕ) → k < l.q
      → slice_index l.requests.items k ≡ count_of l.set l.i.0 k + higher_requests l.set (slice_index l.bounds) l.i.0 k;
  most : (k : ℕ) → k < l.q → slice_index l.requests.items k ≤ 128000000001000;
}
