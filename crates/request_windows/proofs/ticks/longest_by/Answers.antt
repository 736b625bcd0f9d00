use Rattle.std.proofs.Common.{◌≡◌, max, arith}
use Rattle.std.proofs.lemmas.List.{drop_all}
use Rattle.window_laws.proofs.KeptGreatest.{greatest_of}
use Rattle.request_windows.proofs.UsedTicks.{holding_up, longest_used}
use Rattle.request_windows.proofs.ticks.longest_by.Goals as goal

pub returns : goal.returns
returns c =
    let set = c.args.set.now in
    let i = c.args.i.0 in
    let x = c.args.x.0 in
    let k = c.args.k in
    let used = c.used_by-used.result.now in
    let whole : max c.loop-q.longest 0 ≡ greatest_of (holding_up set i k x used) =
    rw (drop_all c.loop-q.q-index used (omega (arith, c.loop-q-test.false))) at c.loop-q.invariant.value in
    record {
      value = omega (arith, whole, longest_used set i k x used c.used_by-used.ensures.value);
      most = c.loop-q.invariant.most;
    }
