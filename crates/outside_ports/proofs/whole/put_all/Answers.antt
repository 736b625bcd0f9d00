use Rattle.std.proofs.Common.{arith, ◌∙◌, ◌-◌, ◌≤◌, length, take, drop}
use Rattle.outside_ports.proofs.Pieces.{Appends-next, length-rest}
use Rattle.outside_ports.proofs.whole.put_all.Goals as goal

pub loop-sent-preserved : goal.loop-sent-preserved
loop-sent-preserved g c = record {
  within = omega (arith, c.in-Ok.ensures.writes.bound);
  tells = c.in-Ok.ensures.writes.tells ∙ c.loop-sent.invariant.tells;
  later = omega arith;
  calls = omega (arith, c.in-Ok.ensures.writes.some, c.in-Ok.ensures.writes.one_call);
  takes = λ fits.
      let before = c.loop-sent.invariant.takes fits in
      let piece : length (take (length c.args.text.now - c.loop-sent.sent) (drop c.loop-sent.sent c.args.text.now))
      ≤ (g.K.Sink.seen c.loop-sent.sink).room =
      omega (arith, length-rest c.args.text.now c.loop-sent.sent, fits, before.0) in
      let after = c.in-Ok.ensures.writes.takes piece in
      (omega (arith, before.0, after.0), after.1 ∙ before.1);
  appended = Appends-next _ _ _ _ _ _ c.loop-sent.invariant.appended c.in-Ok.ensures.writes.appends;
}
