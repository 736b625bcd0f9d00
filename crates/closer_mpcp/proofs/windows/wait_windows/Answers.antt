use Rattle.std.proofs.Common.{rules, ◌≡◌, ◌≤◌, true, None, unwrap_or}
use Rattle.std.specs.Prelude.{slice_index}
use Rattle.sporadic_model.specs.Users.{is_user}
use Rattle.mpcp_window_laws.specs.MpcpWindows.{wait_window}
use Rattle.closer_mpcp.proofs.Pushed.{one_more}
use Rattle.closer_mpcp.proofs.windows.wait_windows.Goals as goal

pub loop-q-preserved : goal.loop-q-preserved
loop-q-preserved c =
    let set = c.args.set.now in
    let windows = c.loop-q.windows.items in
    record {
      one_each = search rules;
      each = λ q l. rw (c.in_ok-push.ensures.items)
          (one_more (λ k w. is_user set k c.args.i.0 ≡ true → w ≡ wait_window set (slice_index c.args.bounds.now) c.args.i.0 k)
          c.loop-q.q windows c.window_if_used.result None c.loop-q.invariant.one_each c.loop-q.invariant.each
          c.window_if_used.ensures.value q l);
      small = λ q l. rw (c.in_ok-push.ensures.items)
          (one_more (λ k w. unwrap_or w 0 ≤ 1000000000) c.loop-q.q windows c.window_if_used.result None c.loop-q.invariant.one_each
          c.loop-q.invariant.small c.window_if_used.ensures.small q l);
    }
