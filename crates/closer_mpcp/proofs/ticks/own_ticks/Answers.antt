use Rattle.std.proofs.Common.{arith}
use Rattle.std.specs.Prelude.{slice_index}
use Rattle.mpcp_window_laws.specs.MpcpWindows.{own_ticks}
use Rattle.closer_mpcp.proofs.ListedSums.{all_higher_users, users_few, none_own}
use Rattle.closer_mpcp.proofs.ticks.own_ticks.Goals as goal

pub overflow_add-total : goal.overflow_add-total
overflow_add-total c =
    let few = users_few c.args.set.now c.args.q.0 c.users-users.result.now c.users-users.ensures.value in
    omega (
      arith,
      few,
      c.loop-x-test.true,
      c.tasks-tasks.ensures.value,
      c.tasks-tasks.ensures.most,
      c.loop-x.invariant.most,
      c.own_ticks_of-total.ensures.most,
    )

pub returns : goal.returns
returns c =
    let set = c.args.set.now in
    let q = c.args.q.0 in
    let bounds = slice_index c.args.bounds.now in
    let few = users_few c.args.set.now c.args.q.0 c.users-users.result.now c.users-users.ensures.value in
    record {
      value = all_higher_users set c.args.i.0 q (own_ticks set bounds q c.args.span) c.users-users.result.now c.loop-x.x-index c.loop-x.total
          c.users-users.ensures.value (omega (arith, c.requires.request.task)) (λ y unused. none_own set bounds q c.args.span y unused) (omega (arith, c.loop-x-test.false))
          c.loop-x.invariant.value;
      most = omega (
        arith,
        few,
        c.loop-x.auto.x-index-end,
        c.tasks-tasks.ensures.value,
        c.tasks-tasks.ensures.most,
        c.loop-x.invariant.most,
      );
    }
