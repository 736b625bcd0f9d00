use Rattle.std.proofs.Common.{◌≡◌, ◌+◌, ◌*◌, ◌≤◌, ◌==◌, [], length, arith}
use Rattle.std.specs.List.{sum_by}
use Rattle.std.proofs.lemmas.List.{drop_all}
use Rattle.number_laws.specs.Sums.{only_if}
use Rattle.sporadic_model.specs.Users.{count_of, length_of, is_user}
use Rattle.sporadic_model.specs.Homes.{home_in}
use Rattle.sporadic_model.specs.declared.ids.ResourceId.{ResourceId}
use Rattle.blocking_columns.proofs.KeptNumbers.{kept_few}
use Rattle.request_windows.proofs.UsedTicks.{used_time}
use Rattle.request_windows.proofs.ticks.time_at.Goals as goal

pub overflow_add-total : goal.overflow_add-total
overflow_add-total c =
    let set = c.args.set.now in
    let used = c.used_by-used.result.now in
    let few : length used ≤ length set.resources = kept_few (λ (q : ResourceId). q.0) used (λ q. is_user set q c.args.x.0)
    (length set.resources) c.used_by-used.ensures.value in
    omega (
      arith,
      few,
      c.loop-q-test.true,
      c.resources-resources.ensures.value,
      c.resources-resources.ensures.most,
      c.loop-q.invariant.most,
      c.time_of-total.ensures.most,
    )

pub returns : goal.returns
returns c =
    let set = c.args.set.now in
    let x = c.args.x.0 in
    let k = c.args.k in
    let used = c.used_by-used.result.now in
    let few : length used ≤ length set.resources = kept_few (λ (q : ResourceId). q.0) used (λ q. is_user set q x)
    (length set.resources) c.used_by-used.ensures.value in
    let whole : c.loop-q.total + sum_by (λ (q : ResourceId). only_if (home_in set q.0 == k) (count_of set x q.0 * length_of set x q.0)) []
    ≡ sum_by (λ (q : ResourceId). only_if (home_in set q.0 == k) (count_of set x q.0 * length_of set x q.0)) used =
    rw (drop_all c.loop-q.q-index used (omega (arith, c.loop-q-test.false))) at c.loop-q.invariant.value in
    record {
      value = omega (arith, whole, used_time set x k used c.used_by-used.ensures.value);
      most = omega (
        arith,
        few,
        c.loop-q.auto.q-index-end,
        c.resources-resources.ensures.value,
        c.resources-resources.ensures.most,
        c.loop-q.invariant.most,
      );
    }
