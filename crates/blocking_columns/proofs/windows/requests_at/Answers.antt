use Rattle.std.proofs.Common.{◌≡◌, ◌+◌, ◌≤◌, ◌==◌, [], length, arith}
use Rattle.std.specs.List.{sum_by}
use Rattle.std.proofs.lemmas.List.{drop_all}
use Rattle.number_laws.specs.Sums.{only_if}
use Rattle.sporadic_model.specs.Users.{count_of, is_user}
use Rattle.sporadic_model.specs.Homes.{home_in}
use Rattle.sporadic_model.specs.declared.ids.ResourceId.{ResourceId}
use Rattle.blocking_columns.proofs.KeptNumbers.{kept_few}
use Rattle.blocking_columns.proofs.UsedRequests.{used_requests_at}
use Rattle.blocking_columns.proofs.windows.requests_at.Goals as goal

pub overflow_add-total : goal.overflow_add-total
overflow_add-total c =
    let set = c.args.set.now in
    let used = c.used_by-used.result.now in
    let few : length used ≤ length set.resources = kept_few (λ (q : ResourceId). q.0) used (λ q. is_user set q c.args.i.0)
    (length set.resources) c.used_by-used.ensures.value in
    omega (
      arith,
      few,
      c.loop-q-test.true,
      c.resources-resources.ensures.value,
      c.resources-resources.ensures.most,
      c.loop-q.invariant.most,
      c.count-total.ensures.most,
    )

pub returns : goal.returns
returns c =
    let set = c.args.set.now in
    let i = c.args.i.0 in
    let k = c.args.k in
    let used = c.used_by-used.result.now in
    let whole : c.loop-q.total + sum_by (λ (q : ResourceId). only_if (home_in set q.0 == k) (count_of set i q.0)) []
    ≡ sum_by (λ (q : ResourceId). only_if (home_in set q.0 == k) (count_of set i q.0)) used =
    rw (drop_all c.loop-q.q-index used (omega (arith, c.loop-q-test.false))) at c.loop-q.invariant.value in
    omega (arith, whole, used_requests_at set i k used c.used_by-used.ensures.value)
