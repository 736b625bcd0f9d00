use Rattle.std.proofs.Common.{◌≡◌, ◌+◌, ◌≤◌, [], length, arith}
use Rattle.std.specs.List.{sum_by}
use Rattle.std.proofs.lemmas.List.{drop_all}
use Rattle.sporadic_model.specs.Users.{count_of, is_user}
use Rattle.sporadic_model.specs.declared.ids.ResourceId.{ResourceId}
use Rattle.blocking_columns.proofs.KeptNumbers.{kept_few}
use Rattle.blocking_columns.proofs.UsedRequests.{used_requests}
use Rattle.blocking_columns.proofs.windows.requests_of.Goals as goal

pub overflow_add-total : goal.overflow_add-total
overflow_add-total c =
    let set = c.args.set.now in
    let used = c.used_by-used.result.now in
    let few : length used ≤ length set.resources = kept_few (λ (q : ResourceId). q.0) used (λ q. is_user set q c.args.i.0)
    (length set.resources) c.used_by-used.ensures.value in
    omega (
      arith,
      few,
      c.loop-q-test.true,
      c.resources-resources.ensures.value,
      c.resources-resources.ensures.most,
      c.loop-q.invariant.most,
      c.count-total.ensures.most,
    )

pub returns-clause-value : goal.returns-clause-value
returns-clause-value c =
    let set = c.args.set.now in
    let i = c.args.i.0 in
    let used = c.used_by-used.result.now in
    let whole : c.loop-q.total + sum_by (λ (q : ResourceId). count_of set i q.0) [] ≡ sum_by (λ (q : ResourceId). count_of set i q.0) used =
    rw (drop_all c.loop-q.q-index used (omega (arith, c.loop-q-test.false))) at c.loop-q.invariant.value in
    omega (arith, whole, used_requests set i used c.used_by-used.ensures.value)

pub returns-clause-most : goal.returns-clause-most
returns-clause-most c =
    let set = c.args.set.now in
    let used = c.used_by-used.result.now in
    let few : length used ≤ length set.resources = kept_few (λ (q : ResourceId). q.0) used (λ q. is_user set q c.args.i.0)
    (length set.resources) c.used_by-used.ensures.value in
    omega (
      arith,
      few,
      c.loop-q.auto.q-index-end,
      c.resources-resources.ensures.value,
      c.resources-resources.ensures.most,
      c.loop-q.invariant.most,
    )
