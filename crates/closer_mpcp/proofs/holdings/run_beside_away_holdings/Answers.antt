use Rattle.std.proofs.Common.{◌≡◌, ◌+◌, [], arith}
use Rattle.std.specs.Prelude.{slice_index}
use Rattle.std.specs.List.{sum_by}
use Rattle.std.proofs.lemmas.List.{drop_all}
use Rattle.number_laws.specs.Sums.{only_if}
use Rattle.sporadic_model.specs.declared.ids.ResourceId.{ResourceId}
use Rattle.closer_laws.specs.CloserRows.{is_held_there}
use Rattle.closer_mpcp.specs.Holdings.{runs_there}
use Rattle.closer_mpcp.proofs.ListedSums.{used_sum, used_few}
use Rattle.closer_mpcp.proofs.holdings.run_beside_away_holdings.Goals as goal

pub overflow_add-total : goal.overflow_add-total
overflow_add-total c =
    let used = c.used_by-used.result.now in
    let few = used_few c.args.set.now c.args.i.0 used c.used_by-used.ensures.value in
    omega (
      arith,
      few,
      c.loop-k-test.true,
      c.resources-resources.ensures.value,
      c.resources-resources.ensures.most,
      c.loop-k.invariant.most,
      c.run_of-total.ensures.most,
    )

pub returns : goal.returns
returns c =
    let set = c.args.set.now in
    let i = c.args.i.0 in
    let x = c.args.x.0 in
    let used = c.used_by-used.result.now in
    let whole : c.loop-k.total + sum_by (λ (r : ResourceId). only_if (is_held_there set i x r.0) (runs_there set (slice_index c.args.bounds.now) i x r.0)) []
    ≡ sum_by (λ (r : ResourceId). only_if (is_held_there set i x r.0) (runs_there set (slice_index c.args.bounds.now) i x r.0)) used =
    rw (drop_all c.loop-k.k used (omega (arith, c.loop-k-test.false))) at c.loop-k.invariant.value in
    omega (
      arith,
      whole,
      used_sum set i (is_held_there set i x) (runs_there set (slice_index c.args.bounds.now) i x) used c.used_by-used.ensures.value,
    )
