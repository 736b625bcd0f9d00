use Rattle.std.proofs.Common.{ℕ, ◌==◌, ◌<◌, ◌≡◌, length, arith, count_by, take_all, List, subst}
use Rattle.std.specs.Prelude.{slice_index}
use Rattle.sporadic_model.specs.Homes.{home_in}
use Rattle.sporadic_model.specs.declared.ids.ResourceId.{ResourceId}
use Rattle.sporadic_model.specs.declared.limits.TheConstants.{MOST_PROCESSORS}
use Rattle.blocking_columns.proofs.HomeCounts.{home_placed, few_counted, are_counts}
use Rattle.blocking_columns.proofs.homes.count_homes.Goals as goal

pub bounds-counts-home : goal.bounds-counts-home
bounds-counts-home c =
    let room : MOST_PROCESSORS < length c.loop-r.counts = omega (arith, c.requires.none.room, c.loop-r.auto.counts) in
    let known = c.used_by-used.ensures.within c.loop-r.r-index (record { 0 = 0 }) c.loop-r-test.true in
    omega (
      arith,
      home_placed c.args.set.now _ (length c.loop-r.counts) c.tasks-tasks.ensures.accepted c.tasks-tasks.ensures.sizes room known,
      c.home.ensures,
    )

pub bounds-counts-home-in-loop-r : goal.bounds-counts-home-in-loop-r
bounds-counts-home-in-loop-r c =
    let room : MOST_PROCESSORS < length c.loop-r.counts = omega (arith, c.requires.none.room, c.loop-r.auto.counts) in
    let known = c.used_by-used.ensures.within c.loop-r.r-index (record { 0 = 0 }) c.loop-r-test.true in
    omega (
      arith,
      home_placed c.args.set.now _ (length c.loop-r.counts) c.tasks-tasks.ensures.accepted c.tasks-tasks.ensures.sizes room known,
      c.home.ensures,
    )

pub overflow_add-counts : goal.overflow_add-counts
overflow_add-counts c =
    let set = c.args.set.now in
    let room : MOST_PROCESSORS < length c.loop-r.counts = omega (arith, c.requires.none.room, c.loop-r.auto.counts) in
    let known = c.used_by-used.ensures.within c.loop-r.r-index (record { 0 = 0 }) c.loop-r-test.true in
    let placed : c.home.result < length c.loop-r.counts =
    omega (arith, home_placed set _ (length c.loop-r.counts) c.tasks-tasks.ensures.accepted c.tasks-tasks.ensures.sizes room known, c.home.ensures) in
    let few = few_counted set c.args.i.0 c.loop-r.r-index (λ (r : ResourceId). home_in set r.0 == c.home.result) c.used_by-used.result.now
    c.used_by-used.ensures.value c.tasks-tasks.ensures.sizes in
    omega (arith, c.loop-r.invariant.each c.home.result placed, few)

pub returns : goal.returns
returns c =
    let set = c.args.set.now in
    let used = c.used_by-used.result.now in
    let counts = c.loop-r.counts in
    let room : MOST_PROCESSORS < length counts = omega (arith, c.requires.none.room, c.loop-r.auto.counts) in
    are_counts set c.args.i.0 used counts c.used_by-used.ensures.value c.tasks-tasks.ensures.accepted c.tasks-tasks.ensures.sizes room
    (subst (λ (rs : List ResourceId). (k : ℕ) → k < length counts → slice_index counts k ≡ count_by (λ r. home_in set r.0 == k) rs)
    (take_all c.loop-r.r-index used c.loop-r-test.false) c.loop-r.invariant.each)
