use Rattle.std.proofs.Common.{◌≡◌, ℕ, ◌+◌, ◌<◌, ◌≤◌, List, [], length, ap, ◌∙◌, arith}
use Rattle.std.specs.Prelude.{slice_index, slice_index_or}
use Rattle.std.specs.List.{sum_by}
use Rattle.std.proofs.lemmas.List.{drop_all, get_or_default}
use Rattle.number_laws.specs.Sums.{only_if}
use Rattle.number_laws.proofs.SumLaws.{only_if-at_most}
use Rattle.sporadic_model.specs.Users.{used_by}
use Rattle.sporadic_model.specs.declared.ids.ResourceId.{ResourceId}
use Rattle.closer_laws.specs.CloserRows.{is_shared_out}
use Rattle.closer_mpcp.specs.Holdings.{counts, held_beside, passes}
use Rattle.closer_mpcp.specs.Tables.{shared_beside}
use Rattle.closer_mpcp.proofs.ListedSums.{used_sum, used_few, long_as, both_asked, number_of, one_term_more}
use Rattle.closer_mpcp.proofs.holdings.shared_holdings.Goals as goal

pub bounds-beside-k : goal.bounds-beside-k
bounds-beside-k c =
    let few = used_few c.args.set.now c.args.i.0 c.used_by-used.result.now c.used_by-used.ensures.value in
    omega (
      arith,
      few,
      c.loop-k-test.true,
      c.resources-resources.ensures.value,
      c.resources-resources.ensures.most,
    )

within : (c : goal.After-count_if_passing-total) → c.loop-k.k < length (used_by c.args.set.now c.args.i.0)
within c =
    let used = c.used_by-used.result.now in
    omega (arith, long_as c.args.set.now c.args.i.0 used c.used_by-used.ensures.value, c.loop-k-test.true)

-- The row of the table that is read.
row : (c : goal.After-count_if_passing-total) → c.index-beside.result.now ≡ slice_index_or c.args.held.now.requests.items c.args.x.0 []
row c = c.index-beside.ensures ∙ get_or_default c.args.held.now.requests.items c.args.x.0 c.index-beside.result.now []
    (omega (arith, c.requires.held.one_each, c.requires.tasks.other))

-- And its entry.
entry : (c : goal.After-count_if_passing-total) → slice_index c.index-beside.result.now c.loop-k.k
    ≡ shared_beside c.args.set.now (slice_index c.args.bounds.now) c.args.i.0 c.args.x.0
    (slice_index_or c.used_by-used.result.now c.loop-k.k (record { 0 = 0 })).0
entry c =
    let set = c.args.set.now in
    let i = c.args.i.0 in
    let used = c.used_by-used.result.now in
    ap (λ (ns : List ℕ). slice_index ns c.loop-k.k) (row c)
    ∙ (c.requires.held.each c.args.x.0 c.requires.tasks.other).each c.loop-k.k (within c)
    ∙ ap (shared_beside set (slice_index c.args.bounds.now) i c.args.x.0)
    (number_of set i used c.loop-k.k (record { 0 = 0 }) c.used_by-used.ensures.value c.loop-k-test.true)

small : (c : goal.After-count_if_passing-total) → c.count_if_passing-total.result ≤ 128000000001000
small c =
    let most : slice_index c.index-beside.result.now c.loop-k.k ≤ 128000000001000 =
    rw (row c) ((c.requires.held.each c.args.x.0 c.requires.tasks.other).small c.loop-k.k (within c)) in
    omega (
      arith,
      c.count_if_passing-total.ensures,
      most,
      only_if-at_most
          (passes c.args.set.now c.args.x.0 c.args.q (slice_index_or c.used_by-used.result.now c.loop-k.k (record { 0 = 0 })).0)
          (slice_index c.index-beside.result.now c.loop-k.k),
    )

pub overflow_add-total : goal.overflow_add-total
overflow_add-total c =
    let few = used_few c.args.set.now c.args.i.0 c.used_by-used.result.now c.used_by-used.ensures.value in
    omega (
      arith,
      few,
      c.loop-k-test.true,
      c.resources-resources.ensures.value,
      c.resources-resources.ensures.most,
      c.loop-k.invariant.most,
      small c,
    )

pub loop-k-preserved : goal.loop-k-preserved
loop-k-preserved c =
    let set = c.args.set.now in
    let i = c.args.i.0 in
    let x = c.args.x.0 in
    let q = c.args.q in
    let bounds = slice_index c.args.bounds.now in
    let used = c.used_by-used.result.now in
    let r = (slice_index_or used c.loop-k.k (record { 0 = 0 })).0 in
    let term : c.count_if_passing-total.result ≡ only_if (counts set i x q r) (held_beside set bounds i x r) =
    c.count_if_passing-total.ensures ∙ (ap (only_if (passes set x q r)) (entry c)
    ∙ both_asked (is_shared_out set i r) (passes set x q r) (held_beside set bounds i x r)) in
    record {
      value = one_term_more (λ (r : ResourceId). only_if (counts set i x q r.0) (held_beside set bounds i x r.0)) used (record { 0 = 0 })
          c.loop-k.k c.count_if_passing-total.result c.loop-k.total _ c.loop-k-test.true c.loop-k.invariant.value term;
      most = omega (arith, c.loop-k.invariant.most, small c);
    }

pub returns : goal.returns
returns c =
    let set = c.args.set.now in
    let i = c.args.i.0 in
    let x = c.args.x.0 in
    let q = c.args.q in
    let used = c.used_by-used.result.now in
    let whole : c.loop-k.total + sum_by (λ (r : ResourceId). only_if (counts set i x q r.0) (held_beside set (slice_index c.args.bounds.now) i x r.0)) []
    ≡ sum_by (λ (r : ResourceId). only_if (counts set i x q r.0) (held_beside set (slice_index c.args.bounds.now) i x r.0)) used =
    rw (drop_all c.loop-k.k used (omega (arith, c.loop-k-test.false))) at c.loop-k.invariant.value in
    let few = used_few c.args.set.now c.args.i.0 c.used_by-used.result.now c.used_by-used.ensures.value in
    record {
      value = omega (
        arith,
        whole,
        used_sum set i (counts set i x q) (held_beside set (slice_index c.args.bounds.now) i x) used c.used_by-used.ensures.value,
      );
      most = omega (
        arith,
        few,
        c.loop-k.auto.k-end,
        c.resources-resources.ensures.value,
        c.resources-resources.ensures.most,
        c.loop-k.invariant.most,
      );
    }
