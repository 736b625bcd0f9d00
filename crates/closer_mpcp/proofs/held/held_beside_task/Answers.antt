use Rattle.std.proofs.Common.{rules, ◌≡◌, ◌<◌, ◌≤◌, ◌∙◌, length, ap, sym, arith}
use Rattle.std.specs.Prelude.{slice_index}
use Rattle.sporadic_model.specs.Users.{used_by}
use Rattle.closer_mpcp.specs.Tables.{shared_beside}
use Rattle.closer_mpcp.proofs.ListedSums.{used_few, long_as, number_of}
use Rattle.closer_mpcp.proofs.Pushed.{one_written}
use Rattle.closer_mpcp.proofs.held.held_beside_task.Goals as goal

-- A set has no more resources than the row has places.
within : (c : goal.After-shared_beside) → c.loop-k.k < length c.loop-k.held
within c =
    let few = used_few c.args.set.now c.args.i.0 c.used_by-used.result.now c.used_by-used.ensures.value in
    omega (
      arith,
      few,
      c.loop-k-test.true,
      c.resources-resources.ensures.value,
      c.resources-resources.ensures.most,
      c.loop-k.invariant.enough,
    )

pub bounds-held-k : goal.bounds-held-k
bounds-held-k c = omega (arith, within c, c.loop-k.invariant.enough)

pub loop-k-preserved : goal.loop-k-preserved
loop-k-preserved c =
    let set = c.args.set.now in
    let i = c.args.i.0 in
    let x = c.args.x.0 in
    let used = c.used_by-used.result.now in
    let bounds = slice_index c.args.bounds.now in
    let last = c.shared_beside.ensures.value ∙ ap (shared_beside set bounds i x)
    (sym (number_of set i used c.loop-k.k (record { 0 = 0 }) c.used_by-used.ensures.value c.loop-k-test.true)) in
    record {
      enough = search rules;
      each = one_written (λ k n. n ≡ shared_beside set bounds i x (slice_index (used_by set i) k)) c.loop-k.k c.shared_beside.result
          c.loop-k.held (within c) c.loop-k.invariant.each last;
      small = one_written (λ k n. n ≤ 128000000001000) c.loop-k.k c.shared_beside.result c.loop-k.held (within c) c.loop-k.invariant.small
          c.shared_beside.ensures.most;
    }

pub returns : goal.returns
returns c =
    let set = c.args.set.now in
    let used = c.used_by-used.result.now in
    let long = long_as set c.args.i.0 used c.used_by-used.ensures.value in
    record {
      enough = c.loop-k.invariant.enough;
      each = λ k l. c.loop-k.invariant.each k (omega (arith, l, long, c.loop-k-test.false));
      small = λ k l. c.loop-k.invariant.small k (omega (arith, l, long, c.loop-k-test.false));
    }
