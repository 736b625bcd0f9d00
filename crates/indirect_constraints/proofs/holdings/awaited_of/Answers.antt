use Rattle.std.proofs.Common.{◌≡◌, ℕ, ◌<◌, [], length, drop, arith, rules}
use Rattle.std.specs.Prelude.{slice_index}
use Rattle.std.proofs.lemmas.List.{drop_all, get_or-replicate, with_items_is}
use Rattle.sporadic_model.specs.declared.ids.ResourceId.{ResourceId}
use Rattle.blocking_columns.specs.Windows.{requests_in}
use Rattle.indirect_constraints.proofs.ByUser.{used_sum, used_few, rest_more}
use Rattle.indirect_constraints.proofs.holdings.awaited_of.Goals as goal

pub loop-q-init : goal.loop-q-init
loop-q-init c =
    let set = c.args.set.now in
    let f : ℕ → ℕ → ℕ = λ y q. requests_in set (slice_index c.args.bounds.now) c.args.i.0 y q in
    let zeros = c.in_ok-numbers.ensures.items_if_clones_equal (λ y same. same) in
    let zero : (y : ℕ) → y < length set.tasks → slice_index c.in_ok-numbers.numbers.items y ≡ 0 =
    λ y l. rw zeros (get_or-replicate c.tasks.result y 0 0 (omega (arith, l, c.tasks.ensures.value))) in
    record {
      one_each = search rules;
      each = λ y l. omega (arith, zero y (omega (arith, l, c.requires.task)), used_sum set c.args.i.0 (f y) c.used_by-q-items.result.now c.used_by-q-items.ensures.value);
      room = λ y l. omega (arith, zero y (omega (arith, l, c.requires.task)));
      others = λ y m l. zero y l;
    }

pub add_requests_of-requires-clause-room : goal.add_requests_of-requires-clause-room
add_requests_of-requires-clause-room c =
    let few = used_few c.args.set.now c.args.i.0 c.used_by-q-items.result.now c.used_by-q-items.ensures.value in
    rw c.deref_mut.ensures.value (record {
      one_each = c.loop-q.invariant.one_each;
      each = λ y l. omega (
        arith,
        few,
        c.loop-q-test.true,
        c.loop-q.invariant.room y l,
        c.resources-resources.ensures.value,
        c.resources-resources.ensures.most,
      );
    })

pub loop-q-preserved : goal.loop-q-preserved
loop-q-preserved c =
    let qs = c.used_by-q-items.result.now in
    let f : ℕ → ℕ → ℕ = λ y q. requests_in c.args.set.now (slice_index c.args.bounds.now) c.args.i.0 y q in
    let written = with_items_is c.loop-q.numbers c.add_requests_of.new.numbers (search rules) in
    rw written (record {
      one_each = c.add_requests_of.ensures.one_each;
      each = λ y l.
          let added = rw c.deref_mut.ensures.value at c.add_requests_of.ensures.each y l in
          omega (
            arith,
            added,
            rest_more (λ (q : ResourceId). f y q.0) qs c.loop-q.q-index (record { 0 = 0 }) c.loop-q-test.true,
            c.loop-q.invariant.each y l,
          );
      room = λ y l.
          let most = rw c.deref_mut.ensures.value at c.add_requests_of.ensures.most y l in
          omega (arith, most, c.loop-q.invariant.room y l);
      others = λ y m l.
          let kept = rw c.deref_mut.ensures.value at c.add_requests_of.ensures.others y m in
          omega (arith, kept, c.loop-q.invariant.others y m l);
    })

pub returns : goal.returns
returns c =
    let few = used_few c.args.set.now c.args.i.0 c.used_by-q-items.result.now c.used_by-q-items.ensures.value in
    let end : drop c.loop-q.q-index c.used_by-q-items.result.now ≡ [] =
    drop_all c.loop-q.q-index c.used_by-q-items.result.now (omega (arith, c.loop-q-test.false)) in
    record {
      one_each = c.loop-q.invariant.one_each;
      each = λ y l. let here = c.loop-q.invariant.each y l in omega (arith, rw end at here);
      small = λ y l. omega (
        arith,
        few,
        c.loop-q.auto.q-index-end,
        c.loop-q.invariant.room y l,
        c.resources-resources.ensures.value,
        c.resources-resources.ensures.most,
      );
      others = c.loop-q.invariant.others;
    }
