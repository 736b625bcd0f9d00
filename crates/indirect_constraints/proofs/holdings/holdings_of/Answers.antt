use Rattle.std.proofs.Common.{arith, rules}
use Rattle.std.specs.Prelude.{slice_index}
use Rattle.std.specs.Vec.{with_items}
use Rattle.std.proofs.lemmas.List.{with_items_is}
use Rattle.indirect_constraints.proofs.Held.{own_in_total}
use Rattle.indirect_constraints.proofs.holdings.holdings_of.Goals as goal

pub leave_own-requires : goal.leave_own-requires
leave_own-requires c =
    let set = c.args.set.now in
    let made = c.add_all_lower.new in
    let numbers = with_items_is c.in_ok-numbers.numbers made.numbers (search rules) in
    let totals = with_items_is c.in_ok-totals.totals made.totals (search rules) in
    rw (c.deref_mut-3.ensures.value, c.deref-2.ensures.value, numbers, totals) (record {
      sizes = c.add_all_lower.ensures.sizes;
      part = λ x l.
          let parts = own_in_total set (slice_index c.args.bounds.now) c.args.i.0 x c.in_ok-numbers.numbers.items made.numbers
          c.in_ok-totals.totals.items made.totals l (c.tasks-tasks.ensures.numbers x l).processor_to c.in_ok-numbers.ensures
          (rw c.deref.ensures.value at c.in_ok-totals.ensures) (rw c.deref_mut.ensures.value at c.in_ok-add_all_lower.ensures.totals)
          (rw c.deref_mut-2.ensures.value at c.in_ok-add_all_lower.ensures.alone) in
          omega (arith, parts);
    })

pub returns : goal.returns
returns c =
    let set = c.args.set.now in
    let made = c.add_all_lower.new in
    let numbers = with_items_is c.in_ok-numbers.numbers made.numbers (search rules) in
    let totals = with_items_is c.in_ok-totals.totals made.totals (search rules) in
    let left = rw (c.deref_mut-3.ensures.value, c.deref-2.ensures.value, numbers, totals) at c.leave_own.ensures.each in
    let written = with_items_is (with_items c.in_ok-numbers.numbers made.numbers) c.leave_own.new.numbers (search rules) in
    rw written (record {
      one_each = c.leave_own.ensures.one_each;
      each = λ x l.
          let parts = own_in_total set (slice_index c.args.bounds.now) c.args.i.0 x c.in_ok-numbers.numbers.items made.numbers
          c.in_ok-totals.totals.items made.totals l (c.tasks-tasks.ensures.numbers x l).processor_to c.in_ok-numbers.ensures
          (rw c.deref.ensures.value at c.in_ok-totals.ensures) (rw c.deref_mut.ensures.value at c.in_ok-add_all_lower.ensures.totals)
          (rw c.deref_mut-2.ensures.value at c.in_ok-add_all_lower.ensures.alone) in
          omega (arith, parts, left x l);
    })
