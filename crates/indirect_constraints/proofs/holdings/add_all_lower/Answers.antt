use Rattle.std.proofs.Common.{ℕ, ◌*◌, get_or, arith, rules}
use Rattle.std.proofs.lemmas.List.{with_items_is}
use Rattle.sporadic_model.specs.declared.ids.ResourceId.{ResourceId}
use Rattle.indirect_constraints.specs.Tables.{held_on, held_alone}
use Rattle.indirect_constraints.proofs.ByUser.{used_sum, used_few, rest_more}
use Rattle.indirect_constraints.proofs.Held.{on_few, alone_few, room_stays}
use Rattle.indirect_constraints.proofs.holdings.add_all_lower.Goals as goal

pub loop-q-init : goal.loop-q-init
loop-q-init c =
    let set = c.args.set.now in
    let i = c.args.i.0 in
    let used = c.used_by-q-items in
    record {
      users = search rules;
      room = c.requires.room;
      each = λ k l. omega (arith, used_sum set i (held_on set i k) used.result.now used.ensures.value);
      alone = λ x l. omega (arith, used_sum set i (held_alone set i x) used.result.now used.ensures.value);
    }

pub add_lower-requires-clause-room : goal.add_lower-requires-clause-room
add_lower-requires-clause-room c =
    let few = used_few c.args.set.now c.args.i.0 c.used_by-q-items.result.now c.used_by-q-items.ensures.value in
    room_stays c.args.set.now (c.loop-q.q-index * 1000) 31000 c.loop-q.totals c.loop-q.numbers
    (omega (arith, few, c.loop-q-test.true, c.resources-resources.ensures.value, c.resources-resources.ensures.most))
    c.loop-q.invariant.room

pub loop-q-preserved : goal.loop-q-preserved
loop-q-preserved c =
    let set = c.args.set.now in
    let i = c.args.i.0 in
    let qs = c.used_by-q-items.result.now in
    let j = c.loop-q.q-index in
    let q : ℕ = (get_or qs j (record { 0 = 0 })).0 in
    let users = with_items_is c.loop-q.users c.add_lower.new.users (search rules) in
    rw users (record {
      users = c.add_lower.ensures.users;
      room = record {
        on_processors = record {
          size = c.add_lower.ensures.totals.size;
          each = λ k l. omega (
            arith,
            c.add_lower.ensures.totals.each k l,
            c.add_lower.ensures.few,
            on_few set i q k,
            c.loop-q.invariant.room.on_processors.each k l,
          );
        };
        of_tasks = record {
          size = c.add_lower.ensures.alone.size;
          each = λ x l. omega (
            arith,
            c.add_lower.ensures.alone.each x l,
            c.add_lower.ensures.few,
            alone_few set i q x,
            c.loop-q.invariant.room.of_tasks.each x l,
          );
        };
      };
      each = λ k l. omega (
        arith,
        c.add_lower.ensures.totals.each k l,
        rest_more (λ (h : ResourceId). held_on set i k h.0) qs j (record { 0 = 0 }) c.loop-q-test.true,
        c.loop-q.invariant.each k l,
      );
      alone = λ x l. omega (
        arith,
        c.add_lower.ensures.alone.each x l,
        rest_more (λ (h : ResourceId). held_alone set i x h.0) qs j (record { 0 = 0 }) c.loop-q-test.true,
        c.loop-q.invariant.alone x l,
      );
    })
