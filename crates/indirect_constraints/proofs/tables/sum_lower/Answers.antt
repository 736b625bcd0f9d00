use Rattle.std.proofs.Common.{◌≡◌, ℕ, ◌+◌, ◌≤◌, ◌==◌, ◌∙◌, nat_lt, length, drop, get_or, [], refl, ap, arith}
use Rattle.std.specs.Prelude.{slice_index}
use Rattle.std.proofs.lemmas.Bool.{lt-ltb, le-ltb}
use Rattle.std.proofs.lemmas.List.{drop_all}
use Rattle.number_laws.specs.Sums.{only_if, flag}
use Rattle.number_laws.proofs.OnlyIfLaws.{only_if-nothing}
use Rattle.number_laws.proofs.SumLaws.{only_if-at_most}
use Rattle.sporadic_model.specs.SetDef.{task_at}
use Rattle.sporadic_model.specs.declared.ids.TaskId.{TaskId}
use Rattle.indirect_constraints.specs.Tables.{lower_user, sum_on}
use Rattle.indirect_constraints.proofs.ByUser.{first_at, users_few, users_on, users_all, rest_more}
use Rattle.indirect_constraints.proofs.tables.sum_lower.Goals as goal
use Rattle.indirect_constraints.proofs.tables.sum_lower.Goals.{then-i-y, else-i-y}

pub loop-y-init : goal.loop-y-init
loop-y-init c =
    let set = c.args.set.now in
    let users = c.users-y-items in
    record {
      one_each = c.clear.ensures.size ∙ c.requires.one_each;
      each = λ k l. omega (arith, c.clear.ensures.each k, users_on set c.args.i.0 c.args.q.0 k users.result.now users.ensures.value);
      most = λ k l. omega (arith, c.clear.ensures.each k);
      all = omega (arith, users_all set c.args.i.0 c.args.q.0 users.result.now users.ensures.value);
      few = omega arith;
      totals = c.requires.room.size;
      held = λ k l. rw (c.clear.ensures.each k) (omega arith);
    }

pub add_at-requires-clause-room : goal.add_at-requires-clause-room
add_at-requires-clause-room c =
    let few = users_few c.args.set.now c.args.q.0 c.users-y-items.result.now c.users-y-items.ensures.value in
    let here = c.loop-y.invariant.most c.processor-processor.result c.processor-processor.ensures.most in
    omega (arith, few, here, c.loop-y-test.true, c.tasks-tasks.ensures.value, c.tasks-tasks.ensures.most)

pub add_at-requires-then-i-y-clause-room : goal.add_at-requires-then-i-y-clause-room
add_at-requires-then-i-y-clause-room c =
    let p = c.processor-processor.result in
    omega (
      arith,
      c.loop-y.invariant.held p c.processor-processor.ensures.most,
      only_if-at_most (nat_lt 0 (slice_index c.loop-y.sums p)) c.args.count,
      c.requires.room.each p (omega (arith, c.processor-processor.ensures.most)),
      c.where_passed.ensures,
      only_if-at_most (slice_index c.loop-y.sums p == 0) c.args.count,
      c.requires.count.most,
    )

pub overflow_add-all : goal.overflow_add-all
overflow_add-all c =
    let few = users_few c.args.set.now c.args.q.0 c.users-y-items.result.now c.users-y-items.ensures.value in
    omega (arith, few, c.loop-y.invariant.few, c.loop-y-test.true, c.tasks-tasks.ensures.value, c.tasks-tasks.ensures.most)

pub loop-y-preserved : goal.loop-y-preserved
loop-y-preserved c =
    let set = c.args.set.now in
    let i = c.args.i.0 in
    let ys = c.users-y-items.result.now in
    let j = c.loop-y.y-index in
    let y : ℕ = (get_or ys j (record { 0 = 0 })).0 in
    let on : ℕ → TaskId → ℕ = λ k h. only_if ((task_at set h.0).processor == k) (flag (nat_lt i h.0)) in
    let lower : TaskId → ℕ = λ h. flag (nat_lt i h.0) in
    let next_on = λ (k : ℕ). rest_more (on k) ys j (record { 0 = 0 }) c.loop-y-test.true in
    let next = rest_more lower ys j (record { 0 = 0 }) c.loop-y-test.true in
    elim c.if-i-y.branch [
      | then-i-y w ↦
          let one : flag (nat_lt i y) ≡ 1 = ap flag (lt-ltb i y w.if-i-y.true) in
          let here : (k : ℕ) → only_if (w.processor-processor.result == k) 1 ≡ only_if ((task_at set y).processor == k) (flag (nat_lt i y)) =
          λ k. rw (w.processor-processor.ensures.value, one) refl in
          rw (w.sums-is, w.totals-is, w.all-is) (record {
            one_each = w.add_at.ensures.size ∙ c.loop-y.invariant.one_each;
            each = λ k l. omega (arith, w.add_at.ensures.each k, here k, next_on k, c.loop-y.invariant.each k l);
            most = λ k l. omega (arith, w.add_at.ensures.each k, only_if-at_most (w.processor-processor.result == k) 1, c.loop-y.invariant.most k l);
            all = omega (arith, one, next, c.loop-y.invariant.all);
            few = omega (arith, c.loop-y.invariant.few);
            totals = w.add_at-then-i-y.ensures.size ∙ c.loop-y.invariant.totals;
            held = λ k l. omega (
              arith,
              w.add_at-then-i-y.ensures.each k,
              ap (only_if (w.processor-processor.result == k)) w.where_passed.ensures,
              first_at (slice_index c.loop-y.sums) w.processor-processor.result k c.args.count,
              ap (λ (s : ℕ). only_if (nat_lt 0 s) c.args.count) (w.add_at.ensures.each k),
              c.loop-y.invariant.held k l,
            );
          })
      | else-i-y w ↦
          let none : flag (nat_lt i y) ≡ 0 = ap flag (le-ltb i y w.if-i-y.false) in
          let away : (k : ℕ) → only_if ((task_at set y).processor == k) (flag (nat_lt i y)) ≡ 0 =
          λ k. rw none (only_if-nothing ((task_at set y).processor == k)) in
          rw (w.sums-is, w.totals-is, w.all-is) (record {
            one_each = c.loop-y.invariant.one_each;
            each = λ k l. omega (arith, away k, next_on k, c.loop-y.invariant.each k l);
            most = λ k l. omega (arith, c.loop-y.invariant.most k l);
            all = omega (arith, none, next, c.loop-y.invariant.all);
            few = omega (arith, c.loop-y.invariant.few);
            totals = c.loop-y.invariant.totals;
            held = c.loop-y.invariant.held;
          })
    ]

pub returns-clause-sums : goal.returns-clause-sums
returns-clause-sums c =
    let few = users_few c.args.set.now c.args.q.0 c.users-y-items.result.now c.users-y-items.ensures.value in
    let ys = c.users-y-items.result.now in
    let end : drop c.loop-y.y-index ys ≡ [] = drop_all c.loop-y.y-index ys (omega (arith, c.loop-y-test.false)) in
    record {
      one_each = c.loop-y.invariant.one_each;
      each = λ k l. let here = c.loop-y.invariant.each k l in omega (arith, rw end at here);
      most = λ k l. omega (arith, few, c.loop-y.invariant.most k l, c.loop-y.auto.y-index-end, c.tasks-tasks.ensures.value, c.tasks-tasks.ensures.most);
    }

pub returns-clause-all : goal.returns-clause-all
returns-clause-all c =
    let ys = c.users-y-items.result.now in
    let end : drop c.loop-y.y-index ys ≡ [] = drop_all c.loop-y.y-index ys (omega (arith, c.loop-y-test.false)) in
    let here = c.loop-y.invariant.all in omega (arith, rw end at here)

pub returns-clause-totals : goal.returns-clause-totals
returns-clause-totals c =
    let ys = c.users-y-items.result.now in
    let end : drop c.loop-y.y-index ys ≡ [] = drop_all c.loop-y.y-index ys (omega (arith, c.loop-y-test.false)) in
    record {
      size = c.loop-y.invariant.totals;
      each = λ k l.
          let there : k ≤ c.args.set.now.processors = omega (arith, l) in
          let here = c.loop-y.invariant.each k there in
          let all = sum_on c.args.set.now (lower_user c.args.set.now c.args.i.0 c.args.q.0) (length c.args.set.now.tasks) k in
          let sum : slice_index c.loop-y.sums k ≡ all = omega (arith, rw end at here) in
          c.loop-y.invariant.held k there
          ∙ ap (λ (n : ℕ). slice_index c.args.totals.now k + n) (rw (sum, c.requires.count.value) refl);
    }
