use Rattle.std.proofs.Common.{◌≡◌, ℕ, ◌+◌, ◌<◌, ◌≤◌, ◌==◌, ◌∙◌, nat_lt, [], length, drop, get_or, refl, ap, arith}
use Rattle.std.specs.Prelude.{slice_index}
use Rattle.std.proofs.lemmas.Bool.{lt-ltb, le-ltb}
use Rattle.std.proofs.lemmas.List.{drop_all}
use Rattle.std.proofs.lemmas.List.Elements.{All-get_or}
use Rattle.number_laws.specs.Sums.{only_if}
use Rattle.number_laws.proofs.OnlyIfLaws.{only_if-nothing}
use Rattle.number_laws.proofs.SumLaws.{only_if-false, only_if-at_most}
use Rattle.sporadic_model.specs.SetDef.{task_at}
use Rattle.sporadic_model.specs.Users.{count_of}
use Rattle.sporadic_model.specs.declared.ids.TaskId.{TaskId}
use Rattle.indirect_constraints.specs.Tables.{lower_user, sum_on}
use Rattle.indirect_constraints.proofs.ByUser.{rest_more}
use Rattle.indirect_constraints.proofs.Held.{alone_there, users_alone, alone_few}
use Rattle.indirect_constraints.proofs.holdings.add_alone.Goals as goal
use Rattle.indirect_constraints.proofs.holdings.add_alone.Goals.{then-i-y, else-i-y}

pub loop-y-init : goal.loop-y-init
loop-y-init c =
    let users = c.users-y-items in
    record {
      one_each = c.requires.room.size;
      each = λ k l. ap (λ (n : ℕ). slice_index c.args.numbers.now k + n)
          (users_alone c.args.set.now c.args.i.0 c.args.q.0 k users.result.now users.ensures.value l);
    }

pub add_at-requires-clause-room : goal.add_at-requires-clause-room
add_at-requires-clause-room c =
    let set = c.args.set.now in
    let ys = c.users-y-items.result.now in
    let j = c.loop-y.y-index in
    let y : ℕ = (get_or ys j (record { 0 = 0 })).0 in
    let there : y < length set.tasks =
    All-get_or (λ (h : TaskId). h.0 < length set.tasks) ys j (record { 0 = 0 }) c.loop-y-test.true c.users-y-items.ensures.within in
    omega (
      arith,
      c.loop-y.invariant.each y there,
      alone_few set c.args.i.0 c.args.q.0 y,
      c.requires.room.each y there,
      c.where_passed.ensures,
      only_if-at_most (slice_index c.args.users.now c.processor.result == 1) c.args.count,
      c.requires.count.value,
      c.requires.count.most,
    )

pub loop-y-preserved : goal.loop-y-preserved
loop-y-preserved c =
    let set = c.args.set.now in
    let i = c.args.i.0 in
    let q = c.args.q.0 in
    let ys = c.users-y-items.result.now in
    let j = c.loop-y.y-index in
    let y : ℕ = (get_or ys j (record { 0 = 0 })).0 in
    let f : ℕ → ℕ = alone_there set i q in
    let next = λ (k : ℕ). rest_more (λ (h : TaskId). only_if (h.0 == k) (f h.0)) ys j (record { 0 = 0 }) c.loop-y-test.true in
    elim c.if-i-y.branch [
      | then-i-y w ↦
          let p : ℕ = (task_at set y).processor in
          let there : p ≤ set.processors = omega (arith, w.processor.ensures.value, w.processor.ensures.most) in
          let here : w.where_passed.result ≡ f y = w.where_passed.ensures
          ∙ rw (w.processor.ensures.value, c.requires.users.each p there, c.requires.count.value, lt-ltb i y w.if-i-y.true) refl in
          rw w.numbers-is (record {
            one_each = w.add_at.ensures.size ∙ c.loop-y.invariant.one_each;
            each = λ k l. omega (arith, w.add_at.ensures.each k, ap (only_if (y == k)) here, next k, c.loop-y.invariant.each k l);
          })
      | else-i-y w ↦
          let none : f y ≡ 0 = only_if-false (nat_lt i y)
          (only_if (sum_on set (lower_user set i q) (length set.tasks) (task_at set y).processor == 1) (count_of set i q))
          (le-ltb i y w.if-i-y.false) in
          rw w.numbers-is (record {
            one_each = c.loop-y.invariant.one_each;
            each = λ k l. omega (
              arith,
              ap (only_if (y == k)) none,
              only_if-nothing (y == k),
              next k,
              c.loop-y.invariant.each k l,
            );
          })
    ]

pub returns : goal.returns
returns c =
    let ys = c.users-y-items.result.now in
    let end : drop c.loop-y.y-index ys ≡ [] = drop_all c.loop-y.y-index ys (omega (arith, c.loop-y-test.false)) in
    record {
      size = c.loop-y.invariant.one_each;
      each = λ x l. let here = c.loop-y.invariant.each x l in omega (arith, rw end at here);
    }
