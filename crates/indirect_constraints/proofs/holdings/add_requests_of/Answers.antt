use Rattle.std.proofs.Common.{ℕ, ◌+◌, ◌==◌, ◌∙◌, get_or, ap, arith}
use Rattle.std.specs.Prelude.{slice_index}
use Rattle.std.proofs.lemmas.Bool.{ne_eqb}
use Rattle.number_laws.specs.Sums.{only_if}
use Rattle.number_laws.proofs.SumLaws.{only_if-false}
use Rattle.number_laws.proofs.OnlyIfLaws.{only_if-rises}
use Rattle.sporadic_model.specs.declared.ids.TaskId.{TaskId}
use Rattle.blocking_columns.specs.Windows.{requests_in}
use Rattle.indirect_constraints.proofs.ByUser.{users_requests, users_once, rest_more}
use Rattle.indirect_constraints.proofs.holdings.add_requests_of.Goals as goal
use Rattle.indirect_constraints.proofs.holdings.add_requests_of.Goals.{then-y-i, else-y-i}

pub loop-y-init : goal.loop-y-init
loop-y-init c =
    let set = c.args.set.now in
    let users = c.users-y-items in
    record {
      one_each = c.requires.room.one_each;
      each = λ k l. ap (λ (n : ℕ). slice_index c.args.numbers.now k + n)
          (users_requests set (slice_index c.args.bounds.now) c.args.i.0 k c.args.q.0 users.result.now users.ensures.value
          (omega (arith, l, c.requires.task)));
      room = λ k l.
          let once = users_once set k c.args.q.0 2000000000000 users.result.now users.ensures.value (omega (arith, l, c.requires.task)) in
          omega (arith, once);
      others = λ k m. omega arith;
    }

pub loop-y-preserved : goal.loop-y-preserved
loop-y-preserved c =
    let ys = c.users-y-items.result.now in
    let j = c.loop-y.y-index in
    let y : ℕ = (get_or ys j (record { 0 = 0 })).0 in
    let f : ℕ → ℕ = λ h. requests_in c.args.set.now (slice_index c.args.bounds.now) c.args.i.0 h c.args.q.0 in
    let requests : ℕ → TaskId → ℕ = λ k h. only_if (h.0 == k) (f h.0) in
    let room : ℕ → TaskId → ℕ = λ k h. only_if (h.0 == k) 2000000000000 in
    elim c.if-y-i.branch [
      | then-y-i w ↦ rw w.numbers-is (record {
        one_each = w.add_at.ensures.size ∙ c.loop-y.invariant.one_each;
        each = λ k l. omega (
          arith,
          w.add_at.ensures.each k,
          ap (only_if (y == k)) w.cnt.ensures.value,
          rest_more (requests k) ys j (record { 0 = 0 }) c.loop-y-test.true,
          c.loop-y.invariant.each k l,
        );
        room = λ k l. omega (
          arith,
          w.add_at.ensures.each k,
          only_if-rises (y == k) w.cnt.result 2000000000000 (λ same. w.cnt.ensures.most),
          rest_more (room k) ys j (record { 0 = 0 }) c.loop-y-test.true,
          c.loop-y.invariant.room k l,
        );
        others = λ k m. omega (
          arith,
          w.add_at.ensures.each k,
          only_if-false (y == k) w.cnt.result (ne_eqb y k (omega (arith, m, w.if-y-i.true))),
          c.loop-y.invariant.others k m,
        );
      })
      | else-y-i w ↦ rw w.numbers-is (record {
        one_each = c.loop-y.invariant.one_each;
        each = λ k l. omega (
          arith,
          only_if-false (y == k) (f y) (ne_eqb y k (omega (arith, l, w.if-y-i.false))),
          rest_more (requests k) ys j (record { 0 = 0 }) c.loop-y-test.true,
          c.loop-y.invariant.each k l,
        );
        room = λ k l. omega (
          arith,
          rest_more (room k) ys j (record { 0 = 0 }) c.loop-y-test.true,
          c.loop-y.invariant.room k l,
        );
        others = λ k m. c.loop-y.invariant.others k m;
      })
    ]
