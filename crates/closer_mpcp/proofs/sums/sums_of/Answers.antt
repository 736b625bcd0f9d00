use Rattle.std.proofs.Common.{rules, ◌≡◌, ◌<◌, ◌≤◌, ◌*◌, ◌==◌, ◌∙◌, ℕ, true, length, nat_lt, sym, refl, arith}
use Rattle.std.specs.Prelude.{slice_index, slice_index_or}
use Rattle.std.specs.List.{sum_by}
use Rattle.std.proofs.lemmas.List.{get_or-replicate}
use Rattle.number_laws.specs.Sums.{only_if}
use Rattle.sporadic_model.specs.SetDef.{task_at}
use Rattle.sporadic_model.specs.declared.ids.TaskId.{TaskId}
use Rattle.closer_mpcp.proofs.ListedSums.{made_by, all_users, all_higher_users, users_few, sum_of_own, one_term_more}
use Rattle.closer_mpcp.proofs.OnProcessors.{added, added_most, own_term}
use Rattle.closer_mpcp.proofs.sums.sums_of.Goals as goal

pub loop-y-init : goal.loop-y-init
loop-y-init g c = record {
  tasks = search rules;
  processors = search rules;
  own = λ k l. omega (arith, get_or-replicate {A = ℕ} 64 k 0 0 l);
  on = λ k l. omega (arith, get_or-replicate {A = ℕ} 65 k 0 0 l);
  all = omega arith;
  own_most = λ k l. omega (arith, get_or-replicate {A = ℕ} 64 k 0 0 l);
  on_most = λ k l. omega (arith, get_or-replicate {A = ℕ} 65 k 0 0 l);
  all_most = omega arith;
}

pub overflow_add-own : goal.overflow_add-own
overflow_add-own g c =
    let here = c.users-users.ensures.within c.loop-y.y-index (record { 0 = 0 }) c.loop-y-test.true in
    let few = users_few c.args.set.now c.args.r.0 c.users-users.result.now c.users-users.ensures.value in
    let most = c.loop-y.invariant.own_most (slice_index_or c.users-users.result.now c.loop-y.y-index (record { 0 = 0 })).0
    (omega (arith, here, c.tasks-tasks.ensures.value, c.tasks-tasks.ensures.most)) in
    omega (
      arith,
      few,
      most,
      c.loop-y-test.true,
      c.tasks-tasks.ensures.value,
      c.tasks-tasks.ensures.most,
      c.of_higher-made.ensures.most,
    )

pub overflow_add-on : goal.overflow_add-on
overflow_add-on g c =
    let few = users_few c.args.set.now c.args.r.0 c.users-users.result.now c.users-users.ensures.value in
    let most = c.loop-y.invariant.on_most c.processor.result (omega (arith, c.processor.ensures.most, c.tasks-tasks.ensures.sizes.processors_to)) in
    omega (
      arith,
      few,
      most,
      c.loop-y-test.true,
      c.tasks-tasks.ensures.value,
      c.tasks-tasks.ensures.most,
      c.of_higher-made.ensures.most,
    )

pub overflow_add-all : goal.overflow_add-all
overflow_add-all g c =
    let few = users_few c.args.set.now c.args.r.0 c.users-users.result.now c.users-users.ensures.value in
    omega (
      arith,
      few,
      c.loop-y.invariant.all_most,
      c.loop-y-test.true,
      c.tasks-tasks.ensures.value,
      c.tasks-tasks.ensures.most,
      c.of_higher-made.ensures.most,
    )

pub loop-y-preserved : goal.loop-y-preserved
loop-y-preserved g c =
    let set = c.args.set.now in
    let i = c.args.i.0 in
    let users = c.users-users.result.now in
    let f : ℕ → ℕ = g.R.Requests.made c.args.requests.now set c.args.r.0 in
    let y : ℕ = (slice_index_or users c.loop-y.y-index (record { 0 = 0 })).0 in
    let on : ℕ = c.processor.result in
    let made : ℕ = c.of_higher-made.result in
    let here = c.users-users.ensures.within c.loop-y.y-index (record { 0 = 0 }) c.loop-y-test.true in
    let within_own : y < length c.loop-y.own =
    omega (arith, here, c.tasks-tasks.ensures.value, c.tasks-tasks.ensures.most, c.loop-y.invariant.tasks) in
    let within_on : on < length c.loop-y.on =
    omega (arith, c.loop-y.invariant.processors, c.processor.ensures.most, c.tasks-tasks.ensures.sizes.processors_to) in
    record {
      tasks = search rules;
      processors = search rules;
      own = λ k l. added i (λ z. z) f users (record { 0 = 0 }) c.loop-y.y-index k y made (made_by i (λ z. z == k) f users) c.loop-y.own c.loop-y-test.true
          c.of_higher-made.ensures.value refl within_own (c.loop-y.invariant.own k l);
      on = λ k l. added i (λ z. (task_at set z).processor) f users (record { 0 = 0 }) c.loop-y.y-index k on made
          (made_by i (λ z. (task_at set z).processor == k) f users) c.loop-y.on
          c.loop-y-test.true c.of_higher-made.ensures.value c.processor.ensures.value within_on (c.loop-y.invariant.on k l);
      all = one_term_more (λ (z : TaskId). only_if (nat_lt z.0 i) (f z.0)) users (record { 0 = 0 }) c.loop-y.y-index made c.loop-y.all
          (sum_by (λ (z : TaskId). only_if (nat_lt z.0 i) (f z.0)) users) c.loop-y-test.true c.loop-y.invariant.all c.of_higher-made.ensures.value;
      own_most = λ k l.
          let more = added_most y k made (c.loop-y.y-index * 2000000000000) 2000000000000 c.loop-y.own within_own
          (λ k b. c.loop-y.invariant.own_most k (omega (arith, b, c.loop-y.invariant.tasks))) c.of_higher-made.ensures.most
          (omega (arith, l, c.loop-y.invariant.tasks)) in
          omega (arith, more);
      on_most = λ k l.
          let more = added_most on k made (c.loop-y.y-index * 2000000000000) 2000000000000 c.loop-y.on within_on
          (λ k b. c.loop-y.invariant.on_most k (omega (arith, b, c.loop-y.invariant.processors))) c.of_higher-made.ensures.most
          (omega (arith, l, c.loop-y.invariant.processors)) in
          omega (arith, more);
      all_most = omega (arith, c.loop-y.invariant.all_most, c.of_higher-made.ensures.most);
    }

pub returns : goal.returns
returns g c =
    let set = c.args.set.now in
    let i = c.args.i.0 in
    let r = c.args.r.0 in
    let users = c.users-users.result.now in
    let f : ℕ → ℕ = g.R.Requests.made c.args.requests.now set r in
    let past : length users ≤ c.loop-y.y-index = omega (arith, c.loop-y-test.false) in
    let own : (y : ℕ) → y < length set.tasks → slice_index c.loop-y.own y ≡ only_if (nat_lt y i) (f y) = λ y l.
    all_users set i r (λ z. z == y) f users c.loop-y.y-index (slice_index c.loop-y.own y) c.users-users.ensures.value c.requires.limit
    (g.met.R.Requests.none c.args.requests.now set r) past
    (c.loop-y.invariant.own y (omega (arith, l, c.tasks-tasks.ensures.value, c.tasks-tasks.ensures.most)))
    ∙ own_term i y f in
    record {
      sums = record {
        tasks = c.loop-y.invariant.tasks;
        processors = c.loop-y.invariant.processors;
        sum = λ k l. all_users set i r (λ z. (task_at set z).processor == k) f users c.loop-y.y-index (slice_index c.loop-y.on k)
            c.users-users.ensures.value c.requires.limit (g.met.R.Requests.none c.args.requests.now set r) past (c.loop-y.invariant.on k l)
            ∙ sym (sum_of_own (length set.tasks) i (λ z. (task_at set z).processor == k) f (slice_index c.loop-y.own)
            c.requires.limit own);
        small = λ k l. omega (
          arith,
          users_few set r users c.users-users.ensures.value,
          c.loop-y.auto.y-index-end,
          c.tasks-tasks.ensures.value,
          c.tasks-tasks.ensures.most,
          c.loop-y.invariant.on_most k l,
        );
        own_small = λ y l. omega (
          arith,
          users_few set r users c.users-users.ensures.value,
          c.loop-y.auto.y-index-end,
          c.tasks-tasks.ensures.value,
          c.tasks-tasks.ensures.most,
          c.loop-y.invariant.own_most y l,
        );
        all = all_higher_users set i r f users c.loop-y.y-index c.loop-y.all c.users-users.ensures.value c.requires.limit
            (g.met.R.Requests.none c.args.requests.now set r) past c.loop-y.invariant.all
            ∙ sym (sum_of_own (length set.tasks) i (λ z. true) f (slice_index c.loop-y.own) c.requires.limit own);
        all_small = omega (
          arith,
          users_few set r users c.users-users.ensures.value,
          c.loop-y.auto.y-index-end,
          c.tasks-tasks.ensures.value,
          c.tasks-tasks.ensures.most,
          c.loop-y.invariant.all_most,
        );
      };
      each = own;
    }
