-- A formed set stays formed when it is put in cycles: only the upper limits of numbers of ticks may be passed.
use Rattle.std.proofs.Common.{◌≡◌, ◌∙◌, ℕ, zero, suc, ◌+◌, ◌*◌, ◌≤◌, List, [], ◌∷◌, map, length, refl, sym, arith, subst, IsTrue}
use Rattle.std.specs.Prelude.{slice_index_or}
use Rattle.std.proofs.Math.Nat.{mul-zero, mul-le-mul_left}
use Rattle.std.proofs.lemmas.List.{length-map}
use Rattle.sporadic_model.specs.SetDef.{SetDef, RequestDef, no_request, task_at, request_at}
use Rattle.sporadic_model.specs.Names.{is_name}
use Rattle.sporadic_model.specs.Accepted.{AreNamed, AreEntries, IsFormed, TaskOrder, EntryOrder}
use Rattle.clock_laws.specs.Cycles.{request_in_cycles, in_cycles}
use Rattle.clock_laws.proofs.Sets.{task_in, tasks_in, processor_in, period_in, deadline_in, cost_in, local_in, jitter_in}

no_entry : ℕ → RequestDef
no_entry z = record { resource = []; count = 0; length = z }

listed : (k : ℕ) (es : List RequestDef) (x : ℕ)
    → slice_index_or (map (request_in_cycles k) es) x no_request ≡ request_in_cycles k (slice_index_or es x no_request)
unfolding no_entry
listed k [] x = sym (λ j. no_entry (mul-zero k j))
listed k (e ∷ es) zero = refl
listed k (e ∷ es) (suc x) = listed k es x

entry_in : (k : ℕ) (set : SetDef) (x e : ℕ) → request_at (in_cycles k set) x e ≡ request_in_cycles k (request_at set x e)
entry_in k set x e = (λ j. slice_index_or (task_in k set x j).requests e no_request) ∙ listed k (task_at set x).requests e

entries_in : (k : ℕ) (set : SetDef) (x : ℕ) → length (task_at (in_cycles k set) x).requests ≡ length (task_at set x).requests
entries_in k set x = (λ j. length (task_in k set x j).requests) ∙ length-map (task_at set x).requests (request_in_cycles k)

named_in : (k : ℕ) (set : SetDef) → AreNamed set → AreNamed (in_cycles k set)
named_in k set names = record {
  resource_names = names.resource_names;
  task_names = λ x l. subst (λ t. IsTrue (is_name t)) (sym (λ j. (task_in k set x j).name)) (names.task_names x (omega (arith, l, tasks_in k set)));
  resources_apart = names.resources_apart;
  tasks_apart = λ x y less l same. names.tasks_apart x y less (omega (arith, l, tasks_in k set))
      (sym (λ j. (task_in k set x j).name) ∙ (same ∙ (λ j. (task_in k set y j).name)));
}

order_in : (k : ℕ) (set : SetDef) (x : ℕ) → 1 ≤ k → TaskOrder set x → TaskOrder (in_cycles k set) x
order_in k set x some order =
    let most : k * (task_at set x).local ≤ k * (task_at set x).cost = mul-le-mul_left k order.local_to in
    let least : k * 1 ≤ k * (task_at set x).local = mul-le-mul_left k order.local_from in
    let late : k * ((task_at set x).cost + (task_at set x).jitter) ≤ k * (task_at set x).deadline = mul-le-mul_left k order.jitter_to in
    let ends : k * (task_at set x).deadline ≤ k * (task_at set x).period = mul-le-mul_left k order.deadline_to in
    record {
      processor_from = omega (arith, order.processor_from, processor_in k set x);
      processor_to = omega (arith, order.processor_to, processor_in k set x);
      local_from = omega (arith, some, least, local_in k set x);
      local_to = omega (arith, most, local_in k set x, cost_in k set x);
      jitter_to = omega (arith, late, cost_in k set x, jitter_in k set x, deadline_in k set x);
      deadline_to = omega (arith, ends, deadline_in k set x, period_in k set x);
    }

known_in : (k : ℕ) (set : SetDef) (x : ℕ) → AreEntries set x → AreEntries (in_cycles k set) x
known_in k set x entries = record {
  known = λ e l.
      let given = entries.known e (omega (arith, l, entries_in k set x)) in
      (given.0, given.1, given.2 ∙ sym (λ j. (entry_in k set x e j).resource));
  apart = λ d e less l same. entries.apart d e less (omega (arith, l, entries_in k set x))
      (sym (λ j. (entry_in k set x d j).resource) ∙ (same ∙ (λ j. (entry_in k set x e j).resource)));
}

numbers_in : (k : ℕ) (set : SetDef) (x e : ℕ) → 1 ≤ k → EntryOrder set x (request_at set x e)
    → EntryOrder (in_cycles k set) x (request_at (in_cycles k set) x e)
numbers_in k set x e some order =
    let least : k * 1 ≤ k * (request_at set x e).length = mul-le-mul_left k order.length_from in
    let less : k * ((request_at set x e).length + 1) ≤ k * (task_at set x).cost = mul-le-mul_left k (omega (arith, order.length_to)) in
    subst (EntryOrder (in_cycles k set) x) (sym (entry_in k set x e)) (record {
      count_from = order.count_from;
      length_from = omega (arith, some, least);
      length_to = omega (arith, some, less, cost_in k set x);
    })

pub formed_in_cycles : (k : ℕ) (set : SetDef) → 1 ≤ k → IsFormed set → IsFormed (in_cycles k set)
formed_in_cycles k set some formed = record {
  processors = formed.processors;
  tasks = omega (arith, formed.tasks, tasks_in k set);
  names = named_in k set formed.names;
  numbers = λ x l. order_in k set x some (formed.numbers x (omega (arith, l, tasks_in k set)));
  entries = λ x l. known_in k set x (formed.entries x (omega (arith, l, tasks_in k set)));
  requests = λ x e l m. numbers_in k set x e some
      (formed.requests x e (omega (arith, l, tasks_in k set)) (omega (arith, m, entries_in k set x)));
  homes = record { homes_from = formed.homes.homes_from; homes_to = formed.homes.homes_to };
}
