-- A set that is rounded to ticks, with a tick more in each cost, is a rounding of the measured one.
use Rattle.std.proofs.Common.{◌≡◌, ◌∙◌, ℕ, ◌+◌, ◌-◌, ◌*◌, ◌<◌, ◌≤◌, length, sym, arith, subst, Option, None, Some, option_map}
use Rattle.std.specs.Prelude.{find}
use Rattle.std.specs.Int.{div_ceil}
use Rattle.std.specs.Option.{option_map_or}
use Rattle.std.specs.Str.{bytes_eq}
use Rattle.std.proofs.Math.Nat.{mul-div-le}
use Rattle.std.proofs.lemmas.Grind.{div_ceil_times}
use Rattle.std.proofs.lemmas.List.{length-map, get_or-map}
use Rattle.sporadic_model.specs.SetDef.{SetDef, RequestDef, no_task, task_at, resource_at}
use Rattle.sporadic_model.specs.Users.{entry_of, count_of, length_of}
use Rattle.sporadic_model.proofs.Mapped.{find-map}
use Rattle.clock_laws.specs.Rounding.{IsRoundedTask, IsRounding, rounded_request, rounded_task, rounded}

-- A number of cycles that is rounded up to ticks has at least as many cycles as before.
enough_ticks : (k n : ℕ) → 1 ≤ k → n ≤ k * div_ceil n k
enough_ticks k n some = omega (arith, (div_ceil_times n k some).0)

task_is : (k : ℕ) (measured : SetDef) (x : ℕ) → x < length measured.tasks → task_at (rounded k measured) x ≡ rounded_task k (task_at measured x)
task_is k measured x l = get_or-map (rounded_task k) measured.tasks x no_task no_task l

rounded_at : (k : ℕ) (measured : SetDef) (x : ℕ) → 1 ≤ k → x < length measured.tasks
    → IsRoundedTask k (task_at measured x) (task_at (rounded k measured) x)
rounded_at k measured x some l =
    let one_less : k * (div_ceil (task_at measured x).cost k + 1 - 1) ≡ k * div_ceil (task_at measured x).cost k =
    λ j. k * back (div_ceil (task_at measured x).cost k) j in
    subst (IsRoundedTask k (task_at measured x)) (sym (task_is k measured x l)) (record {
      cost = omega (arith, enough_ticks k (task_at measured x).cost some, one_less);
      local = enough_ticks k (task_at measured x).local some;
      jitter = enough_ticks k (task_at measured x).jitter some;
      period = mul-div-le (task_at measured x).period k;
      deadline = mul-div-le (task_at measured x).deadline k;
    }) where
      back : (n : ℕ) → n + 1 - 1 ≡ n
      back n = omega arith

entry_is : (k : ℕ) (measured : SetDef) (x q : ℕ) → x < length measured.tasks
    → entry_of (rounded k measured) x q ≡ option_map (rounded_request k) (entry_of measured x q)
entry_is k measured x q l = (λ j. find (λ e. bytes_eq e.resource (resource_at measured q).name) (task_is k measured x l j).requests)
    ∙ find-map (rounded_request k) (λ e. bytes_eq e.resource (resource_at measured q).name) (task_at measured x).requests

counts_are : (k : ℕ) (o : Option RequestDef) → option_map_or (λ e. e.count) o 0 ≤ option_map_or (λ e. e.count) (option_map (rounded_request k) o) 0
counts_are k None = omega arith
counts_are k (Some e) = omega arith

lengths_are : (k : ℕ) (o : Option RequestDef) → 1 ≤ k
    → option_map_or (λ e. e.length) o 0 ≤ k * option_map_or (λ e. e.length) (option_map (rounded_request k) o) 0
lengths_are k None some = omega arith
lengths_are k (Some e) some = enough_ticks k e.length some

pub rounded_is_rounding : (k : ℕ) (measured : SetDef) → 1 ≤ k → IsRounding k measured (rounded k measured)
rounded_is_rounding k measured some = record {
  resources = omega arith;
  tasks = omega (arith, length-map measured.tasks (rounded_task k));
  each = λ x l. rounded_at k measured x some l;
  counts = λ x q l. subst (λ o. count_of measured x q ≤ option_map_or (λ e. e.count) o 0) (sym (entry_is k measured x q l))
      (counts_are k (entry_of measured x q));
  lengths = λ x q l. subst (λ o. length_of measured x q ≤ k * option_map_or (λ e. e.length) o 0) (sym (entry_is k measured x q l))
      (lengths_are k (entry_of measured x q) some);
}
