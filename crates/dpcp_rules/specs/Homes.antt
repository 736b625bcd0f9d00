-- On which processors jobs run under DPCP, and the least rank at each processor.
use Rattle.std.specs.Prelude.{◌≡◌, refl, ℕ, ◌≤◌, ◌<◌, ◌==◌, ◌&&◌, nat_le, if◌then◌else◌, List, [], ◌∷◌, length, is_some}
use Rattle.std.specs.Prelude.{slice_index_or, unwrap_or}
use Rattle.std.specs.Option.{option_map_or}
use Rattle.number_laws.specs.Tests.{any_below}
use Rattle.sporadic_model.specs.declared.limits.TheConstants.{MOST_PROCESSORS}
use Rattle.sporadic_model.specs.Homes.{home_in}
use Rattle.sporadic_model.specs.Users.{ceiling_of}
use Rattle.schedule_model.specs.Phase.{Phase}
use Rattle.schedule_model.specs.Phase.Phase.{Asking}
use Rattle.phase_machine.specs.MachineDef.{MachineDef}
use Rattle.phase_machine.specs.Now.{phase_now, current_now, holder_now, requester_now, waiting_now, processor_now}
use Rattle.shared_choosing.specs.Scene.{stays}

-- The home of resource q. And its ceiling: its highest user, or the number of tasks if no task uses it.
abbrev pub home_now : MachineDef → ℕ → ℕ
home_now m q = home_in m.list.set q

abbrev pub ceiling_now : MachineDef → ℕ → ℕ
ceiling_now m q = unwrap_or (ceiling_of m.list.set q) (length m.list.set.tasks)

-- The processor on which job j runs: in a request the home of the resource, and else that of its task.
abbrev pub column_in : MachineDef → ℕ → Phase → ℕ
column_in m j (Asking n q) = home_now m q
column_in m j _ = processor_now m j

abbrev pub column_now : MachineDef → ℕ → ℕ
column_now m j = column_in m j (phase_now m j)

-- At which processor does the active job of task x wait for a resource? 0 if it doesn't.
abbrev pub waiting_place : MachineDef → ℕ → ℕ
waiting_place m x = option_map_or (λ j. if waiting_now m j then column_now m j else 0) (current_now m x) 0

-- At which processor is resource q kept: does its holder in the last row still request it? 0 if it isn't kept.
abbrev pub kept_place : MachineDef → ℕ → ℕ
kept_place m q = if is_some (stays (requester_now m q) (holder_now m q)) then home_now m q else 0

-- The entry of a table for processor k.
abbrev pub entry_at : List ℕ → ℕ → ℕ
entry_at table k = slice_index_or table k 0

-- Does the table say for each processor the least key of the things there, among the first n? A key is a number below `most`. If there is
-- no such thing, the entry is at least `most`.
abbrev pub IsLeast : (ℕ → ℕ) → (ℕ → ℕ) → ℕ → ℕ → List ℕ → Type 0
IsLeast place key most n table = (k y : ℕ) → k ≤ MOST_PROCESSORS → y < most
    → nat_le (entry_at table k) y ≡ any_below n (λ i. (place i == k) && nat_le (key i) y)

-- Two things at processor 1 with the keys 5 and 3, and none at processor 0.
pub least_of_two : nat_le (entry_at (9 ∷ 3 ∷ []) 1) 3 ≡ any_below 2 (λ i. (1 == 1) && nat_le (entry_at (5 ∷ 3 ∷ []) i) 3)
least_of_two = refl
