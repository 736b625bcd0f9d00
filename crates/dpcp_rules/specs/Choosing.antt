-- What jobs claim of a row, and which row gives it to them.
use Rattle.std.specs.Prelude.{ℕ, ◌&&◌, if◌then◌else◌, List, length, Option, None}
use Rattle.phase_machine.specs.MachineDef.{MachineDef}
use Rattle.phase_machine.specs.Now.{phase_now, holder_now, requester_now, waiting_now}
use Rattle.shared_choosing.specs.Scene.{stays, resource_in}
use Rattle.shared_choosing.specs.Filling as filling
use Rattle.shared_choosing.specs.Filling.{Filled, FilledTwice}
use Rattle.dpcp_rules.specs.Homes.{column_now}
use Rattle.dpcp_rules.specs.RowTests.{is_due}

-- Which resource is granted to job j? The one that it requests, if it waits and is due.
abbrev pub grant_claim : MachineDef → List ℕ → List ℕ → ℕ → Option ℕ
grant_claim m first bars j = if waiting_now m j && is_due m first bars j then resource_in (phase_now m j) else None

-- On which processor does job j run as a holder, given the holders? And on which as a Local job?
abbrev pub holder_claim : MachineDef → (ℕ → Option ℕ) → ℕ → Option ℕ
holder_claim m held j = filling.holder_claim m (column_now m) held j

abbrev pub local_claim : MachineDef → ℕ → Option ℕ
local_claim m j = filling.local_claim m (column_now m) j

-- Are these the holders: those that are kept, and those that are due?
abbrev pub AreHolders : MachineDef → List ℕ → List ℕ → (ℕ → Option ℕ) → Type 0
AreHolders m first bars held =
    Filled m (grant_claim m first bars) (λ q. stays (requester_now m q) (holder_now m q)) (length m.list.set.tasks) held

-- Is this what runs with these holders: holders first, and then Local jobs?
abbrev pub IsRunning : MachineDef → (ℕ → Option ℕ) → (ℕ → Option ℕ) → Type 0
IsRunning m held running = FilledTwice m (holder_claim m held) (local_claim m) running
