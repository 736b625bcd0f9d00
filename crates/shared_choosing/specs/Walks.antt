-- Walks over the active jobs, from the highest task on. A job that comes may change which job is named at a place.
use Rattle.std.specs.Prelude.{◌≡◌, refl, ℕ, zero, suc, ◌+◌, Option, None, Some, if◌then◌else◌, is_some}

-- Which job is named at place k after the active job of a task has come, if it has one? Job o was named there before.
abbrev pub come_to : (ℕ → ℕ → Option ℕ → Option ℕ) → Option ℕ → ℕ → Option ℕ → Option ℕ
come_to step None k o = o
come_to step (Some j) k o = step j k o

-- The same after those of the tasks below x have come. Job o was named there at the start.
unfoldable pub walked : (ℕ → ℕ → Option ℕ → Option ℕ) → (ℕ → Option ℕ) → ℕ → ℕ → Option ℕ → Option ℕ
walked step current zero k o = o
walked step current (suc x) k o = come_to step (current x) k (walked step current x k o)

-- Tasks 0 and 1 have the active jobs 5 and 6, and the first one stays.
pub first_of_two : walked (λ j k o. if is_some o then o else Some j) (λ x. Some (x + 5)) 2 1 None ≡ Some 5
unfolding walked
first_of_two = refl
