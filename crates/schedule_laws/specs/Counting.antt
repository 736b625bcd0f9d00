-- How many ticks does a job spend in which kind of phase, and how many requests has it begun?
use Rattle.std.specs.Prelude.{◌≡◌, refl, ℕ, suc, ◌+◌, ◌-◌, ◌<◌, ◌==◌, ◌&&◌, Bool, true, false, nat_lt, if◌then◌else◌}
use Rattle.std.specs.Prelude.{List, [], ◌∷◌, length, Some, None, is_some, count_by}
use Rattle.number_laws.specs.Sums.{flag, only_if}
use Rattle.number_laws.specs.Tests.{count_below}
use Rattle.sporadic_model.specs.SetDef.{SetDef}
use Rattle.sporadic_model.specs.Users.{is_user}
use Rattle.schedule_model.specs.JobDef.{SegmentDef, job_of, request_ticks, segment_ticks}
use Rattle.schedule_model.specs.RowDef.{Trace, runs_in}
use Rattle.schedule_model.specs.Phase.{Phase, is_local, asking, phase_of, executed}
use Rattle.schedule_model.specs.Phase.Phase.{Local, Asking}

-- How many ticks of a script are in a phase that passes p, if the first of these segments is number n?
abbrev pub ticks_where : (Phase → Bool) → ℕ → List SegmentDef → ℕ
ticks_where p n [] = 0
ticks_where p n (s ∷ script) = only_if (p Local) s.local + only_if (p (asking n s.request)) (request_ticks s) + ticks_where p (suc n) script

-- At how many ticks before tick t did job j run in a phase that passes p?
unfoldable pub executed_in : (Phase → Bool) → Trace → ℕ → ℕ → ℕ
executed_in p w t j = count_below t (λ u. runs_in (w.row u) j && p (phase_of w u j))

-- Is it the phase of request number m, which is of resource q?
abbrev pub is_request : ℕ → ℕ → Phase → Bool
is_request m q (Asking n r) = (n == m) && (r == q)
is_request m q _ = false

-- Is q a resource of the set, and task x a user of it?
pub record HasUser (set : SetDef) (q x : ℕ) : Type 0 where
  pub within : q < length set.resources
  pub user : is_user set q x ≡ true

-- How many requests has a script?
abbrev pub requests_in : List SegmentDef → ℕ
requests_in script = count_by (λ s. is_some s.request) script

-- How many of its requests has a script begun after d executed ticks?
abbrev pub begun_after : List SegmentDef → ℕ → ℕ
begun_after [] d = 0
begun_after (s ∷ script) d =
    if nat_lt d s.local then 0
    else (if nat_lt d (segment_ticks s) then 1 else flag (is_some s.request) + begun_after script (d - segment_ticks s))

-- How many requests has job j begun at tick t?
unfoldable pub requests_begun : Trace → ℕ → ℕ → ℕ
requests_begun w t j = begun_after (job_of w.jobs j).script (executed w t j)

-- A script of one local tick, a request of resource 4 for two ticks, and three local ticks.
abbrev pub example : List SegmentDef
example = record { local = 1; request = Some (4, 2) } ∷ record { local = 3; request = None } ∷ []

pub example_local : ticks_where is_local 0 example ≡ 4
example_local = refl

pub example_request : ticks_where (is_request 0 4) 0 example ≡ 2
example_request = refl

pub example_begun : begun_after example 0 ∷ begun_after example 1 ∷ begun_after example 2 ∷ begun_after example 3
    ∷ begun_after example 6 ∷ [] ≡ 0 ∷ 1 ∷ 1 ∷ 1 ∷ 1 ∷ []
example_begun = refl
