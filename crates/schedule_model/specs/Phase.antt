-- How far is a job in its script?
use Rattle.std.specs.Prelude.{ℕ, suc, ◌-◌, ◌==◌, Bool, true, false, nat_lt, if◌then◌else◌, List, [], ◌∷◌, Option}
use Rattle.std.specs.Option.{option_map_or}
use Rattle.number_laws.specs.Tests.{count_below}
use Rattle.schedule_model.specs.JobDef.{SegmentDef, job_of, segment_ticks}
use Rattle.schedule_model.specs.RowDef.{Trace, runs_in}

-- What a job does next: a local tick, a tick of its request number n (counted from 0) of resource q, or nothing more.
pub data Phase : Type 0 where
  Local : Phase
  Asking : ℕ → ℕ → Phase
  Finished : Phase

abbrev pub is_local : Phase → Bool
is_local Local = true
is_local _ = false

abbrev pub is_finished : Phase → Bool
is_finished Finished = true
is_finished _ = false

-- Is it the phase of a request of resource q?
abbrev pub is_asking : ℕ → Phase → Bool
is_asking q (Asking n r) = r == q
is_asking q _ = false

-- Are both the phase of the same request?
abbrev pub is_same_request : Phase → Phase → Bool
is_same_request (Asking n q) (Asking m r) = n == m
is_same_request _ _ = false

-- The phase in the request of segment number n, where the segment has one.
abbrev pub asking : ℕ → Option (ℕ × ℕ) → Phase
asking n request = option_map_or (λ r. Asking n r.0) request Finished

-- Where is the script after d executed ticks, if the first of these segments is number n?
unfoldable pub phase_from : ℕ → List SegmentDef → ℕ → Phase
phase_from n [] d = Finished
phase_from n (s ∷ script) d =
    if nat_lt d s.local then Local
    else (if nat_lt d (segment_ticks s) then asking n s.request else phase_from (suc n) script (d - segment_ticks s))

-- In how many of the rows before tick t did job j run?
unfoldable pub executed : Trace → ℕ → ℕ → ℕ
executed w t j = count_below t (λ u. runs_in (w.row u) j)

-- What is the phase of job j at tick t: the place in its script after the ticks that it ran so far?
unfoldable pub phase_of : Trace → ℕ → ℕ → Phase
phase_of w t j = phase_from 0 (job_of w.jobs j).script (executed w t j)
