-- What lawful jobs give: scripts with a segment, and segments with a local tick.
use Rattle.std.proofs.Common.{◌≡◌, ℕ, ◌<◌, ◌==◌, true, List, [], ◌∷◌, length, arith}
use Rattle.std.specs.List.{list_all}
use Rattle.std.proofs.lemmas.Bool.{and_parts, not-true, eqb-false}
use Rattle.schedule_model.specs.JobDef.{SegmentDef, JobsDef, job_of, no_segment}
use Rattle.schedule_model.specs.LawfulJobs.{is_segment, is_script, AreLawfulJobs, IsLawfulJob}
use Rattle.schedule_model.specs.RowDef.{Trace}
use Rattle.schedule_model.specs.Phase.{phase_from, executed, phase_of}
use Rattle.schedule_model.specs.Phase.Phase.{Local}
use Rattle.schedule_laws.proofs.Phases.{phase_local, segment_local}
use Rattle.schedule_laws.proofs.Ticks.{script_segments}
use Rattle.schedule_model.proofs.Scripts.{list_all-each}
use Rattle.phase_machine.specs.MachineDef.{segment_in, task_in}

pub script_of : (list : JobsDef) (j : ℕ) → AreLawfulJobs list → j < length list.jobs → is_script (job_of list.jobs j).script ≡ true
script_of list j lawful l = let job : IsLawfulJob list.set (job_of list.jobs j) = lawful.each j l in job.script

pub task_listed : (list : JobsDef) (j : ℕ) → AreLawfulJobs list → j < length list.jobs → task_in list.jobs j < length list.set.tasks
task_listed list j lawful l = let job : IsLawfulJob list.set (job_of list.jobs j) = lawful.each j l in job.task

-- A script has a segment.
pub script_some : (script : List SegmentDef) → is_script script ≡ true → 0 < length script
script_some script h =
    let some : length script ≡ 0 → ⊥ = eqb-false (length script) 0 (not-true (length script == 0) (and_parts _ _ h).0) in
    omega arith

-- A segment of a lawful job has a local tick.
pub local_some : (list : JobsDef) (j n : ℕ) → AreLawfulJobs list → j < length list.jobs
    → n < length (job_of list.jobs j).script → 0 < (segment_in list.jobs j n).local
local_some list j n lawful l h =
    segment_local (segment_in list.jobs j n)
    (list_all-each is_segment (job_of list.jobs j).script n no_segment h
    (script_segments (job_of list.jobs j).script (script_of list j lawful l)))

-- A lawful job that has executed nothing is Local.
local_at_first : (n : ℕ) (script : List SegmentDef) → list_all is_segment script ≡ true → 0 < length script → phase_from n script 0 ≡ Local
local_at_first n [] p l = absurd (omega arith)
local_at_first n (s ∷ script) p l = phase_local n s script 0 (segment_local s (and_parts (is_segment s) (list_all is_segment script) p).0)

pub unstarted_local : (w : Trace) (t j : ℕ) → is_script (job_of w.jobs j).script ≡ true → executed w t j ≡ 0 → phase_of w t j ≡ Local
unfolding phase_of
unstarted_local w t j script none = rw none (local_at_first 0 (job_of w.jobs j).script
    (script_segments (job_of w.jobs j).script script) (script_some (job_of w.jobs j).script script))
