-- The rows of a list of runs, by the number of the run.
use Rattle.std.proofs.Common.{◌≡◌, ℕ, zero, suc, ◌+◌, ◌-◌, ◌<◌, ◌≤◌, true, List, [], ◌∷◌, length, take, refl, ap, ◌∙◌, arith}
use Rattle.std.specs.List.{list_all}
use Rattle.std.proofs.lemmas.Bool.{and_parts, lt-ltb, le-ltb}
use Rattle.std.proofs.lemmas.List.Sums.{sum_by-cons}
use Rattle.schedule_model.specs.JobDef.{JobsDef}
use Rattle.schedule_model.specs.RowDef.{RunDef, row_in, ticks_of}
use Rattle.schedule_model.specs.Fitting.{RowsDef, fits_row, is_fitting}
use Rattle.schedule_laws.proofs.TakenRows.{fits_jobs_from}
use Rattle.phase_machine.specs.Taking.{IsRowFor}
use Rattle.schedule_model.specs.ReadRuns.{run_of}
use Rattle.trace_walk.specs.Runs.{ticks_before}

-- The run is at each of its ticks.
pub run_here : (runs : List RunDef) (i k : ℕ) → i < length runs → k < (run_of runs i).ticks
    → row_in runs (ticks_before runs i + k) ≡ (run_of runs i).row
run_here [] i k l h = absurd (omega arith)
run_here (run ∷ runs) zero k l h =
    let start : ticks_before (run ∷ runs) zero + k ≡ k = omega arith in
    let here : row_in (run ∷ runs) k ≡ run.row = rw (lt-ltb k run.ticks h) refl in
    ap (row_in (run ∷ runs)) start ∙ here
run_here (run ∷ runs) (suc i) k l h =
    let total : ticks_before (run ∷ runs) (suc i) ≡ run.ticks + ticks_before runs i = sum_by-cons (λ r. r.ticks) run (take i runs) in
    let past : run.ticks ≤ ticks_before (run ∷ runs) (suc i) + k = omega (arith, total) in
    let left : ticks_before (run ∷ runs) (suc i) + k - run.ticks ≡ ticks_before runs i + k = omega (arith, total) in
    rw (le-ltb (ticks_before (run ∷ runs) (suc i) + k) run.ticks past) (ap (row_in runs) left ∙ run_here runs i k (omega arith) h)

ticks_after : (runs : List RunDef) (i : ℕ) → i < length runs → ticks_before runs (suc i) ≡ ticks_before runs i + (run_of runs i).ticks
ticks_after [] i l = absurd (omega arith)
ticks_after (run ∷ runs) zero l = omega (arith, sum_by-cons (λ (r : RunDef). r.ticks) run (take 0 runs))
ticks_after (run ∷ runs) (suc i) l =
    let here : ticks_before (run ∷ runs) (suc i) ≡ run.ticks + ticks_before runs i = sum_by-cons (λ r. r.ticks) run (take i runs) in
    let next : ticks_before (run ∷ runs) (suc (suc i)) ≡ run.ticks + ticks_before runs (suc i) =
    sum_by-cons (λ r. r.ticks) run (take (suc i) runs) in
    omega (arith, here, next, ticks_after runs i (omega arith))

-- The ticks before the next run are those of this one more.
pub ticks_next : (runs : List RunDef) (i : ℕ) → i < length runs → ticks_before runs (i + 1) ≡ ticks_before runs i + (run_of runs i).ticks
ticks_next runs i l = let e : i + 1 ≡ suc i = omega arith in ap (ticks_before runs) e ∙ ticks_after runs i l

-- So it is at each tick between its first and the next run's.
pub run_stands : (runs : List RunDef) (i tick left k : ℕ) → i < length runs → ticks_before runs i ≤ tick
    → tick + left ≡ ticks_before runs (i + 1) → k < left
    → row_in runs (tick + k) ≡ (run_of runs i).row
run_stands runs i tick left k l from to h =
    let at : tick + k ≡ ticks_before runs i + (tick - ticks_before runs i + k) = omega (arith, from) in
    ap (row_in runs) at ∙ run_here runs i (tick - ticks_before runs i + k) l (omega (arith, from, to, h, ticks_next runs i l))

-- They are within those of the list.
pub ticks_within : (runs : List RunDef) (i : ℕ) → ticks_before runs i ≤ ticks_of runs
ticks_within [] zero = omega arith
ticks_within [] (suc i) = omega arith
ticks_within (run ∷ runs) zero = omega arith
ticks_within (run ∷ runs) (suc i) =
    let here : ticks_before (run ∷ runs) (suc i) ≡ run.ticks + ticks_before runs i = sum_by-cons (λ r. r.ticks) run (take i runs) in
    let all : ticks_of (run ∷ runs) ≡ run.ticks + ticks_of runs = sum_by-cons (λ r. r.ticks) run runs in
    omega (arith, here, all, ticks_within runs i)

-- And at the end they are all of them.
pub ticks_all : (runs : List RunDef) → ticks_before runs (length runs) ≡ ticks_of runs
ticks_all [] = refl
ticks_all (run ∷ runs) =
    let here : ticks_before (run ∷ runs) (suc (length runs)) ≡ run.ticks + ticks_before runs (length runs) =
    sum_by-cons (λ r. r.ticks) run (take (length runs) runs) in
    let all : ticks_of (run ∷ runs) ≡ run.ticks + ticks_of runs = sum_by-cons (λ r. r.ticks) run runs in
    omega (arith, here, all, ticks_all runs)

each_run : (p r n : ℕ) (runs : List RunDef) (i : ℕ) → list_all (λ run. fits_row p r n run.row) runs ≡ true
    → i < length runs → fits_row p r n (run_of runs i).row ≡ true
each_run p r n [] i h l = absurd (omega arith)
each_run p r n (run ∷ runs) zero h l = (and_parts (fits_row p r n run.row) (list_all (λ x. fits_row p r n x.row) runs) h).0
each_run p r n (run ∷ runs) (suc i) h l = each_run p r n runs i
    (and_parts (fits_row p r n run.row) (list_all (λ x. fits_row p r n x.row) runs) h).1 (omega arith)

-- In rows that fit the jobs each row fits them.
pub row_fits : (rows : RowsDef) (list : JobsDef) (i : ℕ) → is_fitting rows list ≡ true → i < length rows.runs
    → IsRowFor list (run_of rows.runs i).row
row_fits rows list i h l =
    fits_jobs_from (record { set = list.set; jobs = list.jobs; row = λ t. (run_of rows.runs i).row }) 0
    (each_run list.set.processors (length list.set.resources) (length list.jobs) rows.runs i h l)
