-- What the run of a task's program gives, from the answers of solving it and of writing its best point.
use Rattle.std.proofs.Common.{◌≡◌, ℕ, ◌<◌, ◌≤◌, List, [], ◌∷◌, ◌++◌, pos, ◌≤ℤ◌, refl, sym, ◌∙◌, ap, subst, arith, inl, inr, Ok, Err}
use Rattle.std.proofs.lemmas.List.{append-nil}
use Rattle.std.specs.Prelude.{All, slice_index}
use Rattle.fraction128.specs.Fraction.{Fraction}
use Rattle.fraction128.specs.Scales.{Scales}
use Rattle.fraction128.specs.declared.scaling.Scaled.{Scaled}
use Rattle.fraction128.specs.declared.scaling.ScalingError.TheVariants as scaling
use Rattle.program_form.specs.Certificate.{DualDef, dual_seen}
use Rattle.program_form.specs.Program.{ProgramDef}
use Rattle.program_form.specs.declared.certificate.Dual.{Dual}
use Rattle.exchange_runs.proofs.Finals.{one_answer}
use Rattle.simplex.specs.declared.SolveStop.{SolveStop}
use Rattle.simplex.specs.declared.SolveStop.TheVariants as solve_stop
use Rattle.program_sources.specs.Recurrence.{SourceDef}
use Rattle.program_sources.specs.Valid.{no_dual}
use Rattle.refusal_laws.specs.Steps.{StepDef}
use Rattle.response_fixpoint.specs.Rounds.{Valued}
use Rattle.response_fixpoint.specs.Runs.{TaskRuns}
use Rattle.response_fixpoint.specs.Solutions.{IsSolution}
use Rattle.response_fixpoint.specs.Answers.{GivesRun}
use Rattle.response_fixpoint.specs.declared.task_run.Solution.{Solution}
use Rattle.response_fixpoint.specs.declared.task_run.TaskRun.{TaskRun}
use Rattle.response_fixpoint.proofs.AnswerLaws.{run_units}
use Rattle.refusal_cert.specs.Refuting.{IsWritten, IsUnwritable, GivesPoint}
use Rattle.refusal_cert.specs.Steps.{step_of, steps_over}
use Rattle.refusal_cert.specs.Answers.{GivesPointRun, WritesPoint, WritesStep}
use Rattle.refusal_cert.proofs.PointLaws.{best_not_below}
use Rattle.refusal_cert.proofs.RoundSteps.{step_above, no_step_below}

-- The numbers of a solution's best point aren't below zero.
pub solution_not_below : (p : ProgramDef) (s : Solution) → IsSolution p s → All (λ x. pos 0 ≤ℤ x.num) s.best.items
solution_not_below p s is = best_not_below p s.used is.exchanges is.optimum s.best.items (dual_seen s.dual) is.is_program is.ends

-- A run that ends with a solution has its best point.
solved_best : (f : SourceDef) (r : List ℕ) (i left value : ℕ) (s : Solution)
    (run : TaskRuns f r i left (Valued s.used value (dual_seen s.dual))) → IsSolution (f.program i r) s → run.ends.best ≡ s.best.items
solved_best f r i left value s run is =
    let d : DualDef = dual_seen s.dual in
    (one_answer (f.program i r) left s.used run.ends.exchanges is.exchanges run.ends.optimum is.optimum run.ends.best s.best.items d d
    run.is_program run.ends.ends is.ends).2

-- Scaled numbers are the written point.
pub scaled_point : (best : List Fraction) (s : Scaled) (point : Dual) → Scales (Ok s) best → point.den ≡ s.den → point.num ≡ s.num
    → WritesPoint (Ok point) best
scaled_point best s point (least, scaled, small, each) den num = rw (den, num) (record {
  least = least;
  scaled = scaled;
  small_den = small;
  small_num = each;
})

pub unscaled_point : (best : List Fraction) → Scales (Err scaling.Wide) best → IsUnwritable best
unscaled_point best (common, least, wide) = record { common = common; least = least; wide = wide }

-- A task whose value isn't above the bound has no step.
pub none_written : (bound i value : ℕ) (best : List Fraction) (before : List StepDef) → value ≤ bound
    → WritesStep (Ok tt) before before bound i value best
none_written bound i value best before most =
    let none : before ++ steps_over bound i value no_dual ≡ before =
    ap (λ (xs : List StepDef). before ++ xs) (no_step_below bound i value no_dual most) ∙ append-nil before in
    (no_dual, record { above = λ past. absurd (omega (arith, past, most)); none = λ _. refl }, sym none)

-- If the value is above the bound, the point is that of a step.
pub step_written : (bound i value : ℕ) (best : List Fraction) (point : DualDef) (before now : List StepDef) → bound < value
    → IsWritten best point → now ≡ before ++ step_of i value point ∷ [] → WritesStep (Ok tt) before now bound i value best
step_written bound i value best point before now past written is = (
  point,
  record { above = λ _. written; none = λ most. absurd (omega (arith, past, most)) },
  is ∙ ap (λ (xs : List StepDef). before ++ xs) (sym (step_above bound i value point past)),
)

pub step_stopped : (bound i value : ℕ) (e : SolveStop) (best : List Fraction) (before now : List StepDef) → bound < value
    → WritesPoint (Err e) best → WritesStep (Err e) before now bound i value best
step_stopped bound i value solve_stop.Wide best before now above given = (above, given)
step_stopped bound i value solve_stop.Units best before now above given = given
step_stopped bound i value solve_stop.Memory best before now above given = tt

-- A run that ends in a value, with its step written.
pub point_run : (f : SourceDef) (r : List ℕ) (i left : ℕ) (s : TaskRun) (before now : List StepDef) → GivesRun (Ok s) f r i left
    → WritesStep (Ok tt) before now (slice_index r i) i s.value s.solution.best.items → GivesPointRun (Ok s) f r i left before now
point_run f r i left s before now (run, is) (point, gives, steps) =
    let dual : DualDef = dual_seen s.solution.dual in
    let there : GivesPoint (slice_index r i) s.value run.ends.best point =
    subst (λ (xs : List Fraction). GivesPoint (slice_index r i) s.value xs point)
    (sym (solved_best f r i left s.value s.solution run is)) gives in
    let units = run_units f r i left s.solution.used s.value dual run in
    (point, (dual, run, there), steps, units.0, units.1, is)

-- A task whose step has a point that can't be written, or whose run stops before.
pub point_stopped : (f : SourceDef) (r : List ℕ) (i left : ℕ) (s : TaskRun) (e : SolveStop) (before now : List StepDef)
    → GivesRun (Ok s) f r i left → WritesStep (Err e) before now (slice_index r i) i s.value s.solution.best.items
    → GivesPointRun (Err e) f r i left before now
point_stopped f r i left s solve_stop.Wide before now (run, is) (above, wide) =
    inr (
      s.solution.used,
      s.value,
      dual_seen s.solution.dual,
      run,
      above,
      subst (λ (xs : List Fraction). IsUnwritable xs) (sym (solved_best f r i left s.value s.solution run is)) wide,
    )
point_stopped f r i left s solve_stop.Units before now (run, is) step = absurd step
point_stopped f r i left s solve_stop.Memory before now (run, is) step = tt

pub run_stopped : (f : SourceDef) (r : List ℕ) (i left : ℕ) (e : SolveStop) (before now : List StepDef) → GivesRun (Err e) f r i left
    → GivesPointRun (Err e) f r i left before now
run_stopped f r i left solve_stop.Wide before now run = inl run
run_stopped f r i left solve_stop.Units before now run = run
run_stopped f r i left solve_stop.Memory before now run = tt
