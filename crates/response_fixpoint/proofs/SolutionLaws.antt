-- Laws of solutions: what they mean with other units than they were found with, and for programs with the same limits.
use Rattle.std.proofs.Common.{◌≡◌, ℕ, ◌+◌, ◌-◌, ◌/◌, ◌^◌, ◌<◌, ◌≤◌, List, [], ◌∷◌, ◌++◌, length, unsigned_abs}
use Rattle.std.proofs.Common.{length-append, sym, ◌∙◌, ap, subst, arith, inl, inr, Some, Ok, Err}
use Rattle.std.specs.Prelude.{Option, None, Result, IfOk, IfSome}
use Rattle.std.specs.Option.{option_or}
use Rattle.fraction128.specs.Fraction.{Fraction}
use Rattle.program_form.specs.Certificate.{DualDef, dual_seen}
use Rattle.program_form.specs.Limits.{HasLimitsAtMost}
use Rattle.program_form.specs.Points.{IsGreatestReached}
use Rattle.program_form.specs.Program.{ProgramDef, IsProgram}
use Rattle.program_form.proofs.Duality.{optimum_reached}
use Rattle.exchange_runs.specs.Feasible.{IsOptimumValue}
use Rattle.exchange_runs.specs.Outcomes.{EndsWithin, IsWideWithin, NeedsMoreThan}
use Rattle.exchange_runs.proofs.Course.{has_outcome}
use Rattle.exchange_runs.proofs.Finals.{one_answer, ends_not_wide, ends_not_more, wide_not_more}
use Rattle.simplex.specs.Solves.{Solves}
use Rattle.simplex.specs.declared.Solved.{Solved}
use Rattle.simplex.specs.declared.SolveStop.{SolveStop}
use Rattle.simplex.specs.declared.SolveStop.TheVariants as solve_stop
use Rattle.sporadic_model.specs.Bounds.{AtMost}
use Rattle.program_sources.specs.Recurrence.{SourceDef, response_with}
use Rattle.program_sources.specs.Fitting.{tasks_of}
use Rattle.response_fixpoint.specs.Rounds.{Valued, OutOfUnits}
use Rattle.response_fixpoint.specs.Runs.{TaskRuns}
use Rattle.response_fixpoint.specs.Solutions.{IsSolution, GivesSolution, IsAhead, IsOutcome, with_limits, IsPlannedFrom, IsPlanned, IsKept, AreKept}
use Rattle.response_fixpoint.specs.Answers.{GivesRun}
use Rattle.response_fixpoint.specs.declared.task_run.Solution.{Solution}
use Rattle.response_fixpoint.specs.declared.plan.Kept.{Kept}
use Rattle.response_fixpoint.specs.declared.plan.Planned.{Planned}
use Rattle.response_fixpoint.proofs.PlaceLaws.{each_more}

-- A run that ends within some units ends within any number of units that is above its exchanges.
ends_within : (p : ProgramDef) (units others k : ℕ) (value : Fraction) (primal : List Fraction) (d : DualDef)
    → EndsWithin p units k value primal d → k < others → EndsWithin p others k value primal d
ends_within p units others k value primal d e enough = record { table = e.table; run = e.run; within = enough; read_off = e.read_off }

-- A run that is wide within some units is wide within more.
wide_within : (p : ProgramDef) (units more : ℕ) → units ≤ more → IsWideWithin p units → IsWideWithin p more
wide_within p units more most w = record {
  exchanges = w.exchanges;
  table = w.table;
  reached = w.reached;
  wide = elim w.wide [
    | inl begun ↦ inl (omega (arith, most, begun.0), begun.1)
    | inr ended ↦ inr (omega (arith, most, ended.0), ended.1, ended.2)
  ];
}

-- A solution that takes more units than are left needs more than are left.
pub needs_more : (p : ProgramDef) (s : Solution) (left : ℕ) → IsSolution p s → left < s.used → NeedsMoreThan p left
needs_more p s left is few = elim (has_outcome p left is.is_program) [
  | inl ended ↦
      let same = one_answer p s.used left is.exchanges ended.0 is.optimum ended.1 s.best.items ended.2 (dual_seen s.dual)
      ended.3 is.is_program is.ends ended.4 in
      absurd (omega (arith, same.0, ended.4.within, is.units, few))
  | inr stopped ↦ elim stopped [
    | inl wide ↦ absurd (ends_not_wide p s.used left is.exchanges is.optimum s.best.items (dual_seen s.dual) is.is_program is.ends wide)
    | inr more ↦ more
  ]
]

-- A run that needs more than some units needs more than fewer of them.
pub still_needs_more : (p : ProgramDef) (units left : ℕ) → IsProgram p → left ≤ units → NeedsMoreThan p units → NeedsMoreThan p left
still_needs_more p units left is fewer more = elim (has_outcome p left is) [
  | inl ended ↦
      let enough : ended.0 < units = omega (arith, ended.4.within, fewer) in
      absurd (ends_not_more p units ended.0 ended.1 ended.2 ended.3 is
      (ends_within p left units ended.0 ended.1 ended.2 ended.3 ended.4 enough) more)
  | inr stopped ↦ elim stopped [
    | inl wide ↦ absurd (wide_not_more p units is (wide_within p left units fewer wide) more)
    | inr needs ↦ needs
  ]
]

-- What a solver answers is a solution.
pub solved_solution : (p : ProgramDef) (units : ℕ) (x : Solved) (s : Solution) → IsProgram p
    → EndsWithin p units x.exchanges x.value x.primal.items (dual_seen x.dual) → IsOptimumValue p x.value
    → s.used ≡ x.exchanges + 1 → s.blocking ≡ unsigned_abs x.value.num / unsigned_abs x.value.den → s.blocking < 2 ^ 63
    → s.best ≡ x.primal → s.dual ≡ x.dual → IsSolution p s
solved_solution p units x s is ends best used blocking most point dual =
    let greatest = optimum_reached p (unsigned_abs x.value.num) (unsigned_abs x.value.den) best.optimum in
    let within : x.exchanges < s.used = omega (arith, used) in
    record {
      is_program = is;
      exchanges = x.exchanges;
      optimum = x.value;
      ends = rw (point, dual) (ends_within p units s.used x.exchanges x.value x.primal.items (dual_seen x.dual) ends within);
      units = used;
      greatest = subst (λ (b : ℕ). IsGreatestReached p b) (sym blocking) greatest;
      most = most;
    }

-- If it answers none, the program stops.
pub stopped_solution : (p : ProgramDef) (units : ℕ) (e : SolveStop) → IsProgram p → Solves (Err e) p units → GivesSolution (Err e) p units
stopped_solution p units solve_stop.Wide is run = (is, run)
stopped_solution p units solve_stop.Units is run = (is, run)
stopped_solution p units solve_stop.Memory is run = tt

-- A solution's blocking is less than half of what a word can count.
pub small_blocking : (o : Result Solution SolveStop) (p : ProgramDef) (units : ℕ) → GivesSolution o p units
    → IfOk o (λ s. s.blocking < 2 ^ 63)
small_blocking (Ok s) p units given = given.most
small_blocking (Err e) p units given = tt

-- The law of sources that lets a program keep its solution: bounds occur in the limits alone.
abbrev pub Rises : SourceDef → ℕ → Type 0
Rises f i = (q r : List ℕ) → AtMost (tasks_of f) q r → HasLimitsAtMost (f.program i q) (f.program i r)

same_lists : (p q : ProgramDef) → p.costs ≡ q.costs → p.rows ≡ q.rows → p.limits ≡ q.limits → p ≡ q
same_lists p q costs rows limits =
    ap (λ x. record { costs = x; rows = p.rows; limits = p.limits }) costs
    ∙ ap (λ x. record { costs = q.costs; rows = x; limits = p.limits }) rows
    ∙ ap (λ x. record { costs = q.costs; rows = q.rows; limits = x }) limits

-- A program of the task at some bounds, with the limits for others, is the task's program there.
pub renewed_program : (f : SourceDef) (i : ℕ) (q r : List ℕ) (p : ProgramDef) (limits : List ℕ) → Rises f i → p ≡ f.program i q
    → limits ≡ (f.program i r).limits → with_limits p limits ≡ f.program i r
renewed_program f i q r p limits rises is there =
    let from_q = rises [] q (λ k here. omega arith) in
    let from_r = rises [] r (λ k here. omega arith) in
    same_lists (with_limits p limits) (f.program i r)
    (ap (λ (x : ProgramDef). x.costs) is ∙ sym from_q.same_costs ∙ from_r.same_costs)
    (ap (λ (x : ProgramDef). x.rows) is ∙ sym from_q.same_rows ∙ from_r.same_rows) there

-- So the lists are a program if they are one there.
pub renewed_is_program : (f : SourceDef) (i : ℕ) (q r limits : List ℕ) (k : Kept) → Rises f i → IsKept f q i k
    → limits ≡ (f.program i r).limits → IsProgram (f.program i r) → IsProgram (with_limits k.program limits)
renewed_is_program f i q r limits k rises kept there is =
    subst (λ (y : ProgramDef). IsProgram y) (sym (renewed_program f i q r k.program limits rises kept.program there)) is

-- What solves a program solves an equal one.
taken_over : (f : SourceDef) (r : List ℕ) (left i : ℕ) (p q : ProgramDef) (s : Solution) (o : Option (Result Solution SolveStop))
    → IfSome o (λ x. (x ≡ Ok s) × (p ≡ q)) → IsSolution p s → q ≡ f.program i r → IfSome o (λ x. IsOutcome f r left i x)
taken_over f r left i p q s None given is there = tt
taken_over f r left i p q s (Some x) (same, one) is there =
    let solved : IsSolution (f.program i r) s = subst (λ (y : ProgramDef). IsSolution y s) (one ∙ there) is in
    record { gives = subst (λ (y : Result Solution SolveStop). GivesSolution y (f.program i r) left) (sym same) solved }

-- So a kept program with the limits for other bounds is the task's there. It keeps its solution if the limits are the same.
pub renewed_planned : (f : SourceDef) (i : ℕ) (q r limits : List ℕ) (k : Kept) (p : Planned) (left : ℕ) → Rises f i → IsKept f q i k
    → limits ≡ (f.program i r).limits → IsPlannedFrom k (with_limits k.program limits) p → IsPlanned f r left i p
renewed_planned f i q r limits k p left rises kept there from =
    let program : p.program ≡ f.program i r = from.program ∙ renewed_program f i q r k.program limits rises kept.program there in
    let solution : IsSolution k.program k.solution =
    subst (λ (y : ProgramDef). IsSolution y k.solution) (sym kept.program) kept.solution in
    record { program = program; ahead = taken_over f r left i k.program p.program k.solution p.ahead from.ahead solution program }

-- And a kept program is the task's at other bounds, with its solution, if its limits are the same there.
pub kept_planned : (f : SourceDef) (i : ℕ) (q r : List ℕ) (k : Kept) (p : Planned) (left : ℕ) → Rises f i → IsKept f q i k
    → (f.program i q).limits ≡ (f.program i r).limits → IsPlannedFrom k k.program p → IsPlanned f r left i p
kept_planned f i q r k p left rises kept same from = renewed_planned f i q r k.program.limits k p left rises kept
    (ap (λ (x : ProgramDef). x.limits) kept.program ∙ same) from

-- A run that ran out of units ahead of its place runs out of units there too.
pub units_from_ahead : (p : ProgramDef) (left : ℕ) (ahead : Option (Result Solution SolveStop))
    (o : Result Solution SolveStop) (e : SolveStop)
    → IfSome ahead (λ x. IsAhead p left x) → ahead ≡ Some o → o ≡ Err e → e ≡ solve_stop.Units
    → (IsProgram p) × NeedsMoreThan p left
units_from_ahead p left ahead o e given is failed short =
    let there : IsAhead p left o = rw is at given in
    let mid : IsAhead p left (Err e) = rw failed at there in
    let stopped : IsAhead p left (Err solve_stop.Units) = rw short at mid in
    (stopped.2.0, still_needs_more p stopped.0 left stopped.2.0 stopped.1 stopped.2.1)

-- What is known ahead of its place is what the program gave with at least as many units as are left there.
pub planned_ahead : (f : SourceDef) (r : List ℕ) (left used i : ℕ) (p : ProgramDef) (a : Option (Result Solution SolveStop))
    → p ≡ f.program i r → IfSome a (λ o. IsOutcome f r left i o) → IfSome a (λ o. IsAhead p (left - used) o)
planned_ahead f r left used i p None same planned = tt
planned_ahead f r left used i p (Some x) same planned = (left, omega arith, rw same planned.gives)

-- This holds whether the plan or a thread has it.
pub either_ahead : (f : SourceDef) (r : List ℕ) (left used i : ℕ) (p : ProgramDef) (a b : Option (Result Solution SolveStop))
    → p ≡ f.program i r → IfSome a (λ o. IsOutcome f r left i o) → IfSome b (λ o. IsOutcome f r left i o)
    → IfSome (option_or a b) (λ o. IsAhead p (left - used) o)
either_ahead f r left used i p (Some x) b same planned found = planned_ahead f r left used i p (Some x) same planned
either_ahead f r left used i p None b same planned found = planned_ahead f r left used i p b same found

-- A solution whose units are there is a solved task.
pub solved_run : (f : SourceDef) (r : List ℕ) (i left value : ℕ) (s : Solution) → IsSolution (f.program i r) s → s.used ≤ left
    → value ≡ response_with f r i s.blocking → TaskRuns f r i left (Valued s.used value (dual_seen s.dual))
solved_run f r i left value s is most response =
    let within : is.exchanges < left = omega (arith, is.units, most) in
    record {
      is_program = is.is_program;
      ends = record {
        exchanges = is.exchanges;
        optimum = is.optimum;
        best = s.best.items;
        ends = ends_within (f.program i r) s.used left is.exchanges is.optimum s.best.items (dual_seen s.dual) is.ends within;
        units = is.units;
        response = record { blocking = s.blocking; greatest = is.greatest; response = response };
      };
    }

-- One whose units aren't there is a task that runs out of units.
pub short_run : (f : SourceDef) (r : List ℕ) (i left : ℕ) (s : Solution) → IsSolution (f.program i r) s → left < s.used
    → TaskRuns f r i left OutOfUnits
short_run f r i left s is few = record { is_program = is.is_program; ends = needs_more (f.program i r) s left is few }

-- And a program that stops is a task that stops.
pub stopped_run : (f : SourceDef) (r : List ℕ) (i left : ℕ) (e : SolveStop) → GivesSolution (Err e) (f.program i r) left
    → GivesRun (Err e) f r i left
stopped_run f r i left solve_stop.Wide (is, wide) = record { is_program = is; ends = wide }
stopped_run f r i left solve_stop.Units (is, more) = record { is_program = is; ends = more }
stopped_run f r i left solve_stop.Memory given = tt

-- One more program may be kept behind the others.
pub kept_more : (f : SourceDef) (r : List ℕ) (n : ℕ) (before now : List Kept) (k : Kept) → AreKept f r n before → IsKept f r n k
    → now ≡ before ++ k ∷ [] → AreKept f r (n + 1) now
kept_more f r n before now k old new same =
    let place : n ≡ 0 + length before = omega (arith, old.one_each) in
    rw same (record {
      one_each = length-append before (k ∷ []) ∙ omega (arith, old.one_each);
      each = each_more (IsKept f r) 0 before k old.each (subst (λ (j : ℕ). IsKept f r j k) place new);
    })
