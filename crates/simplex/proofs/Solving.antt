-- What an answer of the run says of the program.
use Rattle.std.proofs.Common.{inl, inr, ℕ, ◌<◌, ◌+◌, List, slice_index, Result, Ok, Err}
use Rattle.std.specs.Prelude.{IfOk}
use Rattle.fraction128.specs.Scaling.{IsScaled}
use Rattle.program_form.specs.Program.{ProgramDef, IsProgram}
use Rattle.program_form.specs.Certificate.{dual_seen}
use Rattle.program_form.specs.Points.{IsGreatestReached}
use Rattle.program_form.specs.Duals.{IsOptimalDual, dual_total, dual_value}
use Rattle.exchange_runs.specs.Table.{Table}
use Rattle.exchange_runs.specs.Exchange.{IsEntering, IsLast}
use Rattle.exchange_runs.specs.Run.{Reached}
use Rattle.exchange_runs.specs.Feasible.{IsOptimumValue, IsPointWorth}
use Rattle.exchange_runs.proofs.Finals.{ends_at_optimum, ends_at_point, ends_with_dual, ends_equal, ends_greatest}
use Rattle.exchange_runs.proofs.Finals.{ends_not_wide, ends_not_more, wide_not_more}
use Rattle.simplex.specs.Rows.{RowDef}
use Rattle.simplex.specs.Tables.{table_of}
use Rattle.simplex.specs.Exchanges.{Steps}
use Rattle.simplex.specs.Ends.{Finishes}
use Rattle.simplex.specs.Solves.{Solves, IsOnlyAnswer}
use Rattle.simplex.specs.declared.Solved.{Solved}
use Rattle.simplex.specs.declared.SolveStop.{SolveStop}
use Rattle.simplex.specs.declared.SolveStop.TheVariants.{Memory, Wide, Units}

pub solve_stop : (stop : SolveStop) (p : ProgramDef) (units k e : ℕ) (rows : List RowDef) (basis : List ℕ)
    (rows' : List RowDef) (basis' : List ℕ)
    → k + 1 < units → Reached p k (table_of rows basis) → IsEntering p (table_of rows basis) e
    → Steps (Err stop) p e rows basis rows' basis' → Solves (Err stop) p units
solve_stop Memory p units k e rows basis rows' basis' l reached enters h = tt
solve_stop Wide p units k e rows basis rows' basis' l reached enters h = record {
  exchanges = k;
  table = table_of rows basis;
  reached = reached;
  wide = inl (l, record { entering = e; enters = enters; wide = h });
}
solve_stop Units p units k e rows basis rows' basis' l reached enters h = absurd h

-- the end of the run is the end of the solving
pub finished : (r : Result Solved SolveStop) (p : ProgramDef) (units k : ℕ) (t : Table) → k < units → Reached p k t
    → IsLast p t → Finishes r p t k → Solves r p units
finished (Ok s) p units k t l reached last h = rw h.0 (record {
  table = t;
  run = record { reached = reached; last = last };
  within = l;
  read_off = h.1;
})
finished (Err Memory) p units k t l reached last h = tt
finished (Err Wide) p units k t l reached last h = record {
  exchanges = k;
  table = t;
  reached = reached;
  wide = inr (l, record { reached = reached; last = last }, h);
}
finished (Err Units) p units k t l reached last h = absurd h

-- no two answers hold
pub only_answer : (r : Result Solved SolveStop) (p : ProgramDef) (units : ℕ) → IsProgram p → Solves r p units → IsOnlyAnswer r p units
only_answer (Ok s) p units accepted h = (
  ends_not_wide p units units s.exchanges s.value s.primal.items (dual_seen s.dual) accepted h,
  ends_not_more p units s.exchanges s.value s.primal.items (dual_seen s.dual) accepted h,
)
only_answer (Err Memory) p units accepted h = tt
only_answer (Err Wide) p units accepted h =
    (λ e. ends_not_wide p units units e.0 e.1 e.2 e.3 accepted e.4 h, wide_not_more p units accepted h)
only_answer (Err Units) p units accepted h =
    (λ e. ends_not_more p units e.0 e.1 e.2 e.3 accepted e.4 h, λ w. wide_not_more p units accepted w h)

pub solved_optimum : (r : Result Solved SolveStop) (p : ProgramDef) (units : ℕ) → Solves r p units → IfOk r (λ s. IsOptimumValue p s.value)
solved_optimum (Ok s) p units h = ends_at_optimum p units s.exchanges s.value s.primal.items (dual_seen s.dual) h
solved_optimum (Err stop) p units h = tt

pub solved_primal : (r : Result Solved SolveStop) (p : ProgramDef) (units : ℕ) → Solves r p units
    → IfOk r (λ s. IsPointWorth p s.primal.items s.value)
solved_primal (Ok s) p units h = ends_at_point p units s.exchanges s.value s.primal.items (dual_seen s.dual) h
solved_primal (Err stop) p units h = tt

pub solved_dual : (r : Result Solved SolveStop) (p : ProgramDef) (units : ℕ) → Solves r p units
    → IfOk r (λ s. IsOptimalDual p (dual_seen s.dual))
solved_dual (Ok s) p units h = ends_with_dual p units s.exchanges s.value s.primal.items (dual_seen s.dual) h
solved_dual (Err stop) p units h = tt

pub solved_equal : (r : Result Solved SolveStop) (p : ProgramDef) (units : ℕ) → Solves r p units
    → IfOk r (λ s. IsScaled s.dual.den s.value (dual_total p (λ k. slice_index s.dual.num.items k)))
solved_equal (Ok s) p units h = ends_equal p units s.exchanges s.value s.primal.items (dual_seen s.dual) h
solved_equal (Err stop) p units h = tt

pub solved_greatest : (r : Result Solved SolveStop) (p : ProgramDef) (units : ℕ) → Solves r p units
    → IfOk r (λ s. IsGreatestReached p (dual_value p s.dual.den (λ k. slice_index s.dual.num.items k)))
solved_greatest (Ok s) p units h = ends_greatest p units s.exchanges s.value s.primal.items (dual_seen s.dual) h
solved_greatest (Err stop) p units h = tt
