-- Lists of runs whose last run goes on, or ends.
use Rattle.std.proofs.Common.{◌≡◌, ◌≢◌, ℕ, ◌+◌, ◌<◌, ◌≤◌, List, [], ◌∷◌, ◌++◌, sym, ◌∙◌, arith, inl, inr}
use Rattle.std.proofs.lemmas.Bool.{cases_lt}
use Rattle.std.proofs.lemmas.List.Sums.{sum_by-append, sum_by-cons}
use Rattle.schedule_model.specs.JobDef.{JobsDef}
use Rattle.schedule_model.specs.RowDef.{RowDef, RunDef, row_in, ticks_of}
use Rattle.schedule_laws.proofs.Agreement.{runs_agree, run_added}
use Rattle.sim_engine.specs.Joined.{AreJoined}
use Rattle.sim_engine.specs.Simulated.{EachLasts}

-- The ticks of a run more.
pub ticks_with : (runs : List RunDef) (run : RunDef) → ticks_of (runs ++ run ∷ []) ≡ ticks_of runs + run.ticks
ticks_with runs run = omega (arith, sum_by-append (λ (r : RunDef). r.ticks) runs (run ∷ []), sum_by-cons (λ (r : RunDef). r.ticks) run [])

-- A last run that lasts longer changes nothing before.
pub longer_before : (list : JobsDef) (runs : List RunDef) (row : RowDef) (a b t : ℕ) → a ≤ b → t < ticks_of runs + a
    → row_in (runs ++ record { ticks = a; row = row } ∷ []) t ≡ row_in (runs ++ record { ticks = b; row = row } ∷ []) t
longer_before list runs row a b t h l = elim (cases_lt t (ticks_of runs)) [
  | inl early ↦ (runs_agree list runs (record { ticks = a; row = row } ∷ [])).rows t early
      ∙ sym ((runs_agree list runs (record { ticks = b; row = row } ∷ [])).rows t early)
  | inr late ↦
      run_added list runs (record { ticks = a; row = row }) [] t late (omega arith)
      ∙ sym (run_added list runs (record { ticks = b; row = row }) [] t late (omega arith))
]

-- Nor does a run that is added.
pub added_before : (list : JobsDef) (runs : List RunDef) (run : RunDef) (t : ℕ) → t < ticks_of runs
    → row_in runs t ≡ row_in (runs ++ run ∷ []) t
added_before list runs run t l = sym ((runs_agree list runs (run ∷ [])).rows t l)

-- It is at its ticks.
pub added_here : (list : JobsDef) (runs : List RunDef) (run : RunDef) (t : ℕ) → ticks_of runs ≤ t
    → t < ticks_of runs + run.ticks → row_in (runs ++ run ∷ []) t ≡ run.row
added_here list runs run t l h = run_added list runs run [] t l h

-- How long runs last doesn't matter for whether they are joined.
pub joined_longer : (runs : List RunDef) (row : RowDef) (a b : ℕ)
    → AreJoined (runs ++ record { ticks = a; row = row } ∷ [])
    → AreJoined (runs ++ record { ticks = b; row = row } ∷ [])
joined_longer [] row a b joined = tt
joined_longer (x ∷ []) row a b joined = (joined.0, tt)
joined_longer (x ∷ y ∷ runs) row a b joined = (joined.0, joined_longer (y ∷ runs) row a b joined.1)

-- A run of another row may follow.
pub joined_more : (runs : List RunDef) (last next : RunDef) → AreJoined (runs ++ last ∷ []) → last.row ≢ next.row
    → AreJoined ((runs ++ last ∷ []) ++ next ∷ [])
joined_more [] last next joined other = (other, tt)
joined_more (x ∷ []) last next joined other = (joined.0, (other, tt))
joined_more (x ∷ y ∷ runs) last next joined other = (joined.0, joined_more (y ∷ runs) last next joined.1 other)

-- A run that lasts may follow runs that do.
pub lasting_more : (runs : List RunDef) (run : RunDef) → EachLasts runs → 1 ≤ run.ticks → EachLasts (runs ++ run ∷ [])
lasting_more [] run lasting lasts = (lasts, tt)
lasting_more (x ∷ runs) run lasting lasts = (lasting.0, lasting_more runs run lasting.1 lasts)
