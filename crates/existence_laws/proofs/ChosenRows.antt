-- If each schedule of chosen rows has a next one, there are schedules of any number of chosen rows. By induction on that number.
use Rattle.std.proofs.Common.{◌≡◌, ℕ, zero, suc, ◌<◌, refl, sym, subst, arith, inl, inr}
use Rattle.std.proofs.lemmas.Bool.{cases_lt}
use Rattle.schedule_model.specs.JobDef.{JobsDef}
use Rattle.schedule_model.specs.RowDef.{RowDef, Trace, jobs_of, idle_row}
use Rattle.schedule_laws.specs.Agreement.{ChoiceReadsUpTo}
use Rattle.shared_choosing.specs.NextRow.{with_row}
use Rattle.shared_choosing.proofs.NextRow.{same_before, row_there}

-- A row that is chosen at tick t, given the schedule's rows before it.
pub record HasNext (chooses : Trace → ℕ → Type 0) (w : Trace) (t : ℕ) : Type 0 where
  pub row : RowDef
  pub chosen : chooses (with_row w t row) t

-- Whether a row is chosen depends on the rows up to it. After chosen rows of these jobs there is a further chosen one.
pub record NeverStuck (chooses : Trace → ℕ → Type 0) (jobs : JobsDef) : Type 0 where
  pub reads : ChoiceReadsUpTo chooses
  pub next : (w : Trace) (t : ℕ) → jobs_of w ≡ jobs → ((u : ℕ) → u < t → chooses w u) → HasNext chooses w t

-- n chosen rows of these jobs.
pub record Chosen (chooses : Trace → ℕ → Type 0) (jobs : JobsDef) (n : ℕ) : Type 0 where
  pub schedule : Trace
  pub jobs_are : jobs_of schedule ≡ jobs
  pub rows : (t : ℕ) → t < n → chooses schedule t

-- After n of them there is one more.
one_more : (chooses : Trace → ℕ → Type 0) (jobs : JobsDef) (n : ℕ) → NeverStuck chooses jobs → Chosen chooses jobs n
    → Chosen chooses jobs (suc n)
one_more chooses jobs n a before =
    record { schedule = with_row before.schedule n next.row; jobs_are = before.jobs_are; rows = rows } where
      next : HasNext chooses before.schedule n
      next = a.next before.schedule n before.jobs_are before.rows

      rows : (t : ℕ) → t < suc n → chooses (with_row before.schedule n next.row) t
      rows t l = elim (cases_lt t n) [
        | inl early ↦ a.reads before.schedule (with_row before.schedule n next.row) n t (same_before before.schedule n next.row) early
            (before.rows t early)
        | inr late ↦ let here : n ≡ t = omega (arith, l, late) in
            subst (λ u. chooses (with_row before.schedule n next.row) u) here next.chosen
      ]

pub chosen_rows : (chooses : Trace → ℕ → Type 0) (jobs : JobsDef) (n : ℕ) → NeverStuck chooses jobs → Chosen chooses jobs n
chosen_rows chooses jobs zero a = record {
  schedule = record { set = jobs.set; jobs = jobs.jobs; row = λ t. idle_row };
  jobs_are = refl;
  rows = λ t l. absurd (omega arith);
}
chosen_rows chooses jobs (suc n) a = one_more chooses jobs n a (chosen_rows chooses jobs n a)
