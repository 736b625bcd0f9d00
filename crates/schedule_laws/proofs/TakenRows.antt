-- Rows that can be taken: those that keep the rules can, and in them running jobs are active.
use Rattle.std.proofs.Common.{◌≡◌, ℕ, zero, suc, ◌<◌, ◌==◌, Bool, true, List, [], ◌∷◌, length, get_or, refl, Option, None, Some}
use Rattle.std.proofs.lemmas.Bool.{and_parts, and_from, ltb-true, lt-ltb, eqb-true, eq-eqb}
use Rattle.schedule_model.specs.RowDef.{Trace, running_on}
use Rattle.schedule_model.specs.Chosen.{IsSized}
use Rattle.schedule_model.specs.Fitting.{is_sized, is_below, names_below, names_jobs, fits_row}
use Rattle.schedule_model.specs.TakenRows.{FitsJobs, CanBeTaken, CanBeTakenBefore}
use Rattle.schedule_model.specs.ProtocolLaws.{IsSoundRow}
use Rattle.schedule_laws.specs.Agreement.{RunsActiveBefore}

-- A sound row of the set's sizes can be taken.
pub sound_taken : (interferes : Trace → ℕ → ℕ → Bool) (w : Trace) (t : ℕ) → IsSized w.set (w.row t)
    → IsSoundRow interferes w t → CanBeTaken w t
sound_taken interferes w t sized sound = record {
  fits = record { sized = sized; running = sound.running_listed; holders = sound.holders_listed };
  active = sound.active;
  one_column = sound.one_column;
}

-- In rows that can be taken running jobs are active.
pub taken_active : (w : Trace) (n : ℕ) → CanBeTakenBefore w n → RunsActiveBefore w n
taken_active w n taken t k j l e = (taken t l).active k j e

named_below : (n : ℕ) (places : List (Option ℕ)) (c j : ℕ) → names_below n places ≡ true → get_or places c None ≡ Some j → j < n
named_below n [] c j h e = absurd (cc)
named_below n (o ∷ places) zero j h e =
    let here : is_below n o ≡ true = (and_parts (is_below n o) (names_below n places) h).0 in
    let below : is_below n (Some j) ≡ true = rw e at here in
    ltb-true j n below
named_below n (o ∷ places) (suc c) j h e = named_below n places c j (and_parts (is_below n o) (names_below n places) h).1 e

place_below : (n : ℕ) (o : Option ℕ) → ((j : ℕ) → o ≡ Some j → j < n) → is_below n o ≡ true
place_below n None h = refl
place_below n (Some j) h = lt-ltb j n (h j refl)

below_named : (n : ℕ) (places : List (Option ℕ)) → ((c j : ℕ) → get_or places c None ≡ Some j → j < n) → names_below n places ≡ true
below_named n [] h = refl
below_named n (o ∷ places) h = and_from (is_below n o) (names_below n places) (place_below n o (λ j e. h 0 j e))
    (below_named n places (λ c j e. h (suc c) j e))

-- The test that a row fits the sizes and the jobs says that it does.
pub fits_jobs_from : (w : Trace) (t : ℕ)
    → fits_row w.set.processors (length w.set.resources) (length w.jobs) (w.row t) ≡ true → FitsJobs w t
fits_jobs_from w t h = record {
  sized = record { processors = eqb-true _ _ sizes.0; resources = eqb-true _ _ sizes.1 };
  running = on;
  holders = λ q j e. named_below (length w.jobs) (w.row t).holders q j names.1 e;
} where
  sizes : ((length (w.row t).running == w.set.processors) ≡ true) × ((length (w.row t).holders == length w.set.resources) ≡ true)
  sizes = and_parts _ _ (and_parts (is_sized w.set.processors (length w.set.resources) (w.row t))
      (names_jobs (length w.jobs) (w.row t)) h).0

  names : (names_below (length w.jobs) (w.row t).running ≡ true) × (names_below (length w.jobs) (w.row t).holders ≡ true)
  names = and_parts _ _ (and_parts (is_sized w.set.processors (length w.set.resources) (w.row t))
      (names_jobs (length w.jobs) (w.row t)) h).1

  on : (k j : ℕ) → running_on (w.row t) k ≡ Some j → j < length w.jobs
  on zero j e = absurd (cc)
  on (suc c) j e = named_below (length w.jobs) (w.row t).running c j names.0 e

-- And a row that does passes it.
pub fits_jobs_passes : (w : Trace) (t : ℕ) → FitsJobs w t
    → fits_row w.set.processors (length w.set.resources) (length w.jobs) (w.row t) ≡ true
fits_jobs_passes w t fits =
    and_from (is_sized w.set.processors (length w.set.resources) (w.row t)) (names_jobs (length w.jobs) (w.row t))
    (and_from _ _ (eq-eqb _ _ fits.sized.processors) (eq-eqb _ _ fits.sized.resources))
    (and_from _ _ (below_named (length w.jobs) (w.row t).running (λ c j e. fits.running (suc c) j e))
    (below_named (length w.jobs) (w.row t).holders fits.holders))
