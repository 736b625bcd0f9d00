-- A list of rows fits the jobs that it was made for.
use Rattle.std.proofs.Common.{◌≡◌, ℕ, ◌<◌, ◌≤◌, true, List, [], ◌∷◌, length, refl, arith, Option, Some, None}
use Rattle.std.specs.List.{list_all}
use Rattle.std.proofs.lemmas.Bool.{and_parts, and_from, ltb-true, lt-ltb}
use Rattle.schedule_model.specs.JobDef.{JobsDef}
use Rattle.schedule_model.specs.RowDef.{RowDef, RunDef}
use Rattle.schedule_model.specs.Fitting.{RowsDef, IsRowList, IsMadeFor, is_sized, is_below, names_below, names_jobs, fits_row, is_fitting}

is_below-more : (n m : ℕ) (o : Option ℕ) → n ≤ m → is_below n o ≡ true → is_below m o ≡ true
is_below-more n m None l h = refl
is_below-more n m (Some j) l h = let below : j < n = ltb-true _ _ h in lt-ltb _ _ (omega arith)

names_below-more : (n m : ℕ) (places : List (Option ℕ)) → n ≤ m → names_below n places ≡ true → names_below m places ≡ true
names_below-more n m [] l h = refl
names_below-more n m (o ∷ places) l h =
    let parts : (is_below n o ≡ true) × (names_below n places ≡ true) = and_parts (is_below n o) (names_below n places) h in
    and_from (is_below m o) (names_below m places) (is_below-more n m o l parts.0) (names_below-more n m places l parts.1)

names_jobs-more : (n m : ℕ) (row : RowDef) → n ≤ m → names_jobs n row ≡ true → names_jobs m row ≡ true
names_jobs-more n m row l h =
    let parts : (names_below n row.running ≡ true) × (names_below n row.holders ≡ true) =
    and_parts (names_below n row.running) (names_below n row.holders) h in
    and_from (names_below m row.running) (names_below m row.holders) (names_below-more n m row.running l parts.0)
    (names_below-more n m row.holders l parts.1)

each_fits : (p r n m : ℕ) (runs : List RunDef) → n ≤ m → list_all (λ run. is_sized p r run.row) runs ≡ true
    → list_all (λ run. names_jobs n run.row) runs ≡ true → list_all (λ run. fits_row p r m run.row) runs ≡ true
each_fits p r n m [] l sized named = refl
each_fits p r n m (run ∷ runs) l sized named =
    let sizes : (is_sized p r run.row ≡ true) × (list_all (λ x. is_sized p r x.row) runs ≡ true) =
    and_parts (is_sized p r run.row) (list_all (λ x. is_sized p r x.row) runs) sized in
    let names : (names_jobs n run.row ≡ true) × (list_all (λ x. names_jobs n x.row) runs ≡ true) =
    and_parts (names_jobs n run.row) (list_all (λ x. names_jobs n x.row) runs) named in
    and_from (fits_row p r m run.row) (list_all (λ x. fits_row p r m x.row) runs)
    (and_from (is_sized p r run.row) (names_jobs m run.row) sizes.0 (names_jobs-more n m run.row l names.0))
    (each_fits p r n m runs l sizes.1 names.1)

-- A list of rows fits the jobs that it was made for, also after more of them were listed.
pub made_fits : (rows : RowsDef) (jobs : JobsDef) → IsRowList rows → IsMadeFor rows jobs → is_fitting rows jobs ≡ true
made_fits rows jobs listed made =
    let fits : list_all (λ run. fits_row rows.processors rows.resources (length jobs.jobs) run.row) rows.runs ≡ true =
    each_fits rows.processors rows.resources rows.jobs (length jobs.jobs) rows.runs made.jobs listed.sized
    listed.named in
    rw (← made.processors, ← made.resources) fits
