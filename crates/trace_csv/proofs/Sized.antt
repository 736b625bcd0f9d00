-- Rows that fit jobs have the sizes of their set.
use Rattle.std.proofs.Common.{◌≡◌, Bool, true, List, [], ◌∷◌, length, refl}
use Rattle.std.specs.List.{list_all}
use Rattle.std.proofs.lemmas.Bool.{and_parts, and_from}
use Rattle.schedule_model.specs.JobDef.{JobsDef}
use Rattle.schedule_model.specs.RowDef.{RunDef}
use Rattle.schedule_model.specs.Fitting.{fits_row, is_sized, names_jobs}
use Rattle.trace_csv.specs.Written.{are_sized}

pub sized_if_fitting : (jobs : JobsDef) (runs : List RunDef)
    → list_all (λ run. fits_row jobs.set.processors (length jobs.set.resources) (length jobs.jobs) run.row) runs ≡ true
    → are_sized jobs.set runs ≡ true
sized_if_fitting jobs [] fits = refl
sized_if_fitting jobs (run ∷ runs) fits =
    let fit : JobsDef → RunDef → Bool = λ j r. fits_row j.set.processors (length j.set.resources) (length j.jobs) r.row in
    let parts = and_parts (fit jobs run) (list_all (fit jobs) runs) fits in
    let here = and_parts (is_sized jobs.set.processors (length jobs.set.resources) run.row)
    (names_jobs (length jobs.jobs) run.row) parts.0 in
    and_from (is_sized jobs.set.processors (length jobs.set.resources) run.row) (are_sized jobs.set runs) here.0
    (sized_if_fitting jobs runs parts.1)
