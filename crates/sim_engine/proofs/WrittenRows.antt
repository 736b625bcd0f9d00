-- A schedule that is being written, from stretch to stretch.
use Rattle.std.proofs.Common.{◌≡◌, ℕ, ◌+◌, ◌<◌, ◌≤◌, Bool, true, false, List, [], ◌∷◌, ◌++◌, length, refl, sym, ap}
use Rattle.std.proofs.Common.{subst, ◌∙◌, arith, inl, inr, None, leb, ltb}
use Rattle.std.specs.List.{list_all}
use Rattle.std.specs.Int.{is_in_range}
use Rattle.std.proofs.lemmas.Bool.{and_parts, and_from, le-leb, le-ltb}
use Rattle.std.proofs.lemmas.List.Folds.{list_all-append}
use Rattle.sporadic_model.specs.declared.limits.TheConstants.{MOST_TICKS}
use Rattle.schedule_model.specs.JobDef.{JobsDef}
use Rattle.schedule_model.specs.RowDef.{RowDef, RunDef, Trace, row_in, ticks_of}
use Rattle.schedule_model.specs.Fitting.{RowsDef, is_sized, names_jobs, fits_row, is_fitting, first_refusal, with_run}
use Rattle.schedule_laws.specs.Agreement.{ChoiceReadsUpTo}
use Rattle.schedule_laws.proofs.TakenRows.{fits_jobs_passes}
use Rattle.phase_machine.specs.MachineDef.{MachineDef}
use Rattle.phase_machine.specs.Taking.{IsRowFor}
use Rattle.sim_engine.specs.Simulated.{IsSimulated}
use Rattle.sim_engine.specs.Choosing.{AreChosenSoFar, StandsFor}
use Rattle.sim_engine.specs.Writing.{rows_with, all_runs, CanEnd, AddsRows, IsUnderWay}
use Rattle.sim_engine.proofs.ChosenRows.{over, chosen_again}
use Rattle.sim_engine.proofs.Runs.{ticks_with, longer_before, added_before, added_here, joined_longer, joined_more, lasting_more}

-- A row that fits the jobs passes the test that it does.
passes : (list : JobsDef) (row : RowDef) → IsRowFor list row
    → fits_row list.set.processors (length list.set.resources) (length list.jobs) row ≡ true
passes list row fits = fits_jobs_passes (record { set = list.set; jobs = list.jobs; row = λ t. row }) 0 fits

-- One run more that fits.
fits_more : (list : JobsDef) (rows : RowsDef) (run : RunDef) → is_fitting rows list ≡ true → IsRowFor list run.row
    → is_fitting (with_run rows run) list ≡ true
fits_more list rows run fits row =
    let test : RunDef → Bool = λ r. fits_row list.set.processors (length list.set.resources) (length list.jobs) r.row in
    let last : list_all test (run ∷ []) ≡ true = and_from (test run) true (passes list run.row row) refl in
    list_all-append test rows.runs (run ∷ []) ∙ and_from (list_all test rows.runs) (list_all test (run ∷ [])) fits last

none_due : (list : JobsDef) (runs : List RunDef) (run : RunDef) → is_in_range 1 MOST_TICKS run.ticks ≡ true
    → names_jobs (length list.jobs) run.row ≡ true
    → ltb MOST_TICKS (ticks_of runs + run.ticks) ≡ false → first_refusal (rows_with list runs) run ≡ None
none_due list runs run number named most = rw (number, named, most) refl

-- The run that goes on can end.
pub can_end : (chooses : Trace → ℕ → Type 0) (m : MachineDef) (rows : RowsDef) (last : RunDef)
    → IsUnderWay chooses m rows last → m.tick ≤ MOST_TICKS → CanEnd rows last
can_end chooses m rows last u most =
    let within : ticks_of rows.runs + last.ticks ≤ MOST_TICKS = omega (arith, u.tick, most) in
    let number : is_in_range 1 MOST_TICKS last.ticks ≡ true = and_from (leb 1 last.ticks) (leb last.ticks MOST_TICKS)
    (le-leb 1 last.ticks u.lasts) (le-leb last.ticks MOST_TICKS (omega (arith, within))) in
    let fits : (is_sized m.list.set.processors (length m.list.set.resources) last.row ≡ true)
    × (names_jobs (length m.list.jobs) last.row ≡ true) = and_parts _ _ (passes m.list last.row u.last_fits) in
    let can : CanEnd (rows_with m.list rows.runs) last = record {
      sized = fits.0;
      free = none_due m.list rows.runs last number fits.1 (le-ltb MOST_TICKS (ticks_of rows.runs + last.ticks) within);
    } in
    subst (λ (r : RowsDef). CanEnd r last) (sym u.made) can

-- The first run.
pub first_run : (chooses : Trace → ℕ → Type 0) (m n : MachineDef) (list : JobsDef) (rows : RowsDef) (row copy : RowDef)
    (more : ℕ) → 1 ≤ more → m.tick ≡ 0 → n.list ≡ list
    → n.tick ≡ m.tick + more → IsRowFor list row → rows ≡ rows_with list [] → copy ≡ row
    → ((rows : ℕ → RowDef) → AreChosenSoFar chooses rows m → StandsFor rows m.tick more row → AreChosenSoFar chooses rows n)
    → ((rows : ℕ → RowDef) → AreChosenSoFar chooses rows m)
    → IsUnderWay chooses n rows (record { ticks = more; row = copy })
first_run chooses m n list rows row copy more some start same tick fits made copied next far =
    let all : ℕ → RowDef = row_in ([] ++ record { ticks = more; row = row } ∷ []) in
    rw (made, copied) (record {
      chosen = next all (far all) (λ i l.
          added_here list [] (record { ticks = more; row = row }) (m.tick + i) (omega arith) (omega (arith, start, l)));
      tick = omega (arith, start, tick);
      made = ap (λ (l : JobsDef). rows_with l []) (sym same);
      fits = refl;
      last_fits = subst (λ (l : JobsDef). IsRowFor l row) (sym same) fits;
      lasts = some;
      lasting = tt;
      joined = tt;
    })

-- The same row again.
go_on : (chooses : Trace → ℕ → Type 0) (m n : MachineDef) (rows : RowsDef) (last : RunDef) (row : RowDef) (more : ℕ)
    → ChoiceReadsUpTo chooses → IsUnderWay chooses m rows last
    → n.list ≡ m.list → n.tick ≡ m.tick + more
    → ((rows : ℕ → RowDef) → AreChosenSoFar chooses rows m → StandsFor rows m.tick more row → AreChosenSoFar chooses rows n)
    → last.row ≡ row → IsUnderWay chooses n rows (record { ticks = last.ticks + more; row = last.row })
go_on chooses m n rows last row more reads u list tick next same = record {
  chosen = next later (chosen_again chooses (row_in (all_runs rows last)) later m reads before u.chosen) here;
  tick = omega (arith, u.tick, tick);
  made = subst (λ (l : JobsDef). rows ≡ rows_with l rows.runs) (sym list) u.made;
  fits = subst (λ (l : JobsDef). is_fitting rows l ≡ true) (sym list) u.fits;
  last_fits = subst (λ (l : JobsDef). IsRowFor l last.row) (sym list) u.last_fits;
  lasts = omega (arith, u.lasts);
  lasting = u.lasting;
  joined = joined_longer rows.runs last.row last.ticks (last.ticks + more) u.joined;
} where
  later : ℕ → RowDef
  later = row_in (all_runs rows (record { ticks = last.ticks + more; row = last.row }))

  before : (t : ℕ) → t < m.tick
      → row_in (all_runs rows last) t ≡ row_in (all_runs rows (record { ticks = last.ticks + more; row = last.row })) t
  before t l = longer_before m.list rows.runs last.row last.ticks (last.ticks + more) t (omega arith) (omega (arith, l, u.tick))

  here : StandsFor (row_in (all_runs rows (record { ticks = last.ticks + more; row = last.row }))) m.tick more row
  here i l =
      added_here m.list rows.runs (record { ticks = last.ticks + more; row = last.row }) (m.tick + i)
      (omega (arith, u.tick)) (omega (arith, u.tick, l)) ∙ same

-- Another row.
begin_anew : (chooses : Trace → ℕ → Type 0) (m n : MachineDef) (rows : RowsDef) (last : RunDef) (row : RowDef)
    (more : ℕ) → 1 ≤ more → ChoiceReadsUpTo chooses
    → IsUnderWay chooses m rows last → n.list ≡ m.list → n.tick ≡ m.tick + more
    → ((rows : ℕ → RowDef) → AreChosenSoFar chooses rows m → StandsFor rows m.tick more row
    → AreChosenSoFar chooses rows n) → IsRowFor m.list row
    → (last.row ≡ row → ⊥) → IsUnderWay chooses n (with_run rows last) (record { ticks = more; row = row })
begin_anew chooses m n rows last row more some reads u list tick next fits other = record {
  chosen = next later (chosen_again chooses (row_in (all_runs rows last)) later m reads before u.chosen) here;
  tick = omega (arith, u.tick, tick, ticks_with rows.runs last);
  made = subst (λ (l : JobsDef). with_run rows last ≡ rows_with l (all_runs rows last)) (sym list)
      (ap (λ (r : RowsDef). with_run r last) u.made);
  fits = subst (λ (l : JobsDef). is_fitting (with_run rows last) l ≡ true) (sym list) (fits_more m.list rows last u.fits u.last_fits);
  last_fits = subst (λ (l : JobsDef). IsRowFor l row) (sym list) fits;
  lasts = some;
  lasting = lasting_more rows.runs last u.lasting u.lasts;
  joined = joined_more rows.runs last (record { ticks = more; row = row }) u.joined other;
} where
  later : ℕ → RowDef
  later = row_in (all_runs rows last ++ record { ticks = more; row = row } ∷ [])

  before : (t : ℕ) → t < m.tick → row_in (all_runs rows last) t ≡ row_in (all_runs rows last ++ record { ticks = more; row = row } ∷ []) t
  before t l = added_before m.list (all_runs rows last) (record { ticks = more; row = row }) t
      (omega (arith, l, u.tick, ticks_with rows.runs last))

  here : StandsFor (row_in (all_runs rows last ++ record { ticks = more; row = row } ∷ [])) m.tick more row
  here i l =
      added_here m.list (all_runs rows last) (record { ticks = more; row = row }) (m.tick + i)
      (omega (arith, u.tick, ticks_with rows.runs last))
      (omega (arith, u.tick, ticks_with rows.runs last, l))

-- A stretch more, chosen and written.
pub stretch_more : (chooses : Trace → ℕ → Type 0) (m n : MachineDef) (rows after : RowsDef) (last next : RunDef)
    (row : RowDef) (more : ℕ) → 1 ≤ more → ChoiceReadsUpTo chooses
    → IsUnderWay chooses m rows last → n.list ≡ m.list → n.tick ≡ m.tick + more
    → ((rows : ℕ → RowDef) → AreChosenSoFar chooses rows m → StandsFor rows m.tick more row
    → AreChosenSoFar chooses rows n) → IsRowFor m.list row
    → AddsRows rows last row more after next → IsUnderWay chooses n after next
stretch_more chooses m n rows after last next row more some reads u list tick taken fits (inl same) =
    rw (same.kept, same.longer) (go_on chooses m n rows last row more reads u list tick taken same.same)
stretch_more chooses m n rows after last next row more some reads u list tick taken fits (inr other) =
    rw (other.ended, other.begun) (begin_anew chooses m n rows last row more some reads u list tick taken fits other.other)

-- The rows at the end, after the last run has ended too.
pub simulated : (chooses : Trace → ℕ → Type 0) (m : MachineDef) (list : JobsDef) (n : ℕ) (rows after : RowsDef)
    (last : RunDef) → IsUnderWay chooses m rows last → m.list ≡ list → m.tick ≡ n
    → after ≡ with_run rows last → IsSimulated chooses list n after.runs
simulated chooses m list n rows after last u same tick e = rw e (record {
  ticks = omega (arith, ticks_with rows.runs last, u.tick, tick);
  chosen = λ t l. subst (λ (l : JobsDef). chooses (over l (row_in (all_runs rows last))) t) same
      (u.chosen.chosen t (omega (arith, l, tick)));
  lasting = lasting_more rows.runs last u.lasting u.lasts;
  joined = u.joined;
})

pub fits_jobs : (chooses : Trace → ℕ → Type 0) (m : MachineDef) (list : JobsDef) (rows after : RowsDef) (last : RunDef)
    → IsUnderWay chooses m rows last → m.list ≡ list
    → after ≡ with_run rows last → is_fitting after list ≡ true
fits_jobs chooses m list rows after last u same e = rw e (subst
    (λ (l : JobsDef). is_fitting (with_run rows last) l ≡ true) same (fits_more m.list rows last u.fits u.last_fits))
