use Rattle.std.specs.Prelude.{IfOk, OnOk, Result, Ok, Err}
use Rattle.std.specs.declared.vec.Vec.{Vec}
use Rattle.std.specs.Global.{Global}
use Rattle.std.specs.declared.alloc.AllocError.{AllocError}
use Rattle.std.proofs.Common.{◌≡◌, ◌<◌, ◌≤◌, ◌^◌, ℕ, List, true, length, sym, ap, subst, ◌∙◌, arith}
use Rattle.sporadic_model.specs.SetDef.{SetDef}
use Rattle.schedule_model.specs.JobDef.{JobsDef}
use Rattle.schedule_model.specs.Fitting.{RowsDef, IsRowList, is_fitting}
use Rattle.schedule_model.specs.declared.limits.TheConstants.{MOST_JOBS}
use Rattle.trace_csv.specs.RowLines.{job_count}
use Rattle.trace_csv.specs.Written.{ReadsBack, ReadsBackIfFitting, rows_text}
use Rattle.trace_csv.proofs.RoundTrip.{all_fit, reads_back}
use Rattle.trace_csv.proofs.writing.write_rows.Goals as goal

again : (set : SetDef) (rows : RowsDef) (text : List ℕ) (jobs : JobsDef) → IsRowList rows → text ≡ rows_text set rows.runs → jobs.set ≡ set
    → length jobs.jobs ≤ MOST_JOBS → is_fitting rows jobs ≡ true → ReadsBack rows text jobs
again set rows text jobs listed is same few fits =
    let small : job_count jobs < 2 ^ 64 = omega arith in
    let there : text ≡ rows_text jobs.set rows.runs = is ∙ ap (λ (s : SetDef). rows_text s rows.runs) (sym same) in
    let read = reads_back jobs rows.runs small (all_fit jobs rows.runs fits listed.lasting) listed.most in
    subst (λ (t : List ℕ). ReadsBack rows t jobs) (sym there) (record { file = read.0; runs = read.1 })

answered : (set : SetDef) (rows : RowsDef) (r : Result (Vec ℕ Global) AllocError) → IfOk r (λ text. text.items ≡ rows_text set rows.runs)
    → OnOk r (IsRowList rows) → IfOk r (λ text. ReadsBackIfFitting set rows text.items)
answered set rows (Ok text) is listed = λ jobs same few fits. again set rows text.items jobs listed is same few fits
answered set rows (Err e) is listed = tt

pub returns-clause-reads_back : goal.returns-clause-reads_back
returns-clause-reads_back c =
    answered c.args.set.now c.args.rows.now c.text_of_rows.result c.text_of_rows.ensures.text c.text_of_rows.ensures.listed
