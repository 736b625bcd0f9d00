use Rattle.std.proofs.Common.{◌≡◌, ◌∷◌, ◌∙◌, refl, subst, sym, ap}
use Rattle.trace_csv.specs.Records.{Fields, fields_seen}
use Rattle.trace_csv.specs.JobsFile.{RecordsRead, jobs_header, arrivals_header}
use Rattle.trace_csv.proofs.Headers.{under_jobs, under_arrivals}
use Rattle.trace_csv.proofs.jobs.jobs_under_header.Goals as goal
use Rattle.trace_csv.proofs.jobs.jobs_under_header.Goals.{else-not-has_arrivals-via-then-not-has_arrivals+else-not-is_jobs_header}
use Rattle.trace_csv.proofs.jobs.jobs_under_header.Goals.{else-not-has_arrivals-via-else-not-has_arrivals}

pub returns : goal.returns
returns c =
    let lines = c.next.new.self in
    let header = fields_seen c.in-Record.header.items in
    let first = rw c.in-Record.is at c.in_ok-header.ensures in
    let slices = rw c.deref.ensures.value at c.in_ok-header-2.ensures in
    elim c.else-not-has_arrivals.branch [
      | else-not-has_arrivals-via-then-not-has_arrivals+else-not-is_jobs_header w ↦
          let is : header ≡ jobs_header =
          sym slices ∙ rw w.deref-then-not-has_arrivals.ensures.value at (w.if-not-is_jobs_header.ensures.0 refl) in
          let read = rw w.if-not-has_arrivals.true at c.jobs_of.ensures in
          subst (RecordsRead c.jobs_of.result c.args.set.now) (sym (first ∙ ap (λ (h : Fields). h ∷ lines) is))
          (under_jobs c.jobs_of.result c.args.set.now lines read)
      | else-not-has_arrivals-via-else-not-has_arrivals w ↦
          let is : header ≡ arrivals_header = sym slices ∙ rw c.deref-2.ensures.value at (w.if-not-has_arrivals.ensures.0 refl) in
          let read = rw w.if-not-has_arrivals.false at c.jobs_of.ensures in
          subst (RecordsRead c.jobs_of.result c.args.set.now) (sym (first ∙ ap (λ (h : Fields). h ∷ lines) is))
          (under_arrivals c.jobs_of.result c.args.set.now lines read)
    ]
