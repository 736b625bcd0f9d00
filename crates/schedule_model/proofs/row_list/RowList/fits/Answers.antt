use Rattle.std.proofs.Common.{◌≡◌, ◌∙◌, sym, subst, true}
use Rattle.schedule_model.specs.Fitting.{RowsDef, IsMadeFor, is_fitting}
use Rattle.schedule_model.specs.ListViews.{rows_view}
use Rattle.schedule_model.proofs.RowListLaws.{made_fits}
use Rattle.schedule_model.proofs.row_list.RowList.fits.Goals as goal

pub returns-clause-made : goal.returns-clause-made
returns-clause-made c made =
    let rows = rows_view c.self.inside in
    let jobs = c.args.jobs.now in
    let fits : is_fitting rows jobs ≡ true =
    made_fits rows jobs c.self.invariant.listed (subst (λ (r : RowsDef). IsMadeFor r jobs) (sym c.self.view_is) made) in
    c.all_fit.ensures ∙ rw (
      c.deref.ensures.value,
      c.processors.ensures.value,
      c.resources.ensures.value,
      c.len.ensures.value,
      c.set-set.ensures,
    ) fits
