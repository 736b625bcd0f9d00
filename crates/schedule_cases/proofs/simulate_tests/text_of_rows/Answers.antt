use Rattle.std.proofs.Common.{◌≡◌, true, sym, subst}
use Rattle.sporadic_model.specs.SetDef.{SetDef}
use Rattle.trace_csv.specs.Written.{are_sized}
use Rattle.trace_csv.proofs.Sized.{sized_if_fitting}
use Rattle.schedule_cases.proofs.simulate_tests.text_of_rows.Goals as goal

pub write_rows-requires : goal.write_rows-requires
write_rows-requires c =
    subst (λ (s : SetDef). are_sized s c.args.rows.now.runs ≡ true) (sym c.set.ensures)
    (sized_if_fitting c.args.jobs.now c.args.rows.now.runs (sym c.if-not-fits.ensures.value))
