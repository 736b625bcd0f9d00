use Rattle.std.proofs.Common.{◌≡◌, subst}
use Rattle.std.specs.Result.{IfOk}
use Rattle.program_sources.specs.Recurrence.{SourceDef}
use Rattle.further_rows.proofs.closer.CloserProgramSource.program.Goals as goal

pub returns : goal.returns
returns g c =
    subst (λ (f : SourceDef). IfOk c.program_with.result (λ p. p ≡ f.program c.args.i.0 c.args.bounds.now))
    (g.met.R.FurtherRows.further c.args.self.now.rows c.args.self.now.plain c.args.set.now) c.program_with.ensures
