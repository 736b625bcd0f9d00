use Rattle.std.proofs.Common.{◌≡◌, subst}
use Rattle.program_sources.specs.Recurrence.{SourceDef, interference_of}
use Rattle.further_rows.proofs.closer.CloserProgramSource.interference.Goals as goal

pub returns-clause-value : goal.returns-clause-value
returns-clause-value g c =
    subst (λ (f : SourceDef). c.interference.result ≡ interference_of f.interfering c.args.set.now c.args.bounds.now c.args.i.0)
    (g.met.R.FurtherRows.further c.args.self.now.rows c.args.self.now.plain c.args.set.now) c.interference.ensures.value
