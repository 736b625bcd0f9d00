use Rattle.std.specs.Prelude.{List}
use Rattle.program_sources.specs.Recurrence.{SourceDef, source_at}
use Rattle.refusal_laws.specs.Steps.{StepDef}
use Rattle.refusal_laws.specs.Seen.{steps_seen}
use Rattle.refusal_confirm.specs.Faults.{Confirms}
use Rattle.refusal_confirm.proofs.FaultLaws.{accepted, names}
use Rattle.refusal_confirm.proofs.confirming.confirm.Goals as goal

pub returns-clause-accepts : goal.returns-clause-accepts
returns-clause-accepts g c =
    let f : SourceDef = source_at (g.P.ProgramSource.source c.args.protocol.now) c.args.set.now in
    let steps : List StepDef = steps_seen c.args.refusal.now in
    let is : Confirms c.confirm_in_batches.result f steps = rw (c.deref.ensures.value) at c.confirm_in_batches.ensures in
    accepted c.confirm_in_batches.result f steps is

pub returns-clause-only : goal.returns-clause-only
returns-clause-only g c =
    let f : SourceDef = source_at (g.P.ProgramSource.source c.args.protocol.now) c.args.set.now in
    let steps : List StepDef = steps_seen c.args.refusal.now in
    let is : Confirms c.confirm_in_batches.result f steps = rw (c.deref.ensures.value) at c.confirm_in_batches.ensures in
    λ e other. names c.confirm_in_batches.result e f steps is other
