use Rattle.schedule_model.specs.RowDef.{trace_in, ticks_of}
use Rattle.schedule_model.proofs.RowListLaws.{made_fits}
use Rattle.named_laws.specs.Named.{rules_of, interference_of}
use Rattle.command_inputs.specs.Halts.{reply_seen}
use Rattle.run_plans.proofs.ConformLaws.{measured_conformance}
use Rattle.block_top.proofs.work.conformance.Goals as goal

pub measures_of_text-requires-clause-fits : goal.measures_of_text-requires-clause-fits
measures_of_text-requires-clause-fits c = made_fits c.args.rows.now c.args.jobs.now c.ticks-ticks.ensures.listed c.requires.made

pub returns-in_ok-lawful_reply-in-Ok : goal.returns-in_ok-lawful_reply-in-Ok
returns-in_ok-lawful_reply-in-Ok c =
    measured_conformance (rules_of c.args.protocol) (interference_of c.args.protocol)
    (trace_in c.args.jobs.now c.args.rows.now.runs) (ticks_of c.args.rows.now.runs)
    c.in-Ok.measured (reply_seen c.in_ok-lawful_reply-in-Ok.field-0) c.in-Ok.ensures
    (rw (c.set.ensures, c.ticks-ticks.ensures.value, c.deref.ensures.value) at c.in_ok-lawful_reply-in-Ok.ensures)
