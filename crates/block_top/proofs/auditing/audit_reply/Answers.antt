use Rattle.std.proofs.Common.{◌≡◌}
use Rattle.program_form.specs.Certificate.{certificate_seen}
use Rattle.schedule_model.specs.RowDef.{trace_in, ticks_of}
use Rattle.schedule_model.proofs.RowListLaws.{made_fits}
use Rattle.schedule_answers.specs.TaskAnswers.{no_figures}
use Rattle.std.specs.Prelude.{slice_index_or}
use Rattle.reply_texts.specs.Texts.{kept_text}
use Rattle.command_inputs.specs.Halts.{reply_seen}
use Rattle.run_plans.proofs.AuditLaws.{kept_audit}
use Rattle.block_top.proofs.auditing.audit_reply.Goals as goal

pub figures_of_text-requires-clause-fits : goal.figures_of_text-requires-clause-fits
figures_of_text-requires-clause-fits c = made_fits c.args.rows.now c.args.jobs.now c.ticks-ticks.ensures.listed c.requires.made

pub returns-in_ok-kept_reply-in-Ok : goal.returns-in_ok-kept_reply-in-Ok
returns-in_ok-kept_reply-in-Ok c =
    let audits = c.in-Ok.ensures in
    let is : reply_seen c.in_ok-kept_reply-in-Ok.field-0 ≡ record {
      status = 0;
      text = kept_text c.args.jobs.now.set (ticks_of c.args.rows.now.runs) (λ x. slice_index_or c.in-Ok.figures.items x no_figures);
    } = rw (c.set.ensures, c.deref.ensures.value, c.ticks-ticks.ensures.value) at c.in_ok-kept_reply-in-Ok.ensures in
    kept_audit c.args.protocol (certificate_seen c.args.certificate.now) (trace_in c.args.jobs.now c.args.rows.now.runs)
    (ticks_of c.args.rows.now.runs)
    c.in-Ok.figures.items (reply_seen c.in_ok-kept_reply-in-Ok.field-0) audits.0 audits.1 audits.2 is
