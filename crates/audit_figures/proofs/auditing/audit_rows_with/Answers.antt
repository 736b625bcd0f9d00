use Rattle.std.proofs.Common.{◌≡◌, ℕ, ◌<◌, List, length, get_or, refl, ◌∙◌}
use Rattle.std.specs.Prelude.{slice_index}
use Rattle.program_form.specs.Certificate.{CertificateDef, certificate_seen}
use Rattle.sporadic_model.specs.Accepted.{IsAccepted}
use Rattle.program_sources.specs.Recurrence.{SourceDef, source_at}
use Rattle.program_sources.specs.Valid.{IsValid, value_at}
use Rattle.schedule_model.specs.RowDef.{Trace, trace_in, ticks_of}
use Rattle.schedule_answers.specs.TaskAnswers.{no_figures}
use Rattle.soundness_laws.specs.Analyses.{AreValues}
use Rattle.soundness_laws.specs.Sound.{IsLawfulSchedule, KeepsBounds, Sound}
use Rattle.figure_laws.specs.Figures.{AreFigures, blocked_sum}
use Rattle.figure_laws.specs.Audited.{charged_ticks}
use Rattle.charge.specs.Given.{BoundEachTask}
use Rattle.audit_figures.proofs.Lawful.{valid_bounds, same_values, lie_within, add_up}
use Rattle.figure_laws.proofs.AllInside.{all_inside}
use Rattle.audit_figures.proofs.auditing.audit_rows_with.Goals as goal

pub walked_figures-requires-clause-given : goal.walked_figures-requires-clause-given
walked_figures-requires-clause-given g c =
    let f : SourceDef =
    source_at (g.P.ProgramSource.source c.args.protocol.now) c.args.jobs.now.set in
    let cert : CertificateDef = certificate_seen c.args.certificate.now in
    let judged : IsValid f cert × AreValues f cert c.in-Ok.valid.values.items =
    rw c.set-2.ensures at c.in-Ok.ensures.judges in
    let accepted : IsAccepted c.args.jobs.now.set = rw c.set.ensures at c.keeps_the_model.ensures.accepted in
    let bounded : BoundEachTask c.args.jobs.now.set cert.bounds =
    record { one_each = judged.0.bound_each; bounds = valid_bounds f cert accepted judged.0 } in
    record { bounded = rw c.deref.ensures.value bounded; values = rw c.deref-2.ensures.value judged.1.one_each }

pub returns : goal.returns
returns g c =
    let p = c.args.protocol.now in
    let f : SourceDef = source_at (g.P.ProgramSource.source p) c.args.jobs.now.set in
    let cert : CertificateDef = certificate_seen c.args.certificate.now in
    let w : Trace = trace_in c.args.jobs.now (g.R.RowReader.rows c.args.rows.now).runs in
    let n : ℕ = ticks_of (g.R.RowReader.rows c.args.rows.now).runs in
    let values : List ℕ = c.in-Ok.valid.values.items in
    let figures = c.in-Ok-walked_figures.figures.items in
    let judged : IsValid f cert × AreValues f cert values = rw c.set-2.ensures at c.in-Ok.ensures.judges in
    let are : AreFigures (g.P.ChargedProtocol.charges p) (g.P.BlockingProtocol.interferes p) w (slice_index cert.bounds)
    (slice_index values) n figures =
    rw (c.deref.ensures.value, c.deref-2.ensures.value) at c.in-Ok-walked_figures.ensures.1 in
    let sound : Sound (g.P.BlockingProtocol.keeps p) (g.P.BlockingProtocol.interferes p) c.args.jobs.now.set cert.bounds values =
    rw c.set-2.ensures at c.in-Ok.ensures.sound in
    let lawful : IsLawfulSchedule (g.P.BlockingProtocol.keeps p) c.args.jobs.now.set w n =
    record { set_is = refl; jobs = c.keeps_its_rules.ensures.lawful; rows = c.in-Ok-walked_figures.ensures.0 } in
    let kept : KeepsBounds (g.P.BlockingProtocol.interferes p) w n cert.bounds values = sound w n lawful in
    let adds_up : (x : ℕ) → x < length c.args.jobs.now.set.tasks
    → charged_ticks (get_or figures x no_figures) ≡ blocked_sum (g.P.BlockingProtocol.interferes p) w (slice_index cert.bounds) n x =
    add_up (g.P.ChargedProtocol.charges p) (g.P.BlockingProtocol.interferes p) w (slice_index cert.bounds) (slice_index values) n figures
    (λ t j charge is. g.met.P.ChargedProtocol.charges_only p w t j charge is)
    (λ t j l blocked.
    let a = g.met.P.ChargedProtocol.charges_blocked p w n t j c.requires.suits c.keeps_its_rules.ensures.lawful lawful.rows l blocked in
    (a.charge, a.is_it)) are in
    record {
      audits = (
        judged.0,
        lawful.rows,
        same_values (g.P.ChargedProtocol.charges p) (g.P.BlockingProtocol.interferes p) w (slice_index cert.bounds) (slice_index values)
            (value_at f cert) n figures judged.1.each are,
      );
      within = lie_within (g.P.ChargedProtocol.charges p) (g.P.BlockingProtocol.interferes p) w cert.bounds values n figures kept are;
      adds_up = adds_up;
      adds_up_to_all = λ x l. adds_up x l ∙ all_inside (g.P.BlockingProtocol.interferes p) w n cert.bounds values x kept;
    }
