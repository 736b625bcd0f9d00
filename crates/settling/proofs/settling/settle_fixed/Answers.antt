use Rattle.std.proofs.Common.{sym, subst}
use Rattle.program_form.specs.Certificate.{CertificateDef, certificate_seen}
use Rattle.program_sources.specs.Recurrence.{SourceDef, source_at}
use Rattle.response_fixpoint.specs.Rounds.{Schedulable, EndsIn}
use Rattle.settling.specs.Rising.{IsProvedLeast, duals_found}
use Rattle.settling.specs.Walks.{walk}
use Rattle.settling.specs.declared.finding.Points.TheVariants.{Exact}
use Rattle.settling.proofs.AnswerLaws.{answers_lost, answers_walked}
use Rattle.settling.proofs.BitLaws.{needs_no_more, lost_needs_more}
use Rattle.settling.proofs.CertificateLaws.{certificate_with}
use Rattle.settling.proofs.settling.settle_fixed.Goals as goal

pub returns-in-Err : goal.returns-in-Err
returns-in-Err g c =
    let f : SourceDef = source_at (g.P.ProgramSource.source c.args.protocol.now) c.args.set.now in
    let above = c.recurrence_is_monotone.ensures.reached c.args.protocol.now c.args.set.now c.requires.serves in
    answers_lost f c.args.allowance c.args.bounds.items (duals_found c.args.reached.items) c.in-Err.stop c.requires.wide c.requires.fixed.ends
    (λ i here least loses. lost_needs_more f c.the_end_is_read_in_one_way.ensures.fits c.what_is_found_is_best.ensures.greatest above
    c.args.allowance c.args.bounds.items c.args.reached.items i c.requires.fixed least loses here) c.in-Err.ensures.lost

pub returns-in-Ok : goal.returns-in-Ok
returns-in-Ok g c =
    let f : SourceDef = source_at (g.P.ProgramSource.source c.args.protocol.now) c.args.set.now in
    let above = c.recurrence_is_monotone.ensures.reached c.args.protocol.now c.args.set.now c.requires.serves in
    let made = c.in-Ok.ensures.proved.made in
    let proved : IsProvedLeast f (certificate_with c.args.bounds.items c.args.reached.items) =
    subst (λ (x : CertificateDef). IsProvedLeast f x) made c.in-Ok.ensures.proved.least in
    let enough = needs_no_more f c.the_end_is_read_in_one_way.ensures.fits c.the_end_is_read_in_one_way.ensures.dual
    c.what_is_found_is_best.ensures.greatest above c.args.allowance c.args.bounds.items c.args.reached.items c.requires.fixed proved in
    let ends : EndsIn (walk Exact f) c.args.allowance
    (Schedulable (certificate_seen c.in-Ok.certificate).bounds (certificate_seen c.in-Ok.certificate).duals) =
    subst (λ (x : CertificateDef). EndsIn (walk Exact f) c.args.allowance (Schedulable x.bounds x.duals)) (sym made) c.requires.fixed.ends in
    answers_walked f c.args.allowance c.in-Ok.certificate c.requires.wide ends c.in-Ok.ensures.proved.least enough
