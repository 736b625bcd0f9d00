use Rattle.std.proofs.Common.{List, map, Err, refl, subst, sym}
use Rattle.program_form.specs.Certificate.{dual_seen}
use Rattle.program_form.specs.declared.certificate.Dual.{Dual}
use Rattle.program_sources.specs.Recurrence.{SourceDef, source_at}
use Rattle.program_sources.specs.Valid.{IsValid}
use Rattle.dual_check.specs.Answers.{Judges, HasDenominators}
use Rattle.settling.specs.Rising.{ProvesLeast}
use Rattle.settling.proofs.CertificateLaws.{certificate_with, has_denominators, passes_others, stops_lost, proved_least}
use Rattle.settling.proofs.certificates.certificate_of.Goals as goal

pub judge-requires-clause-denominators : goal.judge-requires-clause-denominators
judge-requires-clause-denominators g c =
    let f : SourceDef = source_at (g.P.ProgramSource.source c.args.protocol.now) c.args.set.now in
    subst (λ (ds : List Dual). HasDenominators (record { bounds = c.args.bounds.items; duals = map dual_seen ds }))
    (sym c.in_ok-duals.ensures)
    (has_denominators f c.args.allowance c.args.bounds.items c.args.reached.items c.what_is_found_is_best.ensures.covers c.requires.fixed)

pub stop_for-requires : goal.stop_for-requires
stop_for-requires g c =
    let f : SourceDef = source_at (g.P.ProgramSource.source c.args.protocol.now) c.args.set.now in
    passes_others f c.args.allowance c.args.bounds.items c.args.reached.items c.in-Err.invalid c.what_is_found_is_best.ensures.covers
    c.requires.fixed
    (subst (λ (ds : List Dual). Judges (Err c.in-Err.invalid) f (record { bounds = c.args.bounds.items; duals = map dual_seen ds }))
    c.in_ok-duals.ensures c.in-Err.ensures.judges)

pub returns-in-Err-clause-lost : goal.returns-in-Err-clause-lost
returns-in-Err-clause-lost g c =
    let f : SourceDef = source_at (g.P.ProgramSource.source c.args.protocol.now) c.args.set.now in
    stops_lost f c.args.allowance c.args.bounds.items c.args.reached.items c.in-Err.invalid c.stop_for.result c.requires.fixed
    (subst (λ (ds : List Dual). Judges (Err c.in-Err.invalid) f (record { bounds = c.args.bounds.items; duals = map dual_seen ds }))
    c.in_ok-duals.ensures c.in-Err.ensures.judges) c.stop_for.ensures

pub returns-in-Ok-clause-proved : goal.returns-in-Ok-clause-proved
returns-in-Ok-clause-proved g c =
    let f : SourceDef = source_at (g.P.ProgramSource.source c.args.protocol.now) c.args.set.now in
    let v = c.args.bounds.items in
    let reached = c.args.reached.items in
    let valid : IsValid f (certificate_with v reached) =
    subst (λ (ds : List Dual). IsValid f (record { bounds = v; duals = map dual_seen ds })) c.in_ok-duals.ensures
    c.in-Ok.ensures.judges.0 in
    let least = proved_least f c.args.allowance v reached c.what_is_found_is_best.ensures.covers c.requires.fixed
    (c.a_certificate_below_all_fitting_is_least.ensures f (certificate_with v reached) valid c.requires.fixed.below) valid in
    subst (λ (ds : List Dual). ProvesLeast f v reached (record { bounds = v; duals = map dual_seen ds })) (sym c.in_ok-duals.ensures)
    (record { least = least; made = refl })
