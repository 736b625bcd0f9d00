use Rattle.std.proofs.Common.{◌≡◌, Err, Some, arith, rules}
use Rattle.std.proofs.lemmas.List.{length-map}
use Rattle.program_form.specs.Certificate.{CertificateDef, dual_seen, certificate_seen}
use Rattle.program_sources.specs.Recurrence.{SourceDef, source_at}
use Rattle.program_sources.specs.Fitting.{tasks_of}
use Rattle.schedule_answers.specs.Tests.{HasSizes, IsBoundWithin, IsCovered}
use Rattle.schedule_answers.specs.Failures.{AllPass, IsFirstFailing}
use Rattle.dual_check.specs.Answers.{Judges, Weighs, Sums, AreWorths, AreEnough, FindsUncovered}
use Rattle.dual_check.proofs.Steps.{sizes_seen, weighing_ends, all_cover, one_uncovered, adding_ends, valid_where_all_pass}
use Rattle.dual_check.proofs.judging.judge.Goals.{then-len-count-via-then-len-count, then-len-count-via-else-len-count+then-len-count-2}
use Rattle.dual_check.proofs.judging.judge.Goals as goal

pub returns-then-len-count-clause-judges : goal.returns-then-len-count-clause-judges
returns-then-len-count-clause-judges g c = λ sizes. elim c.then-len-count.branch [
  | then-len-count-via-then-len-count w ↦ absurd (omega (arith, sizes.bound_each))
  | then-len-count-via-else-len-count+then-len-count-2 w ↦
      absurd (omega (arith, sizes.dual_each, length-map c.args.certificate.now.duals.items dual_seen))
]

pub returns-then-len-count-clause-accepts : goal.returns-then-len-count-clause-accepts
returns-then-len-count-clause-accepts g c = λ valid. absurd (returns-then-len-count-clause-judges g c (record {
  bound_each = valid.bound_each;
  dual_each = valid.dual_each;
}))

pub returns-in-Some-clause-judges : goal.returns-in-Some-clause-judges
returns-in-Some-clause-judges g c =
    let f : SourceDef = source_at (g.P.ProgramSource.source c.args.protocol.now) c.args.set.now in
    let cert : CertificateDef = certificate_seen c.args.certificate.now in
    let sizes : HasSizes f cert = sizes_seen f c.args.certificate.now (omega arith) (omega arith) in
    let first : IsFirstFailing (tasks_of f) (IsBoundWithin f cert) c.in-Some.task.0 =
    rw (c.deref.ensures.value, c.in-Some.is) at c.first_late.ensures in
    (sizes, first)

pub returns-in_err-worths-clause-judges : goal.returns-in_err-worths-clause-judges
returns-in_err-worths-clause-judges g c =
    let f : SourceDef = source_at (g.P.ProgramSource.source c.args.protocol.now) c.args.set.now in
    let cert : CertificateDef = certificate_seen c.args.certificate.now in
    let sizes : HasSizes f cert = sizes_seen f c.args.certificate.now (omega arith) (omega arith) in
    let within : AllPass (tasks_of f) (IsBoundWithin f cert) = rw (c.deref.ensures.value, c.in_default.is) at c.first_late.ensures in
    let weighs : Weighs (Err c.in_err-worths.field-0.0) f cert = rw c.in_err-worths.was at c.weigh_duals.ensures in
    let judges : Judges (Err c.in_err-worths.field-0.0) f cert = weighing_ends c.in_err-worths.field-0.0 f cert (sizes, within) weighs in
    let is : c.from_residual.result ≡ Err c.in_err-worths.field-0.0 = search rules in
    rw is judges

pub returns-in-Some-first_uncovered_of-clause-judges : goal.returns-in-Some-first_uncovered_of-clause-judges
returns-in-Some-first_uncovered_of-clause-judges g c =
    let f : SourceDef = source_at (g.P.ProgramSource.source c.args.protocol.now) c.args.set.now in
    let cert : CertificateDef = certificate_seen c.args.certificate.now in
    let sizes : HasSizes f cert = sizes_seen f c.args.certificate.now (omega arith) (omega arith) in
    let within : AllPass (tasks_of f) (IsBoundWithin f cert) = rw (c.deref.ensures.value, c.in_default.is) at c.first_late.ensures in
    let worths : AreWorths f cert (tasks_of f) c.in_ok-worths.worths.items = rw c.in_ok-worths.was at c.weigh_duals.ensures in
    let found : FindsUncovered (Some (c.in-Some-first_uncovered_of.task.0, c.in-Some-first_uncovered_of.column)) c.in_ok-worths.worths.items =
    rw (c.deref-2.ensures.value, c.in-Some-first_uncovered_of.is) at c.first_uncovered_of.ensures in
    let both = one_uncovered f cert c.in_ok-worths.worths.items c.in-Some-first_uncovered_of.task.0 c.in-Some-first_uncovered_of.column
    (sizes, within) worths found in
    (((sizes, within), worths.sizes), both.0, both.1)

pub returns-in_err-values-clause-judges : goal.returns-in_err-values-clause-judges
returns-in_err-values-clause-judges g c =
    let f : SourceDef = source_at (g.P.ProgramSource.source c.args.protocol.now) c.args.set.now in
    let cert : CertificateDef = certificate_seen c.args.certificate.now in
    let sizes : HasSizes f cert = sizes_seen f c.args.certificate.now (omega arith) (omega arith) in
    let within : AllPass (tasks_of f) (IsBoundWithin f cert) = rw (c.deref.ensures.value, c.in_default.is) at c.first_late.ensures in
    let worths : AreWorths f cert (tasks_of f) c.in_ok-worths.worths.items = rw c.in_ok-worths.was at c.weigh_duals.ensures in
    let covers : AllPass (tasks_of f) (IsCovered f cert) =
    all_cover f cert c.in_ok-worths.worths.items worths (rw (c.deref-2.ensures.value, c.in_default-first_uncovered_of.is) at c.first_uncovered_of.ensures) in
    let sums : Sums (Err c.in_err-values.field-0.0) f cert = rw c.in_err-values.was at c.add_up.ensures in
    let judges : Judges (Err c.in_err-values.field-0.0) f cert =
    adding_ends c.in_err-values.field-0.0 f cert (((sizes, within), worths.sizes), covers) sums in
    let is : c.from_residual-in_err-values.result ≡ Err c.in_err-values.field-0.0 = search rules in
    rw is judges

pub returns-clause-judges : goal.returns-clause-judges
returns-clause-judges g c =
    let f : SourceDef = source_at (g.P.ProgramSource.source c.args.protocol.now) c.args.set.now in
    let cert : CertificateDef = certificate_seen c.args.certificate.now in
    let sizes : HasSizes f cert = sizes_seen f c.args.certificate.now (omega arith) (omega arith) in
    let within : AllPass (tasks_of f) (IsBoundWithin f cert) = rw (c.deref.ensures.value, c.in_default.is) at c.first_late.ensures in
    let worths : AreWorths f cert (tasks_of f) c.in_ok-worths.worths.items = rw c.in_ok-worths.was at c.weigh_duals.ensures in
    let covers : AllPass (tasks_of f) (IsCovered f cert) =
    all_cover f cert c.in_ok-worths.worths.items worths (rw (c.deref-2.ensures.value, c.in_default-first_uncovered_of.is) at c.first_uncovered_of.ensures) in
    let sums : AreEnough f cert (tasks_of f) c.in_ok-values.values.items = rw c.in_ok-values.was at c.add_up.ensures in (
      valid_where_all_pass f cert (((sizes, within), worths.sizes), covers) c.requires.denominators sums.enough,
      record { one_each = sums.one_each; each = sums.each },
    )
