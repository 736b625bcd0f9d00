use Rattle.std.proofs.Common.{◌≡◌, ◌∙◌, ℕ, ◌+◌, ◌≤◌, ◌<◌, List, [], ◌∷◌, ◌++◌, length, slice_index, sym, subst, arith, rules}
use Rattle.std.proofs.lemmas.List.{get_or_default, length-map}
use Rattle.program_form.specs.Certificate.{DualDef, CertificateDef, dual_seen, certificate_seen}
use Rattle.program_form.specs.Program.{ProgramDef}
use Rattle.sporadic_model.specs.Accepted.{TaskNumbers}
use Rattle.program_sources.specs.Recurrence.{SourceDef, source_at}
use Rattle.program_sources.specs.Valid.{dual_at}
use Rattle.dual_check.specs.declared.duals.DualWorth.{DualWorth}
use Rattle.schedule_answers.specs.Tests.{HasNumerators, HasDualSize}
use Rattle.dual_check.specs.Answers.{IsWorth, IsWorthOf, AreWorths}
use Rattle.dual_check.proofs.WorthLaws.{dual_seen_at, one_more_worth}
use Rattle.dual_check.proofs.duals.weigh_duals.Goals as goal

pub weigh-requires : goal.weigh-requires
weigh-requires g c =
    let here : c.loop-i.i < length c.args.certificate.now.duals.items = omega (arith, c.requires.duals.dual_each) in
    let seen : dual_at (certificate_seen c.args.certificate.now).duals c.loop-i.i ≡ dual_seen c.index-dual.result.now =
    dual_seen_at c.args.certificate.now.duals.items c.loop-i.i c.index-dual.result.now here c.index-dual.ensures in
    let least : 1 ≤ (dual_at (certificate_seen c.args.certificate.now).duals c.loop-i.i).den =
    c.requires.duals.denominators c.loop-i.i (omega (arith, here, length-map c.args.certificate.now.duals.items dual_seen)) in
    let listed : c.loop-i.i < length c.args.set.now.tasks = omega (arith, c.loop-i-test.true, c.tasks-i-end.ensures.value) in
    let numbers : TaskNumbers c.args.set.now c.loop-i.i = c.tasks-i-end.ensures.numbers c.loop-i.i listed in
    let own : c.index.result.now ≡ slice_index c.args.certificate.now.bounds.items c.loop-i.i =
    c.index.ensures
    ∙ get_or_default c.args.certificate.now.bounds.items c.loop-i.i c.index.result.now 0 (omega (arith, c.requires.at.within.one_each)) in
    record {
      bound = omega (arith, own, c.requires.at.within.to_latest c.loop-i.i listed, numbers.deadline_to, numbers.period_to);
      denominator = subst (λ (d : DualDef). 1 ≤ d.den) seen least;
      numerators = search rules;
    }

pub loop-i-preserved : goal.loop-i-preserved
loop-i-preserved g c =
    let f : SourceDef = source_at (g.P.ProgramSource.source c.args.protocol.now) c.args.set.now in
    let cert : CertificateDef = certificate_seen c.args.certificate.now in
    let i : ℕ = c.loop-i.i in
    let here : i < length c.args.certificate.now.duals.items = omega (arith, c.requires.duals.dual_each) in
    let seen : dual_at cert.duals i ≡ dual_seen c.index-dual.result.now =
    dual_seen_at c.args.certificate.now.duals.items i c.index-dual.result.now here c.index-dual.ensures in
    let p : ProgramDef = c.in_ok-program.program in
    let w : DualWorth = c.in_ok-worth.worth in
    let same : p ≡ f.program i cert.bounds = rw (c.deref.ensures.value) at c.in_ok-program.ensures in
    let bound : c.index.result.now ≡ slice_index cert.bounds i =
    c.index.ensures ∙ get_or_default cert.bounds i c.index.result.now 0 (omega (arith, c.requires.at.within.one_each)) in
    let size : HasNumerators p (dual_seen c.index-dual.result.now) = search rules in
    let sized : HasDualSize f cert i =
    subst (λ (q : ProgramDef). HasNumerators q (dual_at cert.duals i)) same (subst (λ (d : DualDef). HasNumerators p d) (sym seen) size) in
    let own : IsWorth w p (dual_at cert.duals i) (slice_index cert.bounds i) =
    subst (λ (d : DualDef). IsWorth w p d (slice_index cert.bounds i)) (sym seen)
    (subst (λ (b : ℕ). IsWorth w p (dual_seen c.index-dual.result.now) b) bound c.in_ok-worth.ensures) in
    let pushed : c.push.new.self.items ≡ c.loop-i.worths.items ++ w ∷ [] = c.in_ok-push.ensures.items in
    let is : IsWorthOf f cert i w =
    subst (λ (q : ProgramDef). IsWorth w q (dual_at cert.duals i) (slice_index cert.bounds i)) same own in
    subst (AreWorths f cert (i + 1)) (sym {A = List DualWorth} pushed)
    (one_more_worth f cert i c.loop-i.worths.items w c.loop-i.invariant sized is)
