use Rattle.std.proofs.Common.{◌≡◌, ℕ, ◌≤◌, ◌<◌, length, sym, subst, arith, IsTrue, false}
use Rattle.std.proofs.lemmas.List.{length-map}
use Rattle.program_form.specs.Certificate.{DualDef, dual_seen, certificate_seen}
use Rattle.program_sources.specs.Valid.{dual_at}
use Rattle.dual_check.specs.Answers.{HasDenominators}
use Rattle.dual_check.proofs.PassLaws.{one_more}
use Rattle.dual_check.proofs.WorthLaws.{dual_seen_at}
use Rattle.dual_check.proofs.judging.has_denominators.Goals as goal

pub returns-then-index-eq0 : goal.returns-then-index-eq0
returns-then-index-eq0 c =
    let here : c.loop-i.i < length c.args.certificate.now.duals.items = omega arith in
    let seen : dual_at (certificate_seen c.args.certificate.now).duals c.loop-i.i ≡ dual_seen c.index.result.now =
    dual_seen_at c.args.certificate.now.duals.items c.loop-i.i c.index.result.now here c.index.ensures in (
      (λ (no : IsTrue false). cc),
      λ (all : HasDenominators (certificate_seen c.args.certificate.now)).
          let least = all c.loop-i.i (omega (arith, here, length-map c.args.certificate.now.duals.items dual_seen)) in
          let own : 1 ≤ (dual_seen c.index.result.now).den = subst (λ (d : DualDef). 1 ≤ d.den) seen least in
          absurd (omega (arith, own)),
    )

pub loop-i-preserved : goal.loop-i-preserved
loop-i-preserved c =
    let here : c.loop-i.i < length c.args.certificate.now.duals.items = omega arith in
    let seen : dual_at (certificate_seen c.args.certificate.now).duals c.loop-i.i ≡ dual_seen c.index.result.now =
    dual_seen_at c.args.certificate.now.duals.items c.loop-i.i c.index.result.now here c.index.ensures in
    let own : 1 ≤ (dual_seen c.index.result.now).den = omega arith in
    one_more c.loop-i.i (λ (i : ℕ). 1 ≤ (dual_at (certificate_seen c.args.certificate.now).duals i).den) c.loop-i.invariant
    (subst (λ (d : DualDef). 1 ≤ d.den) (sym seen) own)
