-- What is Ok for one protocol is sound under the protocol that was handed in.
use Rattle.std.proofs.Common.{sym, subst, IfOk}
use Rattle.sporadic_model.specs.declared.ids.Protocol.{Protocol}
use Rattle.dual_check.specs.Soundness.{SoundUnder}
use Rattle.dual_check.proofs.judging.check.Goals as goal

pub returns-in-Mpcp-clause-sound : goal.returns-in-Mpcp-clause-sound
returns-in-Mpcp-clause-sound c =
    subst (λ (p : Protocol). IfOk c.check_with.result (λ v. SoundUnder p c.args.set.now c.args.certificate.now.bounds.items v.values.items))
    (sym c.in-Mpcp.is) c.check_with.ensures.sound

pub returns-in-FmlpPlus-clause-sound : goal.returns-in-FmlpPlus-clause-sound
returns-in-FmlpPlus-clause-sound c =
    subst (λ (p : Protocol). IfOk c.check_with-in-FmlpPlus.result
    (λ v. SoundUnder p c.args.set.now c.args.certificate.now.bounds.items v.values.items))
    (sym c.in-FmlpPlus.is) c.check_with-in-FmlpPlus.ensures.sound

pub returns-in-Dpcp-clause-sound : goal.returns-in-Dpcp-clause-sound
returns-in-Dpcp-clause-sound c =
    subst (λ (p : Protocol). IfOk c.check_with-in-Dpcp.result
    (λ v. SoundUnder p c.args.set.now c.args.certificate.now.bounds.items v.values.items))
    (sym c.in-Dpcp.is) c.check_with-in-Dpcp.ensures.sound
