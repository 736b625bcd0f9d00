use Rattle.std.proofs.Common.{◌≡◌, ℕ, sym, subst}
use Rattle.std.specs.Prelude.{Result, IfOk}
use Rattle.sporadic_model.specs.SetDef.{SetDef}
use Rattle.response_fixpoint.specs.Rounds.{Ending, EndsIn}
use Rattle.refusal_cert.specs.Refuting.{refuting}
use Rattle.refusal_cert.specs.Steps.{refusal_of}
use Rattle.refusal_cert.specs.Answers.{Refutes, IsAnswerOf, FollowsAnalysis, IsRight}
use Rattle.refusal_cert.specs.declared.answer.Answer.{Answer}
use Rattle.refusal_cert.specs.declared.answer.RefuteStop.{RefuteStop}
use Rattle.protocol_names.specs.declared.ProtocolName.{ProtocolName}
use Rattle.protocol_names.specs.declared.ProtocolName.TheVariants as name
use Rattle.named_laws.specs.Named.{source_of}
use Rattle.named_protocols.specs.Refuted.{IsRefuted}
use Rattle.named_protocols.proofs.refusing.refute.Goals as goal

-- What is promised for the source of a protocol is promised by its name.
refuted : (n m : ProtocolName) (set : SetDef) (allowance : ℕ) (r : Result Answer RefuteStop) → n ≡ m → Refutes r (source_of m set) allowance
    → ((e : Ending) (ends : EndsIn (refuting (source_of m set)) allowance e)
    → IsAnswerOf r e (refusal_of (refuting (source_of m set)) allowance e ends))
    → FollowsAnalysis r (source_of m set) allowance → IfOk r (λ answer. IsRight answer (source_of m set))
    → IsRefuted (source_of n set) allowance r
refuted n m set allowance r is rounds only follows right =
    let all : IsRefuted (source_of m set) allowance r = record { rounds = rounds; only = only; follows = follows; right = right } in
    subst (λ (p : ProtocolName). IsRefuted (source_of p set) allowance r) (sym is) all

pub returns-in-Base : goal.returns-in-Base
returns-in-Base c = let e = c.refute.ensures in
    refuted c.args.protocol (name.Base c.in-Base.base) c.args.set.now c.args.allowance c.refute.result c.in-Base.is
    e.rounds e.only e.follows e.right

pub returns-in-Dflp : goal.returns-in-Dflp
returns-in-Dflp c = let e = c.refute-in-Dflp.ensures in
    refuted c.args.protocol name.Dflp c.args.set.now c.args.allowance c.refute-in-Dflp.result c.in-Dflp.is
    e.rounds e.only e.follows e.right

pub returns-in-Spin : goal.returns-in-Spin
returns-in-Spin c = let e = c.refute-in-Spin.ensures in
    refuted c.args.protocol name.Spin c.args.set.now c.args.allowance c.refute-in-Spin.result c.in-Spin.is
    e.rounds e.only e.follows e.right

pub returns-in-DpcpWindows : goal.returns-in-DpcpWindows
returns-in-DpcpWindows c = let e = c.refute-in-DpcpWindows.ensures in
    refuted c.args.protocol name.DpcpWindows c.args.set.now c.args.allowance c.refute-in-DpcpWindows.result c.in-DpcpWindows.is
    e.rounds e.only e.follows e.right

pub returns-in-FmlpPlusCloser : goal.returns-in-FmlpPlusCloser
returns-in-FmlpPlusCloser c = let e = c.refute-in-FmlpPlusCloser.ensures in
    refuted c.args.protocol name.FmlpPlusCloser c.args.set.now c.args.allowance c.refute-in-FmlpPlusCloser.result c.in-FmlpPlusCloser.is
    e.rounds e.only e.follows e.right

pub returns-in-SpinCloser : goal.returns-in-SpinCloser
returns-in-SpinCloser c = let e = c.refute-in-SpinCloser.ensures in
    refuted c.args.protocol name.SpinCloser c.args.set.now c.args.allowance c.refute-in-SpinCloser.result c.in-SpinCloser.is
    e.rounds e.only e.follows e.right

pub returns-in-DpcpCloser : goal.returns-in-DpcpCloser
returns-in-DpcpCloser c = let e = c.refute-in-DpcpCloser.ensures in
    refuted c.args.protocol name.DpcpCloser c.args.set.now c.args.allowance c.refute-in-DpcpCloser.result c.in-DpcpCloser.is
    e.rounds e.only e.follows e.right

pub returns-in-DflpCloser : goal.returns-in-DflpCloser
returns-in-DflpCloser c = let e = c.refute-in-DflpCloser.ensures in
    refuted c.args.protocol name.DflpCloser c.args.set.now c.args.allowance c.refute-in-DflpCloser.result c.in-DflpCloser.is
    e.rounds e.only e.follows e.right

pub returns-in-MpcpCloser : goal.returns-in-MpcpCloser
returns-in-MpcpCloser c = let e = c.refute-in-MpcpCloser.ensures in
    refuted c.args.protocol name.MpcpCloser c.args.set.now c.args.allowance c.refute-in-MpcpCloser.result c.in-MpcpCloser.is
    e.rounds e.only e.follows e.right
