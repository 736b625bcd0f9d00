use Rattle.std.proofs.Common.{◌≡◌, ℕ, sym, subst}
use Rattle.std.specs.Prelude.{Result}
use Rattle.sporadic_model.specs.SetDef.{SetDef}
use Rattle.protocol_names.specs.declared.ProtocolName.{ProtocolName}
use Rattle.protocol_names.specs.declared.ProtocolName.TheVariants as name
use Rattle.named_laws.specs.Named.{source_of}
use Rattle.settling.specs.Answers.{IsAnswerFor}
use Rattle.settling.specs.declared.answer.Settled.{Settled}
use Rattle.settling.specs.declared.answer.SettleStop.{SettleStop}
use Rattle.named_protocols.proofs.deciding.settle.Goals as goal

-- What is known of a protocol is known by its name.
answer_of : (p q : ProtocolName) (set : SetDef) (allowance : ℕ) (r : Result Settled SettleStop) → p ≡ q
    → IsAnswerFor (source_of q set) allowance r → IsAnswerFor (source_of p set) allowance r
answer_of p q set allowance r is answers = subst (λ (x : ProtocolName). IsAnswerFor (source_of x set) allowance r) (sym is) answers

pub returns-in-Base : goal.returns-in-Base
returns-in-Base g c =
    answer_of c.args.protocol (name.Base c.in-Base.base) c.args.set.now c.args.allowance c.settle_by.result c.in-Base.is c.settle_by.ensures

pub returns-in-Dflp : goal.returns-in-Dflp
returns-in-Dflp g c =
    answer_of c.args.protocol name.Dflp c.args.set.now c.args.allowance c.settle_with.result c.in-Dflp.is c.settle_with.ensures.answers

pub returns-in-Spin : goal.returns-in-Spin
returns-in-Spin g c =
    answer_of c.args.protocol name.Spin c.args.set.now c.args.allowance c.settle_with-in-Spin.result c.in-Spin.is
    c.settle_with-in-Spin.ensures.answers

pub returns-in-DpcpWindows : goal.returns-in-DpcpWindows
returns-in-DpcpWindows g c =
    answer_of c.args.protocol name.DpcpWindows c.args.set.now c.args.allowance c.settle_with-in-DpcpWindows.result c.in-DpcpWindows.is
    c.settle_with-in-DpcpWindows.ensures.answers

pub returns-in-FmlpPlusCloser : goal.returns-in-FmlpPlusCloser
returns-in-FmlpPlusCloser g c =
    answer_of c.args.protocol name.FmlpPlusCloser c.args.set.now c.args.allowance c.settle_with-in-FmlpPlusCloser.result c.in-FmlpPlusCloser.is
    c.settle_with-in-FmlpPlusCloser.ensures.answers

pub returns-in-SpinCloser : goal.returns-in-SpinCloser
returns-in-SpinCloser g c =
    answer_of c.args.protocol name.SpinCloser c.args.set.now c.args.allowance c.settle_with-in-SpinCloser.result c.in-SpinCloser.is
    c.settle_with-in-SpinCloser.ensures.answers

pub returns-in-DpcpCloser : goal.returns-in-DpcpCloser
returns-in-DpcpCloser g c =
    answer_of c.args.protocol name.DpcpCloser c.args.set.now c.args.allowance c.settle_with-in-DpcpCloser.result c.in-DpcpCloser.is
    c.settle_with-in-DpcpCloser.ensures.answers

pub returns-in-DflpCloser : goal.returns-in-DflpCloser
returns-in-DflpCloser g c =
    answer_of c.args.protocol name.DflpCloser c.args.set.now c.args.allowance c.settle_with-in-DflpCloser.result c.in-DflpCloser.is
    c.settle_with-in-DflpCloser.ensures.answers

pub returns-in-MpcpCloser : goal.returns-in-MpcpCloser
returns-in-MpcpCloser g c =
    answer_of c.args.protocol name.MpcpCloser c.args.set.now c.args.allowance c.settle_with-in-MpcpCloser.result c.in-MpcpCloser.is
    c.settle_with-in-MpcpCloser.ensures.answers
