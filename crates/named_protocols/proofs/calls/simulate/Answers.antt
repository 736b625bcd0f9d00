use Rattle.std.proofs.Common.{sym, subst}
use Rattle.std.specs.Result.{IfOk}
use Rattle.schedule_model.specs.RowDef.{trace_in}
use Rattle.schedule_model.specs.Keeping.{KeepsBefore}
use Rattle.protocol_names.specs.declared.ProtocolName.{ProtocolName}
use Rattle.named_laws.specs.Named.{rules_of}
use Rattle.named_protocols.proofs.calls.simulate.Goals as goal

pub returns-in-Base-clause-keeps : goal.returns-in-Base-clause-keeps
returns-in-Base-clause-keeps c =
    subst (λ (n : ProtocolName). IfOk c.simulate.result (λ rows. KeepsBefore (rules_of n) (trace_in c.args.jobs.now rows.runs) c.args.ticks))
    (sym c.in-Base.is) c.simulate.ensures.keeps

pub returns-in-Dflp-clause-keeps : goal.returns-in-Dflp-clause-keeps
returns-in-Dflp-clause-keeps c = rw c.in-Dflp.is c.simulate_with.ensures.keeps

pub returns-in-Spin-clause-keeps : goal.returns-in-Spin-clause-keeps
returns-in-Spin-clause-keeps c = rw c.in-Spin.is c.simulate_with-in-Spin.ensures.keeps

pub returns-in-DpcpWindows-clause-keeps : goal.returns-in-DpcpWindows-clause-keeps
returns-in-DpcpWindows-clause-keeps c = rw c.in-DpcpWindows.is c.simulate_with-in-DpcpWindows.ensures.keeps

pub returns-in-FmlpPlusCloser-clause-keeps : goal.returns-in-FmlpPlusCloser-clause-keeps
returns-in-FmlpPlusCloser-clause-keeps c = rw c.in-FmlpPlusCloser.is c.simulate_with-in-FmlpPlusCloser.ensures.keeps

pub returns-in-SpinCloser-clause-keeps : goal.returns-in-SpinCloser-clause-keeps
returns-in-SpinCloser-clause-keeps c = rw c.in-SpinCloser.is c.simulate_with-in-SpinCloser.ensures.keeps

pub returns-in-DpcpCloser-clause-keeps : goal.returns-in-DpcpCloser-clause-keeps
returns-in-DpcpCloser-clause-keeps c = rw c.in-DpcpCloser.is c.simulate_with-in-DpcpCloser.ensures.keeps

pub returns-in-DflpCloser-clause-keeps : goal.returns-in-DflpCloser-clause-keeps
returns-in-DflpCloser-clause-keeps c = rw c.in-DflpCloser.is c.simulate_with-in-DflpCloser.ensures.keeps

pub returns-in-MpcpCloser-clause-keeps : goal.returns-in-MpcpCloser-clause-keeps
returns-in-MpcpCloser-clause-keeps c = rw c.in-MpcpCloser.is c.simulate_with-in-MpcpCloser.ensures.keeps
