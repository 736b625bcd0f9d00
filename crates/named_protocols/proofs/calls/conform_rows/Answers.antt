use Rattle.std.proofs.Common.{sym, subst}
use Rattle.protocol_names.specs.declared.ProtocolName.{ProtocolName}
use Rattle.named_protocols.specs.Analysed.{ConformsUnder}
use Rattle.named_protocols.proofs.calls.conform_rows.Goals as goal

pub returns-in-Base : goal.returns-in-Base
returns-in-Base g c =
    subst (λ (n : ProtocolName). ConformsUnder n c.args.jobs.now (g.R.RowReader.rows c.args.rows.now) c.conform_rows.result)
    (sym c.in-Base.is) c.conform_rows.ensures

pub returns-in-Dflp : goal.returns-in-Dflp
returns-in-Dflp g c = rw c.in-Dflp.is c.conform_rows_with.ensures

pub returns-in-Spin : goal.returns-in-Spin
returns-in-Spin g c = rw c.in-Spin.is c.conform_rows_with-in-Spin.ensures

pub returns-in-DpcpWindows : goal.returns-in-DpcpWindows
returns-in-DpcpWindows g c = rw c.in-DpcpWindows.is c.conform_rows_with-in-DpcpWindows.ensures

pub returns-in-FmlpPlusCloser : goal.returns-in-FmlpPlusCloser
returns-in-FmlpPlusCloser g c = rw c.in-FmlpPlusCloser.is c.conform_rows_with-in-FmlpPlusCloser.ensures

pub returns-in-SpinCloser : goal.returns-in-SpinCloser
returns-in-SpinCloser g c = rw c.in-SpinCloser.is c.conform_rows_with-in-SpinCloser.ensures

pub returns-in-DpcpCloser : goal.returns-in-DpcpCloser
returns-in-DpcpCloser g c = rw c.in-DpcpCloser.is c.conform_rows_with-in-DpcpCloser.ensures

pub returns-in-DflpCloser : goal.returns-in-DflpCloser
returns-in-DflpCloser g c = rw c.in-DflpCloser.is c.conform_rows_with-in-DflpCloser.ensures

pub returns-in-MpcpCloser : goal.returns-in-MpcpCloser
returns-in-MpcpCloser g c = rw c.in-MpcpCloser.is c.conform_rows_with-in-MpcpCloser.ensures
