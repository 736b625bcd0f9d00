use Rattle.std.proofs.Common.{sym, subst}
use Rattle.program_form.specs.Certificate.{certificate_seen}
use Rattle.protocol_names.specs.declared.ProtocolName.{ProtocolName}
use Rattle.named_protocols.specs.Analysed.{IsAuditedUnder}
use Rattle.named_protocols.proofs.calls.audit_rows.Goals as goal

pub returns-in-Base : goal.returns-in-Base
returns-in-Base g c =
    subst (λ (n : ProtocolName). IsAuditedUnder n (certificate_seen c.args.certificate.now) c.args.jobs.now
    (g.R.RowReader.rows c.args.rows.now) c.audit_rows.result)
    (sym c.in-Base.is) c.audit_rows.ensures

pub returns-in-Dflp : goal.returns-in-Dflp
returns-in-Dflp g c = rw c.in-Dflp.is c.audit_rows_with.ensures

pub returns-in-Spin : goal.returns-in-Spin
returns-in-Spin g c = rw c.in-Spin.is c.audit_rows_with-in-Spin.ensures

pub returns-in-DpcpWindows : goal.returns-in-DpcpWindows
returns-in-DpcpWindows g c = rw c.in-DpcpWindows.is c.audit_rows_with-in-DpcpWindows.ensures

pub returns-in-FmlpPlusCloser : goal.returns-in-FmlpPlusCloser
returns-in-FmlpPlusCloser g c = rw c.in-FmlpPlusCloser.is c.audit_rows_with-in-FmlpPlusCloser.ensures

pub returns-in-SpinCloser : goal.returns-in-SpinCloser
returns-in-SpinCloser g c = rw c.in-SpinCloser.is c.audit_rows_with-in-SpinCloser.ensures

pub returns-in-DpcpCloser : goal.returns-in-DpcpCloser
returns-in-DpcpCloser g c = rw c.in-DpcpCloser.is c.audit_rows_with-in-DpcpCloser.ensures

pub returns-in-DflpCloser : goal.returns-in-DflpCloser
returns-in-DflpCloser g c = rw c.in-DflpCloser.is c.audit_rows_with-in-DflpCloser.ensures

pub returns-in-MpcpCloser : goal.returns-in-MpcpCloser
returns-in-MpcpCloser g c = rw c.in-MpcpCloser.is c.audit_rows_with-in-MpcpCloser.ensures
