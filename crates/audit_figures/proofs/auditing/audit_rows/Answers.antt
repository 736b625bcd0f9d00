use Rattle.audit_figures.proofs.auditing.audit_rows.Goals as goal

pub returns-in-Mpcp : goal.returns-in-Mpcp
returns-in-Mpcp g c = rw c.in-Mpcp.is c.audit_rows_with.ensures

pub returns-in-FmlpPlus : goal.returns-in-FmlpPlus
returns-in-FmlpPlus g c = rw c.in-FmlpPlus.is c.audit_rows_with-in-FmlpPlus.ensures

pub returns-in-Dpcp : goal.returns-in-Dpcp
returns-in-Dpcp g c = rw c.in-Dpcp.is c.audit_rows_with-in-Dpcp.ensures
