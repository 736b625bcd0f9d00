use Rattle.charge.proofs.charging.charge.Goals as goal

pub returns-in-Mpcp-clause-charged : goal.returns-in-Mpcp-clause-charged
returns-in-Mpcp-clause-charged c = rw c.in-Mpcp.is c.charge_with.ensures.charged

pub returns-in-FmlpPlus-clause-charged : goal.returns-in-FmlpPlus-clause-charged
returns-in-FmlpPlus-clause-charged c = rw c.in-FmlpPlus.is c.charge_with-in-FmlpPlus.ensures.charged

pub returns-in-Dpcp-clause-charged : goal.returns-in-Dpcp-clause-charged
returns-in-Dpcp-clause-charged c = rw c.in-Dpcp.is c.charge_with-in-Dpcp.ensures.charged
