use Rattle.sim_engine.proofs.by_protocol.simulate.Goals as goal

pub returns-in-Mpcp-clause-keeps : goal.returns-in-Mpcp-clause-keeps
returns-in-Mpcp-clause-keeps c = rw c.in-Mpcp.is c.simulate_with.ensures.keeps

pub returns-in-FmlpPlus-clause-keeps : goal.returns-in-FmlpPlus-clause-keeps
returns-in-FmlpPlus-clause-keeps c = rw c.in-FmlpPlus.is c.simulate_with-in-FmlpPlus.ensures.keeps

pub returns-in-Dpcp-clause-keeps : goal.returns-in-Dpcp-clause-keeps
returns-in-Dpcp-clause-keeps c = rw c.in-Dpcp.is c.simulate_with-in-Dpcp.ensures.keeps
