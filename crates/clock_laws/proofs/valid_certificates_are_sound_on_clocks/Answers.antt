use Rattle.clock_laws.proofs.Instances.{mpcp_on_clocks, fmlp_on_clocks, dpcp_on_clocks, dflp_on_clocks, windows_on_clocks, spin_on_clocks}
use Rattle.clock_laws.proofs.Instances.{fmlp_closer_on_clocks, spin_closer_on_clocks}
use Rattle.clock_laws.proofs.Instances.{dpcp_closer_on_clocks, dflp_closer_on_clocks}
use Rattle.clock_laws.proofs.Instances.{mpcp_closer_on_clocks}
use Rattle.clock_laws.proofs.valid_certificates_are_sound_on_clocks.Goals as goal

pub returns-clause-mpcp : goal.returns-clause-mpcp
returns-clause-mpcp c = mpcp_on_clocks

pub returns-clause-fmlp_plus : goal.returns-clause-fmlp_plus
returns-clause-fmlp_plus c = fmlp_on_clocks

pub returns-clause-dpcp : goal.returns-clause-dpcp
returns-clause-dpcp c = dpcp_on_clocks

pub returns-clause-dflp : goal.returns-clause-dflp
returns-clause-dflp c = dflp_on_clocks

pub returns-clause-dpcp_windows : goal.returns-clause-dpcp_windows
returns-clause-dpcp_windows c = windows_on_clocks

pub returns-clause-fmlp_plus_closer : goal.returns-clause-fmlp_plus_closer
returns-clause-fmlp_plus_closer c = fmlp_closer_on_clocks

pub returns-clause-mpcp_closer : goal.returns-clause-mpcp_closer
returns-clause-mpcp_closer c = mpcp_closer_on_clocks

pub returns-clause-spin : goal.returns-clause-spin
returns-clause-spin c = spin_on_clocks

pub returns-clause-dpcp_closer : goal.returns-clause-dpcp_closer
returns-clause-dpcp_closer c = dpcp_closer_on_clocks

pub returns-clause-dflp_closer : goal.returns-clause-dflp_closer
returns-clause-dflp_closer c = dflp_closer_on_clocks

pub returns-clause-spin_closer : goal.returns-clause-spin_closer
returns-clause-spin_closer c = spin_closer_on_clocks
