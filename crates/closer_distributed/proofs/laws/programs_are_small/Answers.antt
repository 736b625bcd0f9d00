use Rattle.closer_distributed.proofs.FewRows.{dpcp_closer_height, dpcp_closer_width, dflp_closer_height, dflp_closer_width}
use Rattle.closer_distributed.proofs.laws.programs_are_small.Goals as goal

pub returns-clause-dpcp_columns : goal.returns-clause-dpcp_columns
returns-clause-dpcp_columns c = dpcp_closer_width

pub returns-clause-dpcp_rows : goal.returns-clause-dpcp_rows
returns-clause-dpcp_rows c = dpcp_closer_height

pub returns-clause-dflp_columns : goal.returns-clause-dflp_columns
returns-clause-dflp_columns c = dflp_closer_width

pub returns-clause-dflp_rows : goal.returns-clause-dflp_rows
returns-clause-dflp_rows c = dflp_closer_height
