use Rattle.soundness_laws.proofs.WorkedSet.{two_valid_mpcp, two_valid_dpcp, greater_valid, too_small_invalid}
use Rattle.soundness_laws.proofs.worked_certificates_are_valid.Goals as goal

pub returns-clause-mpcp : goal.returns-clause-mpcp
returns-clause-mpcp c = two_valid_mpcp

pub returns-clause-dpcp : goal.returns-clause-dpcp
returns-clause-dpcp c = two_valid_dpcp

pub returns-clause-greater : goal.returns-clause-greater
returns-clause-greater c = greater_valid

pub returns-clause-too_small : goal.returns-clause-too_small
returns-clause-too_small c = too_small_invalid
