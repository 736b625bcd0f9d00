use Rattle.free_search.proofs.BestEnds.{value_has_floor, floor_is_greatest, floor_is_one, point_is_best, dual_is_feasible}
use Rattle.free_search.proofs.laws.what_is_found_is_best.Goals as goal

pub returns-clause-some : goal.returns-clause-some
returns-clause-some c = value_has_floor

pub returns-clause-greatest : goal.returns-clause-greatest
returns-clause-greatest c = floor_is_greatest

pub returns-clause-one : goal.returns-clause-one
returns-clause-one c = floor_is_one

pub returns-clause-point : goal.returns-clause-point
returns-clause-point c = point_is_best

pub returns-clause-covers : goal.returns-clause-covers
returns-clause-covers c = dual_is_feasible
