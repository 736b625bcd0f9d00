use Rattle.settling.proofs.FindingLaws.{found_by_search, found_rounded, stops_rounding}
use Rattle.settling.proofs.finding.find.Goals as goal

pub returns-in-Exact-clause-found : goal.returns-in-Exact-clause-found
returns-in-Exact-clause-found c =
    found_by_search c.args.points c.args.program.now c.args.units c.in-Ok.found c.in-Exact.is c.what_is_found_is_best.ensures.point
    c.ticks_of-ticks.ensures.bits c.in-Ok.ensures.searches

pub returns-in-Rounded-clause-found : goal.returns-in-Rounded-clause-found
returns-in-Rounded-clause-found c =
    found_rounded c.args.points c.args.program.now c.args.units c.in-Ok.found c.round_found.result c.in-Rounded.is
    c.what_is_found_is_best.ensures.point c.ticks_of-ticks.ensures.bits c.in-Ok.ensures.searches c.round_found.ensures

pub returns-in-Rounded-clause-stops : goal.returns-in-Rounded-clause-stops
returns-in-Rounded-clause-stops c =
    stops_rounding c.args.points c.args.program.now c.args.units c.in-Ok.found c.round_found.result c.in-Rounded.is
    c.in-Ok.ensures.searches c.round_found.ensures
