use Rattle.settling.specs.declared.finding.Points.TheVariants.{Exact, Rounded}
use Rattle.settling.proofs.OneWalk.{walk_once}
use Rattle.settling.proofs.laws.walks_have_one_ending.Goals as goal

pub returns-clause-exact : goal.returns-clause-exact
returns-clause-exact c f = walk_once Exact f c.the_end_is_read_in_one_way.ensures.fits c.the_end_is_read_in_one_way.ensures.dual
    c.what_is_found_is_best.ensures.greatest

pub returns-clause-rounded : goal.returns-clause-rounded
returns-clause-rounded c f = walk_once Rounded f c.the_end_is_read_in_one_way.ensures.fits c.the_end_is_read_in_one_way.ensures.dual
    c.what_is_found_is_best.ensures.greatest
