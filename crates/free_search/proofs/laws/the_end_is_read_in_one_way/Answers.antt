use Rattle.free_search.proofs.OneEnd.{written_once, written_fits, written_keeps}
use Rattle.free_search.proofs.laws.the_end_is_read_in_one_way.Goals as goal

pub returns-clause-dual : goal.returns-clause-dual
returns-clause-dual c = written_once

pub returns-clause-fits : goal.returns-clause-fits
returns-clause-fits c = written_fits

pub returns-clause-keeps : goal.returns-clause-keeps
returns-clause-keeps c = written_keeps
