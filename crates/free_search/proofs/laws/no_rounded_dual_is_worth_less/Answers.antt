use Rattle.free_search.proofs.RoundedTotals.{written_least}
use Rattle.free_search.proofs.laws.no_rounded_dual_is_worth_less.Goals as goal

pub returns : goal.returns
returns c = written_least
