use Rattle.program_form.proofs.SevenRowsWorked.{is_accepted, best_dual, best_optimum, greatest_is_four}
use Rattle.program_form.proofs.laws.seven_rows_reach_fourteen_thirds.Goals as goal

pub returns-clause-program : goal.returns-clause-program
returns-clause-program c = is_accepted

pub returns-clause-dual : goal.returns-clause-dual
returns-clause-dual c = best_dual

pub returns-clause-optimum : goal.returns-clause-optimum
returns-clause-optimum c = best_optimum

pub returns-clause-greatest : goal.returns-clause-greatest
returns-clause-greatest c = greatest_is_four
