use Rattle.response_fixpoint.proofs.LeastExists.{fits_by_values}
use Rattle.response_fixpoint.proofs.laws.fitting_is_by_the_values_of_the_recurrence.Goals as goal

pub returns : goal.returns
returns g c = λ p set s served. fits_by_values _ (λ i r k here within. g.met.P.ProgramSource.covers p set i r k served here within) s
