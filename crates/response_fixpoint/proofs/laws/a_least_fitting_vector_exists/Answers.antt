use Rattle.response_fixpoint.proofs.LeastExists.{least_exists}
use Rattle.response_fixpoint.proofs.laws.a_least_fitting_vector_exists.Goals as goal

pub returns : goal.returns
returns g c = λ p set s served fits.
    least_exists _ (λ i r k here within. g.met.P.ProgramSource.covers p set i r k served here within)
    (c.recurrence_is_monotone.ensures.reached p set served) (c.recurrence_is_monotone.ensures.value p set served) s fits
