use Rattle.charge.proofs.TableSums.{table_sum}
use Rattle.charge.proofs.laws.charges_add_up.Goals as goal

pub returns : goal.returns
returns g c = λ p w bound n items those table.
    table_sum (g.P.ChargedProtocol.charges p) (g.P.BlockingProtocol.interferes p) w bound n items those table
    (λ t k charge e. g.met.P.ChargedProtocol.charges_only p w t k charge e)
