use Rattle.charge_laws.specs.ByProtocol.{charges_of}
use Rattle.row_laws.proofs.Joined.{InColumn}
use Rattle.row_laws.proofs.ByProtocol.{blocked_in_column}
use Rattle.row_laws.proofs.column_laws.blocked_ticks_lie_in_columns.Goals as goal

pub returns : goal.returns
returns c = λ p w n t j lawful keeps l blocked.
    let a : InColumn (charges_of p) p w t j = blocked_in_column p w n t j lawful keeps l blocked in
    (a.column, a.is_it, a.there)
