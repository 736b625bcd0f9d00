use Rattle.sporadic_model.proofs.Laws.{formed_of_accepted}
use Rattle.row_laws.proofs.Joined.{users_have_lengths}
use Rattle.row_laws.proofs.Fractions.{rows_are_point}
use Rattle.row_laws.proofs.point_laws.met_rows_make_a_point.Goals as goal

pub returns : goal.returns
returns c = λ charges test rows w bounds n j accepted users met.
    rows_are_point charges test rows w bounds n j (users_have_lengths test w.set (formed_of_accepted w.set accepted) users) met
