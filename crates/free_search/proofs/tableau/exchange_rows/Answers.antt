use Rattle.free_search.proofs.Takings.{exchanged_rows}
use Rattle.free_search.proofs.tableau.exchange_rows.Goals as goal

pub returns : goal.returns
returns c =
    let only = c.divide.ensures.only in
    let divided = c.in_ok-pivot.ensures.divided in
    exchanged_rows c.args.rows.now c.divide.new.rows c.args.k c.args.r c.in_ok-pivot.pivot only.as_many divided.divided only.others
    divided.pivot c.take_all.new.rows c.requires.row.row c.in_ok-take_all.ensures
