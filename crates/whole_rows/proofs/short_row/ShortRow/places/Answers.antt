use Rattle.std.proofs.Common.{sym}
use Rattle.whole_rows.proofs.ShortRows.{listed_places}
use Rattle.whole_rows.proofs.short_row.ShortRow.places.Goals as goal

pub returns : goal.returns
returns c = rw (← c.self.view_is) (sym (listed_places c.self.inside.places c.self.inside.entries.items c.self.inside.limit))
