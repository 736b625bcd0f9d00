use Rattle.std.proofs.Common.{◌≡◌}
use Rattle.whole_rows.proofs.ShortRows.{listed_from, listed_each}
use Rattle.whole_rows.proofs.short_row.ShortRow.list.Goals as goal

pub returns-clause-listed : goal.returns-clause-listed
returns-clause-listed c =
    let kept = c.self.invariant in
    let all : c.extend_from_slice.new.self.items ≡ c.self.inside.entries.items =
    rw (c.clear.ensures.items, c.deref.ensures.value) at c.in_ok-extend_from_slice.ensures.items in
    rw (all, ← c.self.view_is) (record {
      from = listed_from c.self.inside.places c.self.inside.entries.items c.self.inside.limit kept.sparse kept.below;
      all = listed_each c.self.inside.places c.self.inside.entries.items c.self.inside.limit kept.below;
    })
