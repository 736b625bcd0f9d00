use Rattle.std.proofs.Common.{◌∙◌, length, min, ap}
use Rattle.dpcp_rules.specs.Homes.{ceiling_now, kept_place, entry_at}
use Rattle.dpcp_rules.proofs.Least.{fresh_table, least_first, least_next}
use Rattle.dpcp_rules.proofs.tables.kept_table.Goals as goal

pub loop-q-init : goal.loop-q-init
loop-q-init c = least_first (kept_place c.args.machine.now) (ceiling_now c.args.machine.now)
    (length c.args.machine.now.list.set.tasks) c.new-table.result.keys
    (c.new-table.ensures ∙ fresh_table c.tasks_of.result (length c.args.machine.now.list.set.tasks) c.tasks_of.ensures.value)

pub loop-q-preserved : goal.loop-q-preserved
loop-q-preserved c = least_next (kept_place c.args.machine.now) (ceiling_now c.args.machine.now)
    (length c.args.machine.now.list.set.tasks) c.loop-q.q c.kept_place.result c.loop-q.table.keys c.note.new.self.keys
    c.kept_place.ensures.value c.loop-q.invariant
    (c.note.ensures.here ∙ ap (min (entry_at c.loop-q.table.keys c.kept_place.result)) c.ceiling_of.ensures)
    c.note.ensures.others
