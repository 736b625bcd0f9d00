use Rattle.std.proofs.Common.{length, ◌∙◌}
use Rattle.dpcp_rules.specs.Homes.{waiting_place}
use Rattle.dpcp_rules.proofs.Least.{fresh_table, least_first, least_next}
use Rattle.dpcp_rules.proofs.tables.waiting_table.Goals as goal

pub loop-x-init : goal.loop-x-init
loop-x-init c = least_first (waiting_place c.args.machine.now) (λ x. x) (length c.args.machine.now.list.set.tasks)
    c.new-table.result.keys (c.new-table.ensures ∙ fresh_table c.tasks_of.result (length c.args.machine.now.list.set.tasks) c.tasks_of.ensures.value)

pub loop-x-preserved : goal.loop-x-preserved
loop-x-preserved c = least_next (waiting_place c.args.machine.now) (λ x. x) (length c.args.machine.now.list.set.tasks) c.loop-x.x
    c.waiting_place.result c.loop-x.table.keys c.note.new.self.keys
    c.waiting_place.ensures.value c.loop-x.invariant c.note.ensures.here c.note.ensures.others
