use Rattle.std.proofs.Common.{sym, ◌∙◌}
use Rattle.sporadic_model.specs.Seen.{parts_seen}
use Rattle.sporadic_model.proofs.Ranges.{accepted_from_free}
use Rattle.sporadic_model.proofs.task_set.TaskSet.new.Goals as goal

pub with_tables-requires : goal.with_tables-requires
with_tables-requires c = accepted_from_free (parts_seen c.args.parts) (sym c.first_refusal.ensures ∙ c.in-None.is)
