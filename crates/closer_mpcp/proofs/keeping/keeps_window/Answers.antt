use Rattle.std.proofs.Common.{sym, ◌∙◌}
use Rattle.std.specs.Prelude.{slice_index}
use Rattle.closer_mpcp.proofs.SteadyJobs.{keeps_common}
use Rattle.closer_mpcp.proofs.keeping.keeps_window.Goals as goal

pub returns-then-is_within : goal.returns-then-is_within
returns-then-is_within c holds =
    keeps_common c.args.set.now (slice_index c.args.earlier.now) (slice_index c.args.bounds.now) c.args.i.0 c.args.q.0 c.args.common
    c.window_with-window.result c.requires.request.task c.requires.common c.window_with-window.ensures
    (sym c.is_within.ensures ∙ c.if-is_within.true)
