use Rattle.std.proofs.Common.{ap, arith, length}
use Rattle.schedule_model.proofs.KeptViewLaws.{segments_view-length}
use Rattle.schedule_model.proofs.kept_segments.KeptSegments.len.Goals as goal

pub returns : goal.returns
returns c =
    omega (arith, c.len.ensures, segments_view-length c.self.inside c.self.invariant, ap length c.self.view_is)
