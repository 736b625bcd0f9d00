use Rattle.std.proofs.Common.{ℕ, List, ap}
use Rattle.block_top.proofs.study.study_counts.Goals as goal

pub returns : goal.returns
returns g c =
    let text = rw c.deref.ensures.value at c.in_ok-study_lines.ensures in
    (c.in_ok-counts.counts, c.in_ok-counts.ensures, ap (λ (t : List ℕ). record { status = 0; text = t }) text)
