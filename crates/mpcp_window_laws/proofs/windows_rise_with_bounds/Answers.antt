use Rattle.mpcp_window_laws.proofs.Rising.{window_rises}
use Rattle.mpcp_window_laws.proofs.windows_rise_with_bounds.Goals as goal

pub returns : goal.returns
returns c = λ set r s i q b known below e. let f = window_rises set r s i q b known below e in (f.least, f.is_it, f.at_most)
