-- Where no job has passed its bound within the rows, each whose bound ends within them has ended.
use Rattle.std.proofs.Common.{◌≡◌, ℕ, length, None}
use Rattle.number_laws.proofs.TestLaws.{found_below-none}
use Rattle.schedule_model.specs.RowDef.{Trace}
use Rattle.charge_laws.specs.Windows.{EndedWithin}
use Rattle.charge.specs.Passed.{has_passed, first_passed}
use Rattle.charge.proofs.PassedNext.{passed_not}

pub ended_within : (w : Trace) (bound : ℕ → ℕ) (e n : ℕ) → first_passed w bound n ≡ None → EndedWithin w bound e n
ended_within w bound e n none l listed before within =
    passed_not w bound n l (found_below-none (length w.jobs) (has_passed w bound n) none l listed) within
