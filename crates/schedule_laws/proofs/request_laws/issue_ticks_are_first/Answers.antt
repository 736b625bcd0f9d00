use Rattle.std.proofs.Common.{◌≡◌, ℕ, ◌+◌, true, false, add-one}
use Rattle.schedule_model.specs.RowDef.{Trace}
use Rattle.schedule_model.specs.Phase.{is_same_request, phase_of}
use Rattle.schedule_model.specs.Activity.{issue_tick_of}
use Rattle.schedule_laws.proofs.Issues.{issue_at_most, issue_least, open_since, issue_kept, issue_new}
use Rattle.schedule_laws.proofs.request_laws.issue_ticks_are_first.Goals as goal

stays_at : (w : Trace) (t j : ℕ) → is_same_request (phase_of w t j) (phase_of w (t + 1) j) ≡ true
    → issue_tick_of w (t + 1) j ≡ issue_tick_of w t j
stays_at w t j = rw add-one (issue_kept w t j)

new_at : (w : Trace) (t j : ℕ) → is_same_request (phase_of w t j) (phase_of w (t + 1) j) ≡ false → issue_tick_of w (t + 1) j ≡ t + 1
new_at w t j = rw add-one (issue_new w t j)

pub returns-clause-present : goal.returns-clause-present
returns-clause-present c = issue_at_most

pub returns-clause-least : goal.returns-clause-least
returns-clause-least c = issue_least

pub returns-clause-since : goal.returns-clause-since
returns-clause-since c = open_since

pub returns-clause-stays : goal.returns-clause-stays
returns-clause-stays c = stays_at

pub returns-clause-new : goal.returns-clause-new
returns-clause-new c = new_at
