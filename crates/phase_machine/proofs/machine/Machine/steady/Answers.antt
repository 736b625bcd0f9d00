use Rattle.std.proofs.Common.{length, subst, sym}
use Rattle.sporadic_model.specs.declared.limits.TheConstants.{MOST_TICKS}
use Rattle.schedule_model.specs.Seen.{row_seen}
use Rattle.phase_machine.specs.MachineDef.{MachineDef}
use Rattle.phase_machine.specs.MachineView.{machine_view}
use Rattle.phase_machine.specs.Taking.{CanTake}
use Rattle.phase_machine.specs.Stretch.{IsStretch}
use Rattle.phase_machine.specs.Least.{IsLeastOf, IsLeft, IsAhead}
use Rattle.phase_machine.proofs.Taking.{row_from_places}
use Rattle.phase_machine.proofs.Least.{left_seen}
use Rattle.phase_machine.proofs.Stretches.{stretch_of, quiet_sooner, steady_of, changes_of}
use Rattle.phase_machine.proofs.machine.Machine.steady.Goals as goal

pub least_left-requires-clause-at : goal.least_left-requires-clause-at
least_left-requires-clause-at c =
    let can : CanTake (machine_view c.self.inside) (row_seen c.args.row.now) =
    subst (λ m. CanTake m (row_seen c.args.row.now)) (sym c.self.view_is) c.requires.row in
    rw (c.deref-3.ensures.value, c.deref-2.ensures.value)
    (row_from_places (machine_view c.self.inside) (row_seen c.args.row.now) c.self.invariant.machine can)

pub returns-clause-value : goal.returns-clause-value
returns-clause-value c =
    let m : MachineDef = machine_view c.self.inside in
    let ahead : IsLeastOf MOST_TICKS (IsAhead m.list.jobs m.tick m.coming (length m.coming)) c.least_ahead-most.result =
    rw c.deref.ensures.value at c.least_ahead-most.ensures.least in
    let left : IsLeastOf c.least_ahead-most.result
    (IsLeft m.list.jobs m.places (row_seen c.args.row.now).running (length (row_seen c.args.row.now).running))
    c.least_left.result =
    left_seen c.least_ahead-most.result c.least_left.result m.list.jobs m.places c.args.row.now.running.items
    (rw (c.deref-3.ensures.value, c.deref-2.ensures.value) at c.least_left.ensures.least) in
    subst (λ m. IsStretch m (row_seen c.args.row.now) c.least_left.result) c.self.view_is
    (stretch_of m (row_seen c.args.row.now) c.least_ahead-most.result c.least_left.result c.self.invariant.machine ahead
    left c.least_left.ensures.some)

pub returns-clause-steady : goal.returns-clause-steady
returns-clause-steady c = λ rows n shows l same.
    let stretch : IsStretch c.args.self.now (row_seen c.args.row.now) c.least_left.result = returns-clause-value c in
    steady_of c.args.self.now rows (row_seen c.args.row.now) n shows c.requires.row
    (quiet_sooner c.args.self.now (row_seen c.args.row.now) c.least_left.result n stretch.quiet l) same

pub returns-clause-changes : goal.returns-clause-changes
returns-clause-changes c = λ rows shows l same.
    let stretch : IsStretch c.args.self.now (row_seen c.args.row.now) c.least_left.result = returns-clause-value c in
    changes_of c.args.self.now rows (row_seen c.args.row.now) c.least_left.result shows c.requires.row stretch l same
