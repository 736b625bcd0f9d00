use Rattle.std.proofs.Common.{◌≡◌, ◌<◌, ◌≤◌, ◌∙◌, ◌+◌, ℕ, length, map, arith, sym, ap, subst}
use Rattle.std.specs.Vec.{with_items}
use Rattle.std.proofs.lemmas.List.{with_items_is}
use Rattle.sporadic_model.specs.declared.limits.TheConstants.{MOST_TICKS}
use Rattle.schedule_model.specs.Seen.{place_seen, row_seen}
use Rattle.phase_machine.specs.MachineDef.{MachineDef}
use Rattle.phase_machine.specs.MachineView.{machine_view}
use Rattle.schedule_model.specs.RowDef.{RowDef}
use Rattle.phase_machine.specs.Shows.{Shows}
use Rattle.phase_machine.specs.Taking.{CanTake}
use Rattle.phase_machine.specs.Stretch.{IsQuiet}
use Rattle.phase_machine.proofs.Taking.{Took, took_from, row_from_places, taken_machine, taken_shows}
use Rattle.phase_machine.proofs.Stretches.{due_after}
use Rattle.phase_machine.proofs.machine.Machine.advance_by.Goals as goal

pub step_all-requires-clause-at : goal.step_all-requires-clause-at
step_all-requires-clause-at c =
    let can : CanTake (machine_view c.self.inside) (row_seen c.args.row.now) =
    subst (λ m. CanTake m (row_seen c.args.row.now)) (sym c.self.view_is) c.requires.row in
    rw (c.deref_mut.ensures.value, c.deref.ensures.value)
    (row_from_places (machine_view c.self.inside) (row_seen c.args.row.now) c.self.invariant.machine can)

pub move_on-requires : goal.move_on-requires
move_on-requires c =
    let quiet : IsQuiet (machine_view c.self.inside) (row_seen c.args.row.now) c.args.ticks =
    subst (λ m. IsQuiet m (row_seen c.args.row.now) c.args.ticks) (sym c.self.view_is) c.requires.quiet in
    record {
      len = ap length c.deref_mut-2.ensures.value ∙ c.self.invariant.machine.coming_length;
      each = λ x l. rw c.deref_mut-2.ensures.value
          (due_after (machine_view c.self.inside) (row_seen c.args.row.now) c.args.ticks x c.self.invariant.machine quiet l);
    }

pub invariant_of-self : goal.invariant_of-self
invariant_of-self c =
    let early : c.self.inside.tick + c.args.ticks ≤ MOST_TICKS =
    subst (λ m. m.tick + c.args.ticks ≤ MOST_TICKS) (sym c.self.view_is) c.requires.early in
    let can : CanTake (machine_view c.self.inside) (row_seen c.args.row.now) =
    subst (λ m. CanTake m (row_seen c.args.row.now)) (sym c.self.view_is) c.requires.row in
    let n : MachineDef = record {
      list = c.self.inside.jobs.now;
      tick = c.self.inside.tick + c.args.ticks;
      places = (with_items c.self.inside.places c.step_all.new.places).items;
      holders = map place_seen c.copy_from_slice.new.self.items;
      coming = (with_items c.self.inside.coming c.move_on.new.coming).items;
    } in
    let size : length c.move_on.new.coming ≡ length c.deref_mut-2.result.now =
    c.move_on.ensures.len ∙ sym (ap length c.deref_mut-2.ensures.value ∙ c.self.invariant.machine.coming_length) in
    let took : Took (machine_view c.self.inside) (row_seen c.args.row.now) c.args.ticks n =
    took_from (machine_view c.self.inside) (row_seen c.args.row.now) c.args.ticks c.deref_mut.result.now
    c.step_all.new.places (with_items c.self.inside.places c.step_all.new.places).items
    c.deref_mut-2.result.now c.move_on.new.coming (with_items c.self.inside.coming c.move_on.new.coming).items
    (map place_seen c.deref.result.now) (map place_seen c.copy_from_slice.new.self.items)
    (with_items_is c.self.inside.places c.step_all.new.places (c.step_all.ensures.len ∙ c.deref_mut.ensures.len)) c.deref_mut.ensures.value
    (ap (map place_seen) c.deref.ensures.value) (ap (map place_seen) (c.copy_from_slice.ensures.items ∙ c.deref-2.ensures.value))
    (with_items_is c.self.inside.coming c.move_on.new.coming (size ∙ c.deref_mut-2.ensures.len))
    c.deref_mut-2.ensures.value
    c.step_all.ensures.len c.step_all.ensures.moved size c.move_on.ensures.each in
    record {
      machine = taken_machine (machine_view c.self.inside) (row_seen c.args.row.now) c.args.ticks n c.self.invariant.machine can took;
      limits = record { list = c.self.invariant.limits.list; most = omega (arith, early) };
    }

pub returns-clause-shows : goal.returns-clause-shows
returns-clause-shows c =
    let can : CanTake (machine_view c.self.inside) (row_seen c.args.row.now) =
    subst (λ m. CanTake m (row_seen c.args.row.now)) (sym c.self.view_is) c.requires.row in
    let n : MachineDef = record {
      list = c.self.inside.jobs.now;
      tick = c.self.inside.tick + c.args.ticks;
      places = (with_items c.self.inside.places c.step_all.new.places).items;
      holders = map place_seen c.copy_from_slice.new.self.items;
      coming = (with_items c.self.inside.coming c.move_on.new.coming).items;
    } in
    let size : length c.move_on.new.coming ≡ length c.deref_mut-2.result.now =
    c.move_on.ensures.len ∙ sym (ap length c.deref_mut-2.ensures.value ∙ c.self.invariant.machine.coming_length) in
    let took : Took (machine_view c.self.inside) (row_seen c.args.row.now) c.args.ticks n =
    took_from (machine_view c.self.inside) (row_seen c.args.row.now) c.args.ticks c.deref_mut.result.now
    c.step_all.new.places (with_items c.self.inside.places c.step_all.new.places).items
    c.deref_mut-2.result.now c.move_on.new.coming (with_items c.self.inside.coming c.move_on.new.coming).items
    (map place_seen c.deref.result.now) (map place_seen c.copy_from_slice.new.self.items)
    (with_items_is c.self.inside.places c.step_all.new.places (c.step_all.ensures.len ∙ c.deref_mut.ensures.len)) c.deref_mut.ensures.value
    (ap (map place_seen) c.deref.ensures.value) (ap (map place_seen) (c.copy_from_slice.ensures.items ∙ c.deref-2.ensures.value))
    (with_items_is c.self.inside.coming c.move_on.new.coming (size ∙ c.deref_mut-2.ensures.len))
    c.deref_mut-2.ensures.value
    c.step_all.ensures.len c.step_all.ensures.moved size c.move_on.ensures.each in
    let quiet : IsQuiet (machine_view c.self.inside) (row_seen c.args.row.now) c.args.ticks =
    subst (λ m. IsQuiet m (row_seen c.args.row.now) c.args.ticks) (sym c.self.view_is) c.requires.quiet in
    let shows : (rows : ℕ → RowDef) → Shows (machine_view c.self.inside) rows
    → ((i : ℕ) → i < c.args.ticks → rows (c.self.inside.tick + i) ≡ row_seen c.args.row.now) → Shows n rows =
    taken_shows (machine_view c.self.inside) (row_seen c.args.row.now) c.args.ticks n can quiet c.requires.some took in
    subst
    (λ m. (rows : ℕ → RowDef) → Shows m rows
    → ((i : ℕ) → i < c.args.ticks → rows (m.tick + i) ≡ row_seen c.args.row.now) → Shows n rows) c.self.view_is shows
