use Rattle.std.proofs.Common.{◌≡◌, ◌∙◌, get_or, ap, subst, arith}
use Rattle.std.proofs.lemmas.List.{get_or_default}
use Rattle.phase_machine.specs.MachineDef.{IsMachine, IsPlace, task_in, no_place}
use Rattle.phase_machine.specs.MachineView.{machine_view}
use Rattle.phase_machine.specs.Given.{IsPlaceOf}
use Rattle.phase_machine.proofs.machine.Machine.place.Goals as goal

pub returns : goal.returns
returns c =
    let machine : IsMachine (machine_view c.self.inside) = c.self.invariant.machine in
    let same : c.index.result.now ≡ get_or c.self.inside.places.items c.task_of.result.0 no_place =
    c.index.ensures ∙ get_or_default c.self.inside.places.items c.task_of.result.0 c.index.result.now no_place
    (omega (arith, c.task_of.ensures.within, machine.places_length)) in
    let here : IsPlace c.self.inside.jobs.now.jobs c.task_of.result.0 c.index.result.now =
    rw same (machine.place c.task_of.result.0 c.task_of.ensures.within) in
    let own : IsPlace c.self.inside.jobs.now.jobs (task_in c.self.inside.jobs.now.jobs c.args.j.0) c.index.result.now =
    rw (← c.task_of.ensures.value) here in
    subst (λ m. IsPlaceOf m c.args.j.0 c.index.result.now) c.self.view_is (record {
      value = same ∙ ap (λ x. get_or c.self.inside.places.items x no_place) c.task_of.ensures.value;
      place = own;
    })
