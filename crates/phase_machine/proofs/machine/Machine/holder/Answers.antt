use Rattle.std.proofs.Common.{◌<◌, ◌≡◌, ◌∙◌, length, subst, sym, arith}
use Rattle.std.specs.Prelude.{IfSome}
use Rattle.std.proofs.lemmas.List.{length-map}
use Rattle.std.proofs.lemmas.List.{length-map}
use Rattle.schedule_model.specs.Seen.{place_seen}
use Rattle.phase_machine.specs.MachineDef.{IsMachine}
use Rattle.phase_machine.specs.MachineView.{machine_view}
use Rattle.phase_machine.proofs.Named.{read_below}
use Rattle.phase_machine.proofs.machine.Machine.holder.Goals as goal

pub returns-clause-within : goal.returns-clause-within
returns-clause-within c =
    let machine : IsMachine (machine_view c.self.inside) = c.self.invariant.machine in
    let asked : c.args.q.0 < length c.self.inside.jobs.now.set.resources =
    subst (λ m. c.args.q.0 < length m.list.set.resources) (sym c.self.view_is) c.requires in
    let size : length c.self.inside.holders.items ≡ length c.self.inside.jobs.now.set.resources =
    sym (length-map c.self.inside.holders.items place_seen) ∙ machine.holders_length in
    subst (λ m. IfSome c.index.result.now (λ j. j.0 < length m.list.jobs)) c.self.view_is
    (read_below c.self.inside.holders.items c.args.q.0 (length c.self.inside.jobs.now.jobs) c.index.result.now
    (omega (arith, asked, size)) c.index.ensures (machine.named c.args.q.0))
