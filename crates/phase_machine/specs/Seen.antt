-- What a contract sees of an answer on a job's phase.
use Rattle.std.specs.Prelude.{ℕ, ◌<◌}
use Rattle.schedule_model.specs.Phase.{Phase as PhaseDef}
use Rattle.schedule_model.specs.Phase.Phase.{Local, Asking, Finished}
use Rattle.phase_machine.specs.declared.phase.Phase.{Phase}
use Rattle.phase_machine.specs.declared.phase.Phase.TheVariants as phase

abbrev pub phase_seen : Phase → PhaseDef
phase_seen phase.Local = Local
phase_seen (phase.Asking n q) = Asking n q.0
phase_seen phase.Finished = Finished

-- Is the resource that the phase names, if any, among the first n?
abbrev pub NamesResource : ℕ → Phase → Type 0
NamesResource n (phase.Asking _ q) = q.0 < n
NamesResource n _ = Unit {0}
