-- Laws of simulating: there is one answer, with status 0.
use Rattle.std.proofs.Common.{◌≡◌, ℕ, sym, ◌∙◌, ap, inl}
use Rattle.protocol_names.specs.declared.ProtocolName.{ProtocolName}
use Rattle.schedule_model.specs.JobDef.{JobsDef}
use Rattle.trace_csv.specs.Written.{rows_text}
use Rattle.named_laws.proofs.OneSchedule.{named_simulated_once}
use Rattle.command_inputs.specs.Known.{Answer}
use Rattle.run_plans.specs.Commands.{IsSimulation, simulation_of}
use Rattle.run_plans.proofs.PlanLaws.{IsLawfulWork}
use Rattle.run_plans.proofs.WorkLaws.{always_lawful}

one_simulation : (p : ProtocolName) (list : JobsDef) (n : ℕ) (a b : Answer) → IsSimulation p list n a → IsSimulation p list n b → a ≡ b
one_simulation p list n a b (runs, made, is) (others, made', is') =
    is ∙ ap (λ r. record { status = 0; text = rows_text list.set r }) (named_simulated_once p list n runs others made made') ∙ sym is'

pub simulation_lawful : (p : ProtocolName) (list : JobsDef) (n : ℕ) → IsLawfulWork (simulation_of p list n)
simulation_lawful p list n = always_lawful (IsSimulation p list n) (one_simulation p list n) (λ a is. inl (ap (λ x. x.status) is.2))
