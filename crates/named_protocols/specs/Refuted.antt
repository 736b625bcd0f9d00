-- What the calls answer that refute a set and confirm a refusal.
use Rattle.std.specs.Prelude.{◌≡◌, ℕ, List, Result, IfOk, IfErr}
use Rattle.program_sources.specs.Recurrence.{SourceDef}
use Rattle.program_sources.specs.Fitting.{AreFitting}
use Rattle.response_fixpoint.specs.Rounds.{Ending, EndsIn}
use Rattle.refusal_laws.specs.Steps.{StepDef, Holds}
use Rattle.refusal_cert.specs.Refuting.{refuting}
use Rattle.refusal_cert.specs.Steps.{refusal_of}
use Rattle.refusal_cert.specs.Answers.{Refutes, IsAnswerOf, FollowsAnalysis, IsRight}
use Rattle.refusal_cert.specs.declared.answer.Answer.{Answer}
use Rattle.refusal_cert.specs.declared.answer.RefuteStop.{RefuteStop}
use Rattle.refusal_confirm.specs.Faults.{IsFault, Confirms, Names}
use Rattle.refusal_confirm.specs.declared.fault.Fault.{Fault}
use Rattle.refusal_confirm.specs.declared.fault.Fault.TheVariants as fault

-- The answer of a refutation with this allowance is how the rounds of refusals end, and a refusal has their steps. Conversely, each end of
-- the rounds gives its own answer with its own steps, unless memory runs out. The answer follows from how an analysis ends, and is right.
pub record IsRefuted (f : SourceDef) (allowance : ℕ) (result : Result Answer RefuteStop) : Type 0 where
  pub rounds : Refutes result f allowance
  pub only : (e : Ending) (ends : EndsIn (refuting f) allowance e) → IsAnswerOf result e (refusal_of (refuting f) allowance e ends)
  pub follows : FollowsAnalysis result f allowance
  pub right : IfOk result (λ answer. IsRight answer f)

-- The answer on a refusal: it holds, or this is its first fault. A refusal that holds is confirmed, and one with a fault gets exactly that
-- fault, unless memory runs out. If it is confirmed, nothing fits.
pub record IsConfirmed (f : SourceDef) (steps : List StepDef) (result : Result (Unit {0}) Fault) : Type 0 where
  pub confirms : Confirms result f steps
  pub accepts : Holds f steps → IfErr result (λ e. e ≡ fault.Memory)
  pub only : (e : Fault) → IsFault e f steps → Names result e
  pub fits_none : IfOk result (λ done. (s : List ℕ) → AreFitting f s → ⊥)
