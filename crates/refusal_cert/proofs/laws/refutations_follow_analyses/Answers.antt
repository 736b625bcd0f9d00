use Rattle.refusal_cert.proofs.Analyses.{refused_exactly, schedulable_exactly}
use Rattle.refusal_cert.proofs.laws.refutations_follow_analyses.Goals as goal

pub returns-clause-refused : goal.returns-clause-refused
returns-clause-refused c = refused_exactly

pub returns-clause-schedulable : goal.returns-clause-schedulable
returns-clause-schedulable c = schedulable_exactly
