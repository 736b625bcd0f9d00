use Rattle.study_gen.specs.Tallies.{IsStepTally}
use Rattle.study_gen.proofs.counting.study_step.Given as goal

-- the tallies of the sets so far
abbrev pub invariant-loop : goal.invariant-loop
invariant-loop g l = IsStepTally l.step l.state l.counter l.tally
