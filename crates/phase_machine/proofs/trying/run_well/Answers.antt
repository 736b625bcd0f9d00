use Rattle.std.proofs.Common.{◌≡◌, arith, inl, inr}
use Rattle.std.proofs.lemmas.Bool.{cases_lt}
use Rattle.phase_machine.proofs.trying.run_well.Goals as goal

pub loop-c-preserved : goal.loop-c-preserved
loop-c-preserved c = λ d l. elim (cases_lt d c.loop-c.c) [
  | inl below ↦ c.loop-c.invariant d below
  | inr past ↦ let here : d ≡ c.loop-c.c = omega arith in rw here (c.runs_alone.ensures.holds c.if-not-runs_alone.false)
]
