use Rattle.std.proofs.Common.{◌≤◌}
use Rattle.program_form.specs.Certificate.{certificate_seen}
use Rattle.program_sources.specs.Valid.{dual_at}
use Rattle.schedule_answers.specs.Failures.{AllPass}
use Rattle.dual_check.proofs.judging.has_denominators.Given as goal

abbrev pub invariant-loop-i : goal.invariant-loop-i
invariant-loop-i l = AllPass l.i (λ i. 1 ≤ (dual_at (certificate_seen l.certificate).duals i).den)
