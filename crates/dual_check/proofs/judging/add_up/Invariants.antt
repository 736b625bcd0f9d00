use Rattle.program_form.specs.Certificate.{certificate_seen}
use Rattle.program_sources.specs.Recurrence.{source_at}
use Rattle.dual_check.specs.Answers.{AreEnough}
use Rattle.dual_check.proofs.judging.add_up.Given as goal

abbrev pub invariant-loop-i : goal.invariant-loop-i
invariant-loop-i g l = AreEnough
    (source_at (g.P.ProgramSource.source l.protocol) l.set)
    (certificate_seen l.certificate) l.i l.values.items
