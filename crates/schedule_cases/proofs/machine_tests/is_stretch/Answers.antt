use Rattle.std.proofs.Common.{arith}
use Rattle.schedule_cases.proofs.machine_tests.is_stretch.Goals as goal

pub advance_by-requires-clause-quiet : goal.advance_by-requires-clause-quiet
advance_by-requires-clause-quiet c = λ i some l. c.steady-steady.ensures.value.quiet i some (omega (arith, l, c.if-taken-steady.false))
