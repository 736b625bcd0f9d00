use Rattle.std.proofs.Common.{refl, arith}
use Rattle.study_gen.proofs.TallyLaws.{no_tally, step_has_room, step_more}
use Rattle.study_gen.proofs.counting.study_step.Goals as goal

pub loop-init : goal.loop-init
loop-init g c = no_tally _ _ _ refl refl refl refl

pub study_set-requires-clause-room : goal.study_set-requires-clause-room
study_set-requires-clause-room g c = λ κs h.
    step_has_room c.args.step c.args.state c.loop.counter c.loop.tally c.loop.invariant
    (omega (arith, c.loop-test.true, c.requires.sets))

pub loop-preserved : goal.loop-preserved
loop-preserved g c = step_more _ _ _ _ _ c.loop.invariant c.in_ok-tally.ensures
