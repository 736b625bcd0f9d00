use Rattle.study_gen.proofs.TallyLaws.{verdict_says, stop_says}
use Rattle.study_gen.proofs.counting.outcome_of.Goals as goal

pub returns-in-Ok-Schedulable : goal.returns-in-Ok-Schedulable
returns-in-Ok-Schedulable g c = verdict_says c.args.protocol c.args.set.now c.analyse.result c.in-Ok-Schedulable.field-0
    _ c.analyse.ensures.rounds c.analyse.ensures.only c.in-Ok-Schedulable.is c.in-Ok-Schedulable.field-0-is

pub returns-in-Ok-NotShown : goal.returns-in-Ok-NotShown
returns-in-Ok-NotShown g c = verdict_says c.args.protocol c.args.set.now c.analyse.result c.in-Ok-NotShown.field-0 _
    c.analyse.ensures.rounds c.analyse.ensures.only c.in-Ok-NotShown.is c.in-Ok-NotShown.field-0-is

pub returns-in-Err-Wide : goal.returns-in-Err-Wide
returns-in-Err-Wide g c = stop_says c.args.protocol c.args.set.now c.analyse.result c.in-Err-Wide.field-0 _
    c.analyse.ensures.rounds c.analyse.ensures.only c.in-Err-Wide.is c.in-Err-Wide.field-0-is

pub returns-in-Err-Allowance : goal.returns-in-Err-Allowance
returns-in-Err-Allowance g c = stop_says c.args.protocol c.args.set.now c.analyse.result c.in-Err-Allowance.field-0 _
    c.analyse.ensures.rounds c.analyse.ensures.only c.in-Err-Allowance.is c.in-Err-Allowance.field-0-is
