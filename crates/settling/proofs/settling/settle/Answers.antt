use Rattle.program_form.specs.Certificate.{certificate_seen}
use Rattle.program_sources.specs.Recurrence.{SourceDef, source_at}
use Rattle.response_fixpoint.specs.Answers.{IsBest}
use Rattle.settling.proofs.AnswerLaws.{answers_best, answers_nothing, answers_short, best_of, not_shown_of, short_analysis_of, shown_of, wide_analysis_of}
use Rattle.settling.proofs.settling.settle.Goals as goal

pub returns-in-Ok-Schedulable : goal.returns-in-Ok-Schedulable
returns-in-Ok-Schedulable g c =
    let f : SourceDef = source_at (g.P.ProgramSource.source c.args.protocol.now) c.args.set.now in
    let own = c.in-Ok-Schedulable in
    let ends = shown_of f c.args.allowance c.analyse_with.result own.field-0 own.certificate c.analyse_with.ensures.rounds own.is own.field-0-is in
    let best : IsBest f (certificate_seen own.certificate) =
    best_of f c.analyse_with.result own.field-0 own.certificate c.analyse_with.ensures.right own.is own.field-0-is in
    answers_best f c.args.allowance own.certificate ends best
    (c.certificates_of_analyses_need_no_more_bits.ensures f c.args.allowance _ _ ends)

pub refuse-requires-clause-late : goal.refuse-requires-clause-late
refuse-requires-clause-late g c =
    let f : SourceDef = source_at (g.P.ProgramSource.source c.args.protocol.now) c.args.set.now in
    λ κs h. not_shown_of f c.args.allowance c.analyse_with.result c.in-Ok-NotShown.field-0 _ _ c.analyse_with.ensures.rounds
    c.in-Ok-NotShown.is c.in-Ok-NotShown.field-0-is

pub settle_wide-requires-clause-wide : goal.settle_wide-requires-clause-wide
settle_wide-requires-clause-wide g c =
    let f : SourceDef = source_at (g.P.ProgramSource.source c.args.protocol.now) c.args.set.now in
    λ κs h. wide_analysis_of f c.args.allowance c.analyse_with.result c.in-Err-Wide.field-0 c.in-Err-Wide.task c.analyse_with.ensures.rounds
    c.in-Err-Wide.is c.in-Err-Wide.field-0-is

pub returns-in-Err-Allowance : goal.returns-in-Err-Allowance
returns-in-Err-Allowance g c =
    let f : SourceDef = source_at (g.P.ProgramSource.source c.args.protocol.now) c.args.set.now in
    answers_short f c.args.allowance (short_analysis_of f c.args.allowance c.analyse_with.result c.in-Err-Allowance.field-0
    c.analyse_with.ensures.rounds c.in-Err-Allowance.is c.in-Err-Allowance.field-0-is)

pub returns-in-Err-Memory : goal.returns-in-Err-Memory
returns-in-Err-Memory g c =
    let f : SourceDef = source_at (g.P.ProgramSource.source c.args.protocol.now) c.args.set.now in
    answers_nothing f c.args.allowance
