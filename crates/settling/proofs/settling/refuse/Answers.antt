use Rattle.std.proofs.Common.{◌<◌, length, inr, Ok, sym, subst, arith}
use Rattle.refusal_laws.specs.Seen.{steps_seen}
use Rattle.refusal_laws.specs.declared.refusal.Refusal.{Refusal}
use Rattle.program_sources.specs.Recurrence.{SourceDef, source_at}
use Rattle.settling.specs.Answers.{Has64Bits, IsAnswered}
use Rattle.settling.specs.declared.answer.Settled.TheVariants as settled
use Rattle.settling.proofs.AnswerLaws.{answers_nothing, answers_refutation, never_short, refuted_of, right_refusal_of}
use Rattle.settling.proofs.AnswerLaws.{short_refutation_of, wide_refutation_of, wide_refutation_within}
use Rattle.settling.proofs.settling.refuse.Goals as goal

pub returns-in-Ok-Refused : goal.returns-in-Ok-Refused
returns-in-Ok-Refused g c =
    let f : SourceDef = source_at (g.P.ProgramSource.source c.args.protocol.now) c.args.set.now in
    let own = c.in-Ok-Refused in
    let refutes = refuted_of f c.args.allowance c.refute.result own.field-0 own.refusal c.refute.ensures.rounds own.is own.field-0-is in
    let right = right_refusal_of f c.refute.result own.field-0 own.refusal c.refute.ensures.right own.is own.field-0-is in
    let bits : Has64Bits (steps_seen own.refusal) =
    subst (λ (x : Refusal). Has64Bits (steps_seen x)) own.refusal-is c.keeps_64_bits.ensures in
    subst (λ (x : Refusal). IsAnswered f c.args.allowance (Ok (settled.Refused x))) (sym own.refusal-is)
    (answers_refutation f c.args.allowance own.refusal c.requires.late refutes right bits)

pub refuse_by_rounded_points-requires-clause-task : goal.refuse_by_rounded_points-requires-clause-task
refuse_by_rounded_points-requires-clause-task g c =
    let f : SourceDef = source_at (g.P.ProgramSource.source c.args.protocol.now) c.args.set.now in
    let wide = wide_refutation_of f c.args.allowance c.refute.result c.in-Err-Wide.field-0 c.in-Err-Wide.task c.refute.ensures.rounds
    c.in-Err-Wide.is c.in-Err-Wide.field-0-is in
    let here : c.in-Err-Wide.task.0 < length c.args.set.now.tasks = wide_refutation_within f c.args.allowance c.in-Err-Wide.task.0 wide in
    omega (arith, here)

pub refuse_by_rounded_points-requires-clause-left : goal.refuse_by_rounded_points-requires-clause-left
refuse_by_rounded_points-requires-clause-left g c =
    let f : SourceDef = source_at (g.P.ProgramSource.source c.args.protocol.now) c.args.set.now in
    let wide = wide_refutation_of f c.args.allowance c.refute.result c.in-Err-Wide.field-0 c.in-Err-Wide.task c.refute.ensures.rounds
    c.in-Err-Wide.is c.in-Err-Wide.field-0-is in
    λ κs h. record { none = c.requires.none; left = inr (c.requires.late, (c.in-Err-Wide.task.0, wide)) }

pub unreachable-requires-in-Err-Allowance : goal.unreachable-requires-in-Err-Allowance
unreachable-requires-in-Err-Allowance g c =
    let f : SourceDef = source_at (g.P.ProgramSource.source c.args.protocol.now) c.args.set.now in
    let short = short_refutation_of f c.args.allowance c.refute.result c.in-Err-Allowance.field-0 c.refute.ensures.rounds
    c.in-Err-Allowance.is c.in-Err-Allowance.field-0-is in
    never_short f c.args.allowance (c.the_rounds_have_one_ending.ensures f c.args.allowance) c.requires.late short

pub returns-in-Err-Memory : goal.returns-in-Err-Memory
returns-in-Err-Memory g c =
    let f : SourceDef = source_at (g.P.ProgramSource.source c.args.protocol.now) c.args.set.now in
    answers_nothing f c.args.allowance
