use Rattle.program_sources.specs.Recurrence.{SourceDef, source_at}
use Rattle.response_fixpoint.specs.Taking.{TakesRound}
use Rattle.response_fixpoint.proofs.taking.next_round.Goals as goal

pub take-requires : goal.take-requires
take-requires g c =
    (c.requires.takes _ c.deref.result c.args.left c.args.plan
    (record { serves = c.requires.served.serves; range = rw c.deref.ensures.value c.requires.served.range })
    (rw c.deref.ensures.value c.requires.plan)).0

pub returns : goal.returns
returns g c =
    let f : SourceDef = source_at (g.P.ProgramSource.source c.args.protocol.now) c.args.set.now in
    let may = c.requires.takes _ c.deref.result c.args.left c.args.plan
    (record { serves = c.requires.served.serves; range = rw c.deref.ensures.value c.requires.served.range })
    (rw c.deref.ensures.value c.requires.plan) in
    let taken : TakesRound (g.S.RoundRecord.stands c.args.recorded.now) (g.S.RoundRecord.stands c.take.new.arg2)
    (g.S.RoundRecord.ends c.take.new.arg2) f c.args.bounds.now.items c.args.left c.take.result =
    rw c.deref.ensures.value at (may.1 _ _ c.take.ensures) in
    taken
