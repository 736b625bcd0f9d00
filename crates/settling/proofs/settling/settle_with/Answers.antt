use Rattle.program_sources.specs.Recurrence.{SourceDef, source_at}
use Rattle.settling.proofs.AnswerLaws.{sound_of}
use Rattle.settling.proofs.settling.settle_with.Goals as goal

pub returns-clause-sound : goal.returns-clause-sound
returns-clause-sound g c =
    let f : SourceDef = source_at (g.P.ProgramSource.source c.args.protocol.now) c.args.set.now in
    let accepted = c.keeps_the_model.ensures.accepted in
    let analyses = c.charged_protocols_are_analysed.ensures c.args.protocol.now c.args.set.now accepted c.requires.suits in
    sound_of f (g.P.BlockingProtocol.keeps c.args.protocol.now) (g.P.BlockingProtocol.interferes c.args.protocol.now)
    c.settle_by.result c.settle_by.ensures.right
    (λ cert values valid are. c.analysed_protocols_are_sound.ensures c.args.protocol.now f cert values accepted c.requires.suits
    analyses valid are)
