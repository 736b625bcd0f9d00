use Rattle.program_form.specs.Certificate.{certificate_seen}
use Rattle.program_sources.specs.Recurrence.{SourceDef, source_at}
use Rattle.dual_check.proofs.judging.check_with.Goals as goal

pub returns-clause-sound : goal.returns-clause-sound
returns-clause-sound g c =
    let f : SourceDef = source_at (g.P.ProgramSource.source c.args.protocol.now) c.args.set.now in
    c.what_passes_is_sound.ensures c.args.protocol.now f (certificate_seen c.args.certificate.now) c.judge.result
    c.keeps_the_model.ensures.accepted c.requires.suits
    (c.charged_protocols_are_analysed.ensures c.args.protocol.now c.args.set.now c.keeps_the_model.ensures.accepted c.requires.suits)
    c.judge.ensures.judges
