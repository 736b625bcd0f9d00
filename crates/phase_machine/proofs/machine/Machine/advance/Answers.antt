use Rattle.std.proofs.Common.{◌≡◌, ◌+◌, ap, ◌∙◌, arith}
use Rattle.phase_machine.proofs.machine.Machine.advance.Goals as goal

pub returns-clause-shows : goal.returns-clause-shows
returns-clause-shows c = λ rows shows e. c.advance_by.ensures.shows rows shows
    (λ i l. let here : c.args.self.now.tick + i ≡ c.args.self.now.tick = omega (arith, l) in ap rows here ∙ e)
