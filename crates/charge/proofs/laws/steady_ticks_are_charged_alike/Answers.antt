use Rattle.schedule_laws.proofs.Alike.{phase_through}
use Rattle.charge.proofs.CountedAlike.{request_stays}
use Rattle.charge.proofs.laws.steady_ticks_are_charged_alike.Goals as goal

pub returns-clause-blocked : goal.returns-clause-blocked
returns-clause-blocked g c = λ p w t n suits lawful steady keeps i j l.
    (g.met.P.Judge.stays_lawful p w t n suits lawful steady keeps i l).blocked j

pub returns-clause-charged : goal.returns-clause-charged
returns-clause-charged g c = λ p w t n suits lawful steady keeps i j l.
    request_stays (g.P.ChargedProtocol.charges p) w t _ j
    (g.met.P.ChargedProtocol.stays_charged p w t n suits lawful steady keeps i j l) (λ k. phase_through w t n i k steady l)
