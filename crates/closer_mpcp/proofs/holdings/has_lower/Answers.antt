use Rattle.std.proofs.Common.{nat_lt, ap, sym, ◌∙◌}
use Rattle.closer_mpcp.proofs.LowerUsers.{lower_beside, lower_elsewhere}
use Rattle.closer_mpcp.proofs.holdings.has_lower.Goals as goal

pub returns-in-Beside : goal.returns-in-Beside
returns-in-Beside c =
    rw c.in-Beside.is (ap (nat_lt 0) c.beside.ensures.value
    ∙ sym (lower_beside c.args.set.now c.args.i.0 c.args.x.0 c.args.r.0 c.args.lower.now c.requires.lower))

pub returns-in-Away : goal.returns-in-Away
returns-in-Away c =
    rw c.in-Away.is (ap (nat_lt 0) c.lower_away.ensures
    ∙ sym (lower_elsewhere c.args.set.now c.args.i.0 c.args.x.0 c.args.r.0 c.args.lower.now c.requires.lower))
