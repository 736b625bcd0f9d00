use Rattle.simplex.proofs.Ratios.{below_comes}
use Rattle.simplex.proofs.choice.comes_before.Goals as goal

pub returns-in-Less : goal.returns-in-Less
returns-in-Less c = below_comes c.args.g c.args.f c.args.j c.args.i c.in-Less.ensures.by_value

pub returns-in-Greater : goal.returns-in-Greater
returns-in-Greater c = below_comes c.args.f c.args.g c.args.i c.args.j c.in-Greater.ensures.by_value
