use Rattle.std.proofs.Common.{◌≡◌, pos, rules}
use Rattle.exchange_runs.proofs.Loops.{less_at_zero}
use Rattle.simplex.proofs.entries.less_product.Goals as goal

pub returns-then-is_zero : goal.returns-then-is_zero
returns-then-is_zero c =
    let none : c.args.y.num ≡ pos 0 = search rules in
    less_at_zero c.args.a c.args.f c.args.y none c.requires
