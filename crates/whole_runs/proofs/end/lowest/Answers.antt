use Rattle.std.proofs.Common.{rules}
use Rattle.fraction128.specs.Fraction.{IsSame, over}
use Rattle.fraction128.specs.Gives.{HasNoForm}
use Rattle.exchange_runs.specs.SmallRuns.{IsLowestOf}
use Rattle.exchange_runs.proofs.SmallLowest.{in_lowest_terms, lowest}
use Rattle.whole_runs.proofs.end.lowest.Goals as goal

pub unreachable-requires : goal.unreachable-requires
unreachable-requires c =
    let small = over c.args.num c.args.den in
    let terms : IsLowestOf (over c.args.num c.args.den) (in_lowest_terms (over c.args.num c.args.den))
    = lowest (over c.args.num c.args.den) c.requires in
    let none : HasNoForm (IsSame (over c.args.num c.args.den)) = search rules in
    none (in_lowest_terms small) terms.form terms.same
