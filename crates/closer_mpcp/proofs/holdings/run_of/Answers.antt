use Rattle.std.proofs.Common.{◌≡◌, true, arith}
use Rattle.std.specs.Prelude.{slice_index}
use Rattle.number_laws.proofs.SumLaws.{only_if-true}
use Rattle.blocking_columns.specs.Windows.{requests_in}
use Rattle.closer_laws.specs.CloserRows.{is_held_there}
use Rattle.closer_mpcp.specs.Holdings.{runs_there}
use Rattle.closer_mpcp.proofs.OnProcessors.{higher_away}
use Rattle.closer_mpcp.proofs.holdings.run_of.Goals as goal

pub returns-then-is_held_there : goal.returns-then-is_held_there
returns-then-is_held_there c =
    let set = c.args.set.now in
    let i = c.args.i.0 in
    let x = c.args.x.0 in
    let r = c.args.r.0 in
    let bounds = slice_index c.args.bounds.now in
    let there : is_held_there set i x r ≡ true = cc in
    record {
      value = omega (
        arith,
        c.count.ensures.value,
        c.lower_held.ensures.value,
        c.away-higher.ensures.value,
        higher_away set i x (λ y. requests_in set bounds i y r) c.args.sums.now c.requires.request.task c.requires.sums,
        only_if-true (is_held_there set i x r) (runs_there set bounds i x r) there,
      );
      most = omega (arith, c.count.ensures.most, c.lower_held.ensures.most, c.away-higher.ensures.most);
    }
