use Rattle.std.proofs.Common.{◌≡◌, not, true, false, ap, arith}
use Rattle.std.specs.Prelude.{slice_index}
use Rattle.number_laws.proofs.SumLaws.{only_if-true, only_if-false}
use Rattle.blocking_columns.specs.Columns.{have_one_processor}
use Rattle.mpcp_window_laws.specs.WaitRows.{requests_in_waits}
use Rattle.closer_mpcp.specs.Holdings.{lower_held}
use Rattle.closer_mpcp.specs.declared.places.Place.TheVariants as place
use Rattle.closer_mpcp.proofs.OnProcessors.{higher_beside}
use Rattle.closer_mpcp.proofs.held.held_beside.Goals as goal

pub returns-then-share_processor : goal.returns-then-share_processor
returns-then-share_processor c =
    let set = c.args.set.now in
    let i = c.args.i.0 in
    let x = c.args.x.0 in
    let r = c.args.r.0 in
    let here : have_one_processor set x i ≡ true = cc in
    let none = only_if-false (not (have_one_processor set x i)) (lower_held place.Beside set i x r) (ap not here) in
    record {
      value = omega (
        arith,
        c.beside-higher.ensures.value,
        none,
        higher_beside set i x (λ y. requests_in_waits set (slice_index c.args.bounds.now) i r y r) c.args.sums.now c.requires.request.task
            c.requires.sums,
      );
      most = omega (arith, c.beside-higher.ensures.most);
    }

pub returns-else-share_processor : goal.returns-else-share_processor
returns-else-share_processor c =
    let set = c.args.set.now in
    let i = c.args.i.0 in
    let x = c.args.x.0 in
    let r = c.args.r.0 in
    let elsewhere : have_one_processor set x i ≡ false = cc in
    let lower = only_if-true (not (have_one_processor set x i)) (lower_held place.Beside set i x r) (ap not elsewhere) in
    record {
      value = omega (
        arith,
        c.beside-higher.ensures.value,
        c.lower_held.ensures.value,
        lower,
        higher_beside set i x (λ y. requests_in_waits set (slice_index c.args.bounds.now) i r y r) c.args.sums.now c.requires.request.task
            c.requires.sums,
      );
      most = omega (arith, c.beside-higher.ensures.most, c.lower_held.ensures.most);
    }
