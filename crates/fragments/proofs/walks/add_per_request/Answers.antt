use Rattle.std.proofs.Common.{rules}
use Rattle.std.specs.Prelude.{slice_index}
use Rattle.blocking_columns.specs.declared.stretches.TaskPlace.{TaskPlace}
use Rattle.blocking_columns.proofs.TaskPlaces.{one_more_place}
use Rattle.fragments.proofs.walks.add_per_request.Goals as goal

pub loop-x-preserved : goal.loop-x-preserved
loop-x-preserved g c =
    let here : TaskPlace = record { from = c.loop-x.place; jobs = c.jobs-jobs.result } in
    record {
      rows = search rules;
      one_each = search rules;
      each = rw (c.in_ok-push.ensures.items) (one_more_place c.args.set.now (slice_index c.args.bounds.now) c.args.i.0 c.loop-x.x
          c.args.columns.now c.loop-x.places.items here c.loop-x.invariant.one_each c.loop-x.invariant.each (record {
            begins = c.loop-x.invariant.place;
            jobs = c.jobs-jobs.ensures.value;
            most = c.jobs-jobs.ensures.most;
          }));
      place = c.in_ok-place.ensures.end;
    }
