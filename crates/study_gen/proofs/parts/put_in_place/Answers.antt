use Rattle.study_gen.proofs.OrderLaws.{inserted}
use Rattle.study_gen.proofs.parts.put_in_place.Goals as goal

pub returns : goal.returns
returns c =
    let place = rw (c.deref.ensures.value) at c.place_of-place.ensures.value in
    inserted _ _ _ c.args.task place c.in_ok-insert.ensures.items
