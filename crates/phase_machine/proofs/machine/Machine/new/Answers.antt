use Rattle.std.proofs.Common.{length, refl, ap, arith, ◌∙◌, map, replicate, None}
use Rattle.schedule_model.specs.Seen.{place_seen}
use Rattle.phase_machine.specs.MachineDef.{MachineDef}
use Rattle.phase_machine.proofs.Taking.{machine_at_first, shows_at_first}
use Rattle.phase_machine.proofs.machine.Machine.new.Goals as goal

pub invariant_of-result : goal.invariant_of-result
invariant_of-result c =
    let m : MachineDef = record {
      list = c.args.jobs.now;
      tick = 0;
      places = c.in_ok-places.places.items;
      holders = map place_seen c.in_ok-holders.holders.items;
      coming = c.in_ok-coming.coming.items;
    } in
    record {
      machine = machine_at_first m refl c.list_is_lawful.ensures.lawful c.list_is_lawful.ensures.numbers
          c.in_ok-places.ensures.len c.in_ok-places.ensures.each
          (c.in_ok-holders.ensures
          ∙ ap (λ n. replicate n None) (c.resources.ensures.value ∙ ap (λ set. length set.resources) c.set.ensures))
          c.in_ok-coming.ensures.len c.in_ok-coming.ensures.each;
      limits = record { list = c.list_is_lawful.ensures.listed; most = omega arith };
    }

pub returns-clause-shows : goal.returns-clause-shows
returns-clause-shows c = λ rows.
    let m : MachineDef = record {
      list = c.args.jobs.now;
      tick = 0;
      places = c.in_ok-places.places.items;
      holders = map place_seen c.in_ok-holders.holders.items;
      coming = c.in_ok-coming.coming.items;
    } in
    shows_at_first m rows
    (machine_at_first m refl c.list_is_lawful.ensures.lawful c.list_is_lawful.ensures.numbers c.in_ok-places.ensures.len
    c.in_ok-places.ensures.each
    (c.in_ok-holders.ensures ∙ ap (λ n. replicate n None) (c.resources.ensures.value ∙ ap (λ set. length set.resources) c.set.ensures))
    c.in_ok-coming.ensures.len c.in_ok-coming.ensures.each)
    refl c.in_ok-places.ensures.each (c.in_ok-holders.ensures
    ∙ ap (λ n. replicate n None) (c.resources.ensures.value ∙ ap (λ set. length set.resources) c.set.ensures))
