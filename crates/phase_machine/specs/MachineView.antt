-- What a contract sees of a machine.
use Rattle.std.specs.Prelude.{map}
use Rattle.schedule_model.specs.Seen.{place_seen}
use Rattle.phase_machine.specs.MachineDef.{MachineDef, IsMachine, IsWithinLimits}
use Rattle.phase_machine.specs.declared.machine.Machine.TheInside.{Inside}

abbrev pub machine_view : Inside → MachineDef
machine_view m = record {
  list = m.jobs.now;
  tick = m.tick;
  places = m.places.items;
  holders = map place_seen m.holders.items;
  coming = m.coming.items;
}

pub record IsKept (m : Inside) : Type 0 where
  pub machine : IsMachine (machine_view m)
  pub limits : IsWithinLimits (machine_view m)
