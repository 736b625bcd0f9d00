-- What a contract sees of a task set: the record of its parts. They are accepted, and the tables that the set keeps agree with them.
use Rattle.std.specs.Prelude.{◌≡◌, map}
use Rattle.sporadic_model.specs.SetDef.{SetDef}
use Rattle.sporadic_model.specs.Seen.{parts_seen}
use Rattle.sporadic_model.specs.Accepted.{IsAccepted}
use Rattle.sporadic_model.specs.Demands.{demands_in, AreUsed, AreUsers, AreBoosts}
use Rattle.sporadic_model.specs.declared.task_set.TaskSet.TheInside.{Inside}

abbrev pub set_view : Inside → SetDef
set_view s = parts_seen s.parts

pub record IsKept (s : Inside) : Type 0 where
  pub accepted : IsAccepted (parts_seen s.parts)
  pub demands : map (λ row. row.items) s.demands.items ≡ demands_in (parts_seen s.parts)
  pub used : AreUsed (parts_seen s.parts) (map (λ row. row.items) s.used.items)
  pub users : AreUsers (parts_seen s.parts) (map (λ row. row.items) s.users.items)
  pub boosts : AreBoosts (parts_seen s.parts) (map (λ row. row.items) s.boosts.items)
