-- What the test of a column asks of its resource, where requests run on their resource's home, as a table.
use Rattle.std.specs.Prelude.{◌≡◌, ℕ, ◌<◌, ◌==◌, ◌&&◌, ◌||◌, Bool, nat_le, List, length, slice_index_or}
use Rattle.sporadic_model.specs.SetDef.{SetDef, task_at}
use Rattle.sporadic_model.specs.Users.{is_user}
use Rattle.sporadic_model.specs.Homes.{home_in}
use Rattle.blocking_columns.specs.Ceilings.{ceiling_rank}
use Rattle.blocking_columns.specs.Columns.{requests_beside}
use Rattle.blocking_columns.specs.declared.columns.Class.{Class}
use Rattle.blocking_columns.specs.declared.columns.Class.TheVariants as class
use Rattle.blocking_columns.specs.declared.homes.HomeMark.{HomeMark}

-- What is asked of resource q, for the task i.
abbrev pub mark_of : SetDef → ℕ → ℕ → HomeMark
mark_of set i q = record {
  asked = is_user set q i;
  beside = requests_beside set i q;
  here = home_in set q == (task_at set i).processor;
  high = nat_le (ceiling_rank set q) i;
}

-- Is it said of each resource?
pub record AreHomeMarks (set : SetDef) (i : ℕ) (marks : List HomeMark) : Type 0 where
  pub one_each : length marks ≡ length set.resources
  pub each : (q : ℕ) (d : HomeMark) → q < length set.resources → slice_index_or marks q d ≡ mark_of set i q

-- Do requests by x of a resource with this mark block i in this way?
abbrev pub blocks_marked : HomeMark → ℕ → ℕ → Class → Bool
blocks_marked mark i x class.Direct = mark.asked
blocks_marked mark i x class.Indirect = mark.beside && (mark.high || nat_le x i)
blocks_marked mark i x class.Preemption = mark.here
