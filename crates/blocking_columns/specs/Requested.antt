-- The columns of a test are requests of resources that their tasks use.
use Rattle.std.specs.Prelude.{ℕ, ◌==◌, ◌&&◌, not, Bool}
use Rattle.std.proofs.lemmas.Bool.{and_parts}
use Rattle.sporadic_model.specs.SetDef.{SetDef}
use Rattle.sporadic_model.specs.Users.{is_user}
use Rattle.sporadic_model.specs.declared.ids.Protocol.{Protocol}
use Rattle.blocking_columns.specs.declared.columns.Class.{Class}
use Rattle.blocking_columns.specs.Columns.{is_column_by, is_column, may_block, AreRequests}

pub columns_are_requests : (blocks : ℕ → ℕ → Class → Bool) (set : SetDef) (i : ℕ) → AreRequests (is_column_by blocks set i) set
columns_are_requests blocks set i c passes =
    (and_parts _ _ (and_parts (not (c.task == i) && is_user set c.resource c.task) (blocks c.task c.resource c.class) passes).0).1

pub linked_requests : (p : Protocol) (set : SetDef) (i : ℕ) → AreRequests (is_column p set i) set
linked_requests p set i = columns_are_requests (may_block p set i) set i
