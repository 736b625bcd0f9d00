-- A column of a blocking program, as plain numbers: the requests of a resource by a task, and how they block.
use Rattle.std.specs.Prelude.{◌≡◌, ℕ, ◌<◌, List, [], ◌∷◌, ◌++◌, map, Bool, true, false}
use Rattle.std.specs.List.{All}
use Rattle.number_laws.specs.Sums.{collect_below}
use Rattle.blocking_columns.specs.declared.columns.Class.{Class}
use Rattle.blocking_columns.specs.declared.columns.Class.TheVariants as class
use Rattle.blocking_columns.specs.declared.columns.Fragment.{Fragment}

pub record ColumnDef : Type 0 where
  pub task : ℕ
  pub resource : ℕ
  pub class : Class

-- Is the second class the first?
abbrev pub is_class : Class → Class → Bool
is_class class.Direct class.Direct = true
is_class class.Indirect class.Indirect = true
is_class class.Preemption class.Preemption = true
is_class _ _ = false

-- The three classes of requests of resource q by task x.
abbrev pub classes_of : ℕ → ℕ → List ColumnDef
classes_of x q = map (λ k. record { task = x; resource = q; class = k }) (class.Direct ∷ class.Indirect ∷ class.Preemption ∷ [])

-- Every task below n, every resource below m and every class, in order of the task, then the resource, then the class.
abbrev pub all_columns : ℕ → ℕ → List ColumnDef
all_columns n m = collect_below n (λ x. collect_below m (λ q. classes_of x q))

-- What contracts see of a column, and the three tests as code names them.
abbrev pub column_seen : Fragment → ColumnDef
column_seen f = record { task = f.task.0; resource = f.resource.0; class = f.class }

abbrev pub is_direct : Class → Bool
is_direct k = is_class class.Direct k

abbrev pub is_indirect : Class → Bool
is_indirect k = is_class class.Indirect k

abbrev pub is_preemption : Class → Bool
is_preemption k = is_class class.Preemption k

-- Have these columns been added behind those that were there before?
abbrev pub Gains : List Fragment → List Fragment → List ColumnDef → Type 0
Gains before now added = map column_seen now ≡ map column_seen before ++ added

-- Is the column of a task below n and a resource below m?
abbrev pub IsKnown : ℕ → ℕ → ColumnDef → Type 0
IsKnown n m c = (c.task < n) × (c.resource < m)

-- Are the columns' tasks and resources ones of the set, which has n tasks and m resources?
abbrev pub AreKnown : ℕ → ℕ → List Fragment → Type 0
AreKnown n m columns = All (λ c. (c.task.0 < n) × (c.resource.0 < m)) columns
