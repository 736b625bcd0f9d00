-- The order in which classes stand.
use Rattle.std.specs.Prelude.{ℕ}
use Rattle.std.specs.Ordering.{nat_cmp}
use Rattle.std.specs.declared.cmp.Ordering.{Ordering}
use Rattle.blocking_columns.specs.declared.columns.Class.{Class}
use Rattle.blocking_columns.specs.declared.columns.Class.TheVariants as class

-- The place of a class: direct blocking stands first, then indirect blocking, then preemption blocking.
abbrev pub class_rank : Class → ℕ
class_rank class.Direct = 0
class_rank class.Indirect = 1
class_rank class.Preemption = 2

-- Which of two classes stands first?
abbrev pub class_cmp : Class → Class → Ordering
class_cmp a b = nat_cmp (class_rank a) (class_rank b)
