-- The columns of a task don't change when its set is put in cycles. They depend on processors, homes, users and ceilings.
use Rattle.std.proofs.Common.{◌≡◌, ℕ, Bool, length, refl, ◌==◌, ◌&&◌, ◌||◌, not, nat_lt, nat_le}
use Rattle.std.specs.List.{filter}
use Rattle.number_laws.specs.Tests.{any_below}
use Rattle.sporadic_model.specs.SetDef.{SetDef}
use Rattle.sporadic_model.specs.Homes.{home_in}
use Rattle.sporadic_model.specs.declared.ids.Protocol.{Protocol}
use Rattle.sporadic_model.specs.declared.ids.Protocol.TheVariants as protocol
use Rattle.blocking_columns.specs.declared.columns.Class.{Class}
use Rattle.blocking_columns.specs.declared.columns.Class.TheVariants as class
use Rattle.blocking_columns.specs.ColumnDef.{all_columns, is_class}
use Rattle.blocking_columns.specs.Columns.{may_run_before, is_path, has_path, requests_beside, blocks_by_sharing, blocks_at_home}
use Rattle.blocking_columns.specs.Columns.{may_block, columns_by, columns_of}
use Rattle.clock_laws.specs.Cycles.{in_cycles}
use Rattle.clock_laws.proofs.Sets.{tasks_in, processor_in, users_in, one_processor_in, higher_in, lower_in, rank_in, remote_rank_in}

-- What may block a task in ticks may block it in cycles, and the other way round. So the columns are the same.
pub columns_same : (k : ℕ) (set : SetDef) (i : ℕ) (fine coarse : ℕ → ℕ → Class → Bool)
    → ((x q : ℕ) (c : Class) → fine x q c ≡ coarse x q c) → columns_by fine (in_cycles k set) i ≡ columns_by coarse set i
columns_same k set i fine coarse same = λ j. filter
    (λ c. (not (c.task == i) && users_in k set j c.resource c.task) && same c.task c.resource c.class j)
    (all_columns (tasks_in k set j) (length set.resources))

pub run_before_in : (p : Protocol) (k : ℕ) (set : SetDef) → may_run_before p (in_cycles k set) ≡ may_run_before p set
run_before_in protocol.Mpcp k set = λ j m q r. nat_le (remote_rank_in k set j q m) (remote_rank_in k set j r m)
run_before_in protocol.FmlpPlus k set = refl
run_before_in protocol.Dpcp k set = refl

path_in : (p : Protocol) (k : ℕ) (set : SetDef) → is_path p (in_cycles k set) ≡ is_path p set
path_in p k set = λ j i x q y r. (one_processor_in k set j y x && (not (y == x) && not (y == i)))
    && ((not (r == q) && (users_in k set j r i && users_in k set j r y)) && run_before_in p k set j (processor_in k set x j) q r)

paths_in : (p : Protocol) (k : ℕ) (set : SetDef) → has_path p (in_cycles k set) ≡ has_path p set
paths_in p k set = λ j i x q.
    any_below (tasks_in k set j) (λ y. any_below (length set.resources) (λ r. path_in p k set j i x q y r))

beside_in : (k : ℕ) (set : SetDef) → requests_beside (in_cycles k set) ≡ requests_beside set
beside_in k set = λ j i q.
    any_below (length set.resources) (λ r. not (r == q) && (users_in k set j r i && (home_in set r == home_in set q)))

sharing_in : (p : Protocol) (k : ℕ) (set : SetDef) (i x q : ℕ) (c : Class)
    → blocks_by_sharing p (in_cycles k set) i x q c ≡ blocks_by_sharing p set i x q c
sharing_in p k set i x q class.Direct = λ j. users_in k set j q i
sharing_in p k set i x q class.Indirect = λ j. paths_in p k set j i x q
sharing_in p k set i x q class.Preemption = λ j. lower_in k set j i x

pub at_home_in : (k : ℕ) (set : SetDef) (i q : ℕ) (c : Class) → blocks_at_home (in_cycles k set) i q c ≡ blocks_at_home set i q c
at_home_in k set i q class.Direct = λ j. users_in k set j q i
at_home_in k set i q class.Indirect = λ j. beside_in k set j i q
at_home_in k set i q class.Preemption = λ j. home_in set q == processor_in k set i j

blocking_in : (p : Protocol) (k : ℕ) (set : SetDef) (i x q : ℕ) (c : Class)
    → may_block p (in_cycles k set) i x q c ≡ may_block p set i x q c
blocking_in protocol.Mpcp k set i x q c = λ j. not (higher_in k set j i x) && sharing_in protocol.Mpcp k set i x q c j
blocking_in protocol.FmlpPlus k set i x q c = λ j. not (higher_in k set j i x) && sharing_in protocol.FmlpPlus k set i x q c j
blocking_in protocol.Dpcp k set i x q c =
    λ j. (not (is_class class.Indirect c && nat_lt i x) || nat_le (rank_in k set j q) i) && at_home_in k set i q c j

pub columns_scaled : (p : Protocol) (k : ℕ) (set : SetDef) (i : ℕ) → columns_of p (in_cycles k set) i ≡ columns_of p set i
columns_scaled p k set i = columns_same k set i (may_block p (in_cycles k set) i) (may_block p set i) (blocking_in p k set i)
