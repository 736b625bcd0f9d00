-- What the tables of a set say, in terms of its definitions.
use Rattle.std.proofs.Common.{◌≡◌, ℕ, ◌+◌, ◌<◌, ◌≤◌, not, ◌==◌, List, [], length, map, ap, subst, sym, ◌∙◌, refl, arith}
use Rattle.std.proofs.Common.{Bool, Option, Some, None, nat_lt, IfSome, IfNone}
use Rattle.std.specs.List.{slice_index_or, find, filter}
use Rattle.std.specs.Option.{option_map, option_or}
use Rattle.std.specs.Str.{bytes_eq}
use Rattle.std.proofs.lemmas.List.{length-map}
use Rattle.sporadic_model.specs.SetDef.{SetDef, RequestDef, task_at, resource_at, no_task, no_resource}
use Rattle.sporadic_model.specs.Users.{numbers, entry_of, is_user, is_remote_user, users_of, ceiling_of, remote_ceiling_of}
use Rattle.sporadic_model.specs.Accepted.{IsAccepted, TaskNumbers, EntryNumbers, IsHighestUser, HasNoUser, IsBoost}
use Rattle.sporadic_model.specs.Demands.{demand_by, demand_for, demands_in, demand_in, no_demand, IsDemand, AreBoosts, boosts_on}
use Rattle.sporadic_model.specs.declared.ids.TaskId.{TaskId}
use Rattle.sporadic_model.specs.declared.demands.Demand.{Demand}
use Rattle.sporadic_model.proofs.Mapped.{element-map}
use Rattle.sporadic_model.proofs.Filtered.{find_filter, kept_long, kept_at, HasIds, has_ids}
use Rattle.sporadic_model.proofs.Laws.{numbers_of_accepted, entry_of_accepted, highest_user, no_user, boost_of_found}
use Rattle.sporadic_model.proofs.Laws.{no_user_found, boost_is_task}

-- There is a row for each task, and in it a demand for each resource.
pub rows_kept : (set : SetDef) (rows : List (List Demand)) → rows ≡ demands_in set → length rows ≡ length set.tasks
rows_kept set rows e = ap length e ∙ length-map set.tasks (λ task. map (demand_for task) set.resources)

pub row_kept : (set : SetDef) (rows : List (List Demand)) (x : ℕ) → rows ≡ demands_in set → x < length set.tasks
    → slice_index_or rows x [] ≡ map (demand_for (task_at set x)) set.resources
row_kept set rows x e h = ap (λ l. slice_index_or l x []) e
    ∙ element-map (λ task. map (demand_for task) set.resources) set.tasks x no_task [] h

pub row_length : (set : SetDef) (rows : List (List Demand)) (x : ℕ) → rows ≡ demands_in set → x < length set.tasks
    → length (slice_index_or rows x []) ≡ length set.resources
row_length set rows x e h = ap length (row_kept set rows x e h) ∙ length-map set.resources (demand_for (task_at set x))

-- The demand kept for task x and resource q is what the task may ask of the resource.
pub demand_kept : (set : SetDef) (rows : List (List Demand)) (x q : ℕ) → rows ≡ demands_in set → x < length set.tasks
    → q < length set.resources → demand_in rows x q ≡ demand_for (task_at set x) (resource_at set q)
demand_kept set rows x q e h i =
    ap (λ l. slice_index_or l q no_demand) (row_kept set rows x e h)
    ∙ element-map (demand_for (task_at set x)) set.resources q no_resource no_demand i

-- The count of what is kept tells whether the task uses the resource.
pub user_kept : (set : SetDef) (rows : List (List Demand)) (x q : ℕ) → rows ≡ demands_in set → x < length set.tasks
    → q < length set.resources → nat_lt 0 (demand_in rows x q).count ≡ is_user set q x
user_kept set rows x q e h i = ap (λ d. nat_lt 0 d.count) (demand_kept set rows x q e h i)

pub demand_of_entry : (set : SetDef) (x : ℕ) (entry : Option RequestDef) → TaskNumbers set x
    → ((e : RequestDef) → entry ≡ Some e → EntryNumbers set x e) → IsDemand set x (demand_by entry)
demand_of_entry set x None task each = record {
  count_to = omega arith;
  length_to = omega (arith, task.cost_from);
  length_from = λ h. absurd (omega arith);
}
demand_of_entry set x (Some e) task each =
    let here = each e refl in
    record { count_to = here.count_to; length_to = here.length_to; length_from = λ h. here.length_from }

pub demand_ranges : (set : SetDef) (x q : ℕ) → IsAccepted set → x < length set.tasks
    → IsDemand set x (demand_for (task_at set x) (resource_at set q))
demand_ranges set x q accepted h =
    demand_of_entry set x (entry_of set x q) (numbers_of_accepted set x accepted h)
    (λ e found. entry_of_accepted set x (λ d. bytes_eq d.resource (resource_at set q).name) e accepted h found)

-- The ceiling that is kept for a resource is its highest user, or none if it has no user.
pub ceiling_highest : (set : SetDef) (q : ℕ) (kept : Option TaskId) → option_map (λ x. x.0) kept ≡ ceiling_of set q
    → IfSome kept (λ x. IsHighestUser set q x.0)
ceiling_highest set q None e = tt
ceiling_highest set q (Some x) e = highest_user set q x.0 (sym e)

pub ceiling_none : (set : SetDef) (q : ℕ) (kept : Option TaskId) → option_map (λ x. x.0) kept ≡ ceiling_of set q
    → IfNone kept (HasNoUser set q)
ceiling_none set q None e = no_user set q (sym e)
ceiling_none set q (Some x) e = tt

-- The first of the users that isn't on processor k, or if there is none the first of all, is the ceiling as k sees it.
pub ceiling_seen : (set : SetDef) (q k : ℕ) (users : List TaskId) (found : Option TaskId) → map (λ x. x.0) users ≡ users_of set q
    → option_map (λ x. x.0) found ≡ find (λ x. not ((task_at set x).processor == k)) (map (λ x. x.0) users)
    → option_or (option_map (λ x. x.0) found) (ceiling_of set q) ≡ remote_ceiling_of set q k
ceiling_seen set q k users found listed first =
    ap (λ o. option_or o (ceiling_of set q)) (first ∙ ap (find (λ x. not ((task_at set x).processor == k))) listed
    ∙ sym (find_filter (is_user set q) (λ x. not ((task_at set x).processor == k)) (numbers (length set.tasks))))

-- What is kept as the ceiling that a processor sees is the boost of a resource there, or none if it has no user.
pub boost_highest : (set : SetDef) (q k : ℕ) (kept : Option TaskId) → option_map (λ x. x.0) kept ≡ remote_ceiling_of set q k
    → IfSome kept (λ x. IsBoost set q k x.0)
boost_highest set q k None e = tt
boost_highest set q k (Some x) e =
    boost_of_found set q k x.0 (find (is_remote_user set q k) (numbers (length set.tasks))) refl (sym e)

pub boost_within : (set : SetDef) (q k : ℕ) (kept : Option TaskId) → option_map (λ x. x.0) kept ≡ remote_ceiling_of set q k
    → IfSome kept (λ x. x.0 < length set.tasks)
boost_within set q k None e = tt
boost_within set q k (Some x) e = boost_is_task set q k x.0 (boost_highest set q k (Some x) e)

pub boost_none : (set : SetDef) (q k : ℕ) (kept : Option TaskId) → option_map (λ x. x.0) kept ≡ remote_ceiling_of set q k
    → IfNone kept (HasNoUser set q)
boost_none set q k None e = no_user_found set q (find (is_remote_user set q k) (numbers (length set.tasks))) (sym e)
boost_none set q k (Some x) e = tt

-- What a set keeps in lists of ids, one for each of `long set` numbers, says at number x which of `most set` numbers pass its test. The
-- set and the lists are those that a contract sees.
pub ids_kept : {A V : Type 0} (items : V → List A) (id : A → ℕ) (test : SetDef → ℕ → ℕ → Bool) (most long : SetDef → ℕ) (x : ℕ)
    (kept set : SetDef) (held rows : List V) → kept ≡ set → rows ≡ held
    → map (map id) (map items held) ≡ map (λ k. filter (test kept k) (numbers (most kept))) (numbers (long kept)) → x < long set
    → HasIds items id (test set x) (most set) x rows
ids_kept items id test most long x kept set held rows same moved are h =
    has_ids items id (test set) (most set) (long set) x rows (ap (λ l. map (map id) (map items l)) moved
    ∙ subst (λ s. map (map id) (map items held) ≡ map (λ k. filter (test s k) (numbers (most s))) (numbers (long s))) same are) h

-- The row kept for processor k has an entry for each resource.
pub boosts_row : (set : SetDef) (rows : List (List (Option TaskId))) (k : ℕ) → AreBoosts set rows → k ≤ set.processors
    → map (option_map (λ (x : TaskId). x.0)) (slice_index_or rows k []) ≡ boosts_on set k
boosts_row set rows k kept h =
    kept_at (map (option_map (λ (x : TaskId). x.0))) (boosts_on set) rows (set.processors + 1) k [] kept (omega arith)

pub boosts_row_long : (set : SetDef) (rows : List (List (Option TaskId))) (k : ℕ) → AreBoosts set rows → k ≤ set.processors
    → length (slice_index_or rows k []) ≡ length set.resources
boosts_row_long set rows k kept h =
    kept_long (option_map (λ (x : TaskId). x.0)) (λ q. remote_ceiling_of set q k) (slice_index_or rows k []) (length set.resources)
    (boosts_row set rows k kept h)

pub boost_kept : (set : SetDef) (rows : List (List (Option TaskId))) (k q : ℕ) → AreBoosts set rows → k ≤ set.processors
    → q < length set.resources
    → option_map (λ (x : TaskId). x.0) (slice_index_or (slice_index_or rows k []) q None) ≡ remote_ceiling_of set q k
boost_kept set rows k q kept h i =
    kept_at (option_map (λ (x : TaskId). x.0)) (λ r. remote_ceiling_of set r k) (slice_index_or rows k []) (length set.resources) q None
    (boosts_row set rows k kept h) i
