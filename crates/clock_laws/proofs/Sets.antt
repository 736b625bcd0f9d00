-- A set in cycles has the same tasks on the same processors, with the same users of each resource. Each of its numbers of ticks is
-- multiplied by k.
use Rattle.std.proofs.Common.{◌≡◌, ◌∙◌, ℕ, zero, suc, ◌*◌, List, [], ◌∷◌, map, length, refl, sym, Option, None, Some}
use Rattle.std.proofs.Common.{option_map, ◌==◌, ◌&&◌, not, nat_lt}
use Rattle.std.specs.Prelude.{slice_index_or, find, unwrap_or}
use Rattle.std.specs.Option.{option_map_or, option_or}
use Rattle.std.specs.Str.{bytes_eq}
use Rattle.std.proofs.Math.Nat.{mul-zero}
use Rattle.std.proofs.lemmas.List.{length-map}
use Rattle.sporadic_model.specs.SetDef.{SetDef, TaskDef, RequestDef, no_task, task_at, resource_at, is_higher_local}
use Rattle.sporadic_model.specs.Users.{numbers, entry_of, count_of, length_of, is_user, is_remote_user, ceiling_of, remote_ceiling_of}
use Rattle.sporadic_model.proofs.Mapped.{find-map}
use Rattle.blocking_columns.specs.Ceilings.{ceiling_rank, remote_ceiling_rank}
use Rattle.blocking_columns.specs.Columns.{have_one_processor, is_lower_local}
use Rattle.clock_laws.specs.Cycles.{request_in_cycles, task_in_cycles, in_cycles}
use Rattle.clock_laws.proofs.Scaled.{swapped}

tasks_of : ℕ → TaskDef
tasks_of z = record { name = []; processor = 0; period = z; deadline = z; cost = z; local = z; jitter = z; requests = [] }

nothing_in : (k : ℕ) → task_in_cycles k no_task ≡ no_task
unfolding tasks_of
nothing_in k = λ j. tasks_of (mul-zero k j)

listed_in : (k : ℕ) (ts : List TaskDef) (x : ℕ) → slice_index_or (map (task_in_cycles k) ts) x no_task ≡ task_in_cycles k (slice_index_or ts x no_task)
listed_in k [] x = sym (nothing_in k)
listed_in k (t ∷ ts) zero = refl
listed_in k (t ∷ ts) (suc x) = listed_in k ts x

pub task_in : (k : ℕ) (set : SetDef) (x : ℕ) → task_at (in_cycles k set) x ≡ task_in_cycles k (task_at set x)
task_in k set x = listed_in k set.tasks x

pub tasks_in : (k : ℕ) (set : SetDef) → length (in_cycles k set).tasks ≡ length set.tasks
tasks_in k set = length-map set.tasks (task_in_cycles k)

pub processor_in : (k : ℕ) (set : SetDef) (x : ℕ) → (task_at (in_cycles k set) x).processor ≡ (task_at set x).processor
processor_in k set x = λ j. (task_in k set x j).processor

pub period_in : (k : ℕ) (set : SetDef) (x : ℕ) → (task_at (in_cycles k set) x).period ≡ k * (task_at set x).period
period_in k set x = λ j. (task_in k set x j).period

pub deadline_in : (k : ℕ) (set : SetDef) (x : ℕ) → (task_at (in_cycles k set) x).deadline ≡ k * (task_at set x).deadline
deadline_in k set x = λ j. (task_in k set x j).deadline

pub cost_in : (k : ℕ) (set : SetDef) (x : ℕ) → (task_at (in_cycles k set) x).cost ≡ k * (task_at set x).cost
cost_in k set x = λ j. (task_in k set x j).cost

pub local_in : (k : ℕ) (set : SetDef) (x : ℕ) → (task_at (in_cycles k set) x).local ≡ k * (task_at set x).local
local_in k set x = λ j. (task_in k set x j).local

pub jitter_in : (k : ℕ) (set : SetDef) (x : ℕ) → (task_at (in_cycles k set) x).jitter ≡ k * (task_at set x).jitter
jitter_in k set x = λ j. (task_in k set x j).jitter

-- The entry of a task for a resource is the same one, put in cycles.
entry_in : (k : ℕ) (set : SetDef) (x q : ℕ) → entry_of (in_cycles k set) x q ≡ option_map (request_in_cycles k) (entry_of set x q)
entry_in k set x q = (λ j. find (λ e. bytes_eq e.resource (resource_at set q).name) (task_in k set x j).requests)
    ∙ find-map (request_in_cycles k) (λ e. bytes_eq e.resource (resource_at set q).name) (task_at set x).requests

same_count : (k : ℕ) (o : Option RequestDef) → option_map_or (λ e. e.count) (option_map (request_in_cycles k) o) 0
    ≡ option_map_or (λ e. e.count) o 0
same_count k None = refl
same_count k (Some e) = refl

times_length : (k : ℕ) (o : Option RequestDef) → option_map_or (λ e. e.length) (option_map (request_in_cycles k) o) 0
    ≡ k * option_map_or (λ e. e.length) o 0
times_length k None = sym (mul-zero k)
times_length k (Some e) = refl

pub count_in : (k : ℕ) (set : SetDef) (x q : ℕ) → count_of (in_cycles k set) x q ≡ count_of set x q
count_in k set x q = (λ j. option_map_or (λ e. e.count) (entry_in k set x q j) 0) ∙ same_count k (entry_of set x q)

pub length_in : (k : ℕ) (set : SetDef) (x q : ℕ) → length_of (in_cycles k set) x q ≡ k * length_of set x q
length_in k set x q = (λ j. option_map_or (λ e. e.length) (entry_in k set x q j) 0) ∙ times_length k (entry_of set x q)

pub request_ticks_in : (k : ℕ) (set : SetDef) (x q : ℕ)
    → count_of (in_cycles k set) x q * length_of (in_cycles k set) x q ≡ k * (count_of set x q * length_of set x q)
request_ticks_in k set x q = (λ j. count_in k set x q j * length_in k set x q j) ∙ swapped k (count_of set x q) (length_of set x q)

-- So each test that depends on no number of ticks is the same.
pub users_in : (k : ℕ) (set : SetDef) → is_user (in_cycles k set) ≡ is_user set
users_in k set = λ j q x. nat_lt 0 (count_in k set x q j)

pub one_processor_in : (k : ℕ) (set : SetDef) → have_one_processor (in_cycles k set) ≡ have_one_processor set
one_processor_in k set = λ j x y. processor_in k set x j == processor_in k set y j

pub higher_in : (k : ℕ) (set : SetDef) → is_higher_local (in_cycles k set) ≡ is_higher_local set
higher_in k set = λ j i h. nat_lt h i && (processor_in k set h j == processor_in k set i j)

pub lower_in : (k : ℕ) (set : SetDef) → is_lower_local (in_cycles k set) ≡ is_lower_local set
lower_in k set = λ j i x. nat_lt i x && one_processor_in k set j x i

ceiling_in : (k : ℕ) (set : SetDef) → ceiling_of (in_cycles k set) ≡ ceiling_of set
ceiling_in k set = λ j q. find (users_in k set j q) (numbers (tasks_in k set j))

remote_users_in : (k : ℕ) (set : SetDef) → is_remote_user (in_cycles k set) ≡ is_remote_user set
remote_users_in k set = λ j q m x. users_in k set j q x && not (processor_in k set x j == m)

remote_ceiling_in : (k : ℕ) (set : SetDef) → remote_ceiling_of (in_cycles k set) ≡ remote_ceiling_of set
remote_ceiling_in k set = λ j q m. option_or (find (remote_users_in k set j q m) (numbers (tasks_in k set j))) (ceiling_in k set j q)

pub rank_in : (k : ℕ) (set : SetDef) → ceiling_rank (in_cycles k set) ≡ ceiling_rank set
rank_in k set = λ j q. unwrap_or (ceiling_in k set j q) (tasks_in k set j)

pub remote_rank_in : (k : ℕ) (set : SetDef) → remote_ceiling_rank (in_cycles k set) ≡ remote_ceiling_rank set
remote_rank_in k set = λ j q m. unwrap_or (remote_ceiling_in k set j q m) (tasks_in k set j)
