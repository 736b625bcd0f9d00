-- The resources by which requests of another task can block indirectly, before the requests' own resource is looked at.
use Rattle.std.specs.Prelude.{◌≡◌, ℕ, ◌+◌, ◌-◌, ◌<◌, ◌≤◌, ◌==◌, ◌&&◌, ◌||◌, not, true, if◌then◌else◌, Bool, List, [], ◌∷◌, length}
use Rattle.std.specs.Prelude.{slice_index, take, drop}
use Rattle.std.specs.List.{All, list_any, filter}
use Rattle.number_laws.specs.Tests.{any_below}
use Rattle.sporadic_model.specs.SetDef.{SetDef, task_at, is_higher_local}
use Rattle.sporadic_model.specs.Users.{is_user}
use Rattle.sporadic_model.specs.declared.ids.Protocol.{Protocol}
use Rattle.sporadic_model.specs.declared.ids.Protocol.TheVariants as protocol
use Rattle.sporadic_model.specs.declared.ids.TaskId.{TaskId}
use Rattle.sporadic_model.specs.declared.ids.ResourceId.{ResourceId}
use Rattle.blocking_columns.specs.Ceilings.{place_in}
use Rattle.blocking_columns.specs.declared.linking.Rival.{Rival}
use Rattle.blocking_columns.specs.Columns.{have_one_processor}

-- Does a task beside x, neither x nor i, use resource r?
abbrev pub is_used_beside : SetDef → ℕ → ℕ → ℕ → Bool
is_used_beside set i x r = any_below (length set.tasks)
    (λ y. (have_one_processor set y x && (not (y == x) && not (y == i))) && is_user set r y)

-- Can requests by x block i indirectly by resource r? Only one that i uses, and under MPCP and FMLP+ a task beside x too.
abbrev pub is_link : Protocol → SetDef → ℕ → ℕ → ℕ → Bool
is_link protocol.Mpcp set i x r = is_user set r i && is_used_beside set i x r
is_link protocol.FmlpPlus set i x r = is_user set r i && is_used_beside set i x r
is_link protocol.Dpcp set i x r = is_user set r i

-- For each task x on processor k, are the resources of the rivals but x those by which requests by x can block i indirectly?
abbrev pub AreLinks : Protocol → SetDef → ℕ → ℕ → List Rival → Type 0
AreLinks p set i k links = (x : ℕ) → k ≡ (task_at set x).processor → (test : ℕ → Bool)
    → list_any (λ e. not (e.task.0 == x) && test e.resource.0) links
    ≡ any_below (length set.resources) (λ r. is_link p set i x r && test r)

-- Under MPCP and FMLP+, may requests by x be columns of i? Those of i and of higher tasks beside it never are.
abbrev pub may_have_columns : SetDef → ℕ → ℕ → Bool
may_have_columns set i x = not (x == i) && not (is_higher_local set i x)

-- Is i a task of the set, under MPCP or FMLP+?
pub record IsTaskUnderSharing (p : Protocol) (set : SetDef) (i : ℕ) : Type 0 where
  pub sharing : p ≡ protocol.Dpcp → ⊥
  pub task : i < length set.tasks

-- Does another task y than i use resource r, which i uses too?
abbrev pub is_rival : SetDef → ℕ → ℕ → ℕ → Bool
is_rival set i y r = not (y == i) && (is_user set r i && is_user set r y)

-- Are these the tasks that do, each with its resource?
abbrev pub AreRivals : SetDef → ℕ → List Rival → Type 0
AreRivals set i rivals = (test : ℕ → ℕ → Bool) → list_any (λ e. test e.task.0 e.resource.0) rivals
    ≡ any_below (length set.resources) (λ r. any_below (length set.tasks) (λ y. is_rival set i y r && test y r))

-- Does another task than i use resource r, and pass the test with it?
abbrev pub passes_another : SetDef → ℕ → (ℕ → ℕ → Bool) → ℕ → Bool
passes_another set i test r = any_below (length set.tasks) (λ y. is_user set r y && (not (y == i) && test y r))

-- Are these the other tasks than i that use one of the resources, each with it?
abbrev pub AreRivalsOf : SetDef → ℕ → List ResourceId → List Rival → Type 0
AreRivalsOf set i resources rivals = (test : ℕ → ℕ → Bool) → list_any (λ e. test e.task.0 e.resource.0) rivals
    ≡ list_any (λ r. passes_another set i test r.0) resources

-- Are these the other tasks than i that use resource r, besides those that were there before?
abbrev pub AreRivalsAt : SetDef → ℕ → ℕ → List Rival → List Rival → Type 0
AreRivalsAt set i r before now = (test : ℕ → ℕ → Bool) → list_any (λ e. test e.task.0 e.resource.0) now
    ≡ (list_any (λ e. test e.task.0 e.resource.0) before || passes_another set i test r)

-- Are these the other tasks than i of the list, each with resource r, besides those that were there before?
abbrev pub AreRivalsAmong : ℕ → ℕ → List TaskId → List Rival → List Rival → Type 0
AreRivalsAmong i r tasks before now = (test : ℕ → ℕ → Bool) → list_any (λ e. test e.task.0 e.resource.0) now
    ≡ (list_any (λ e. test e.task.0 e.resource.0) before || list_any (λ y. not (y.0 == i) && test y.0 r) tasks)

-- A task with a resource that it uses. And this alone in a list, if the task is another one than i.
abbrev pub rival_at : Protocol → SetDef → TaskId → ResourceId → Rival
rival_at p set y r = record {
  task = y;
  resource = r;
  processor = (task_at set y.0).processor;
  place = place_in p set (task_at set y.0).processor r.0;
}

abbrev pub rival_if_other : Protocol → SetDef → ℕ → TaskId → ResourceId → List Rival
rival_if_other p set i y r = if not (y.0 == i) then rival_at p set y r ∷ [] else []

-- Is it a task of the set, with its processor, and with the place of the resource's ceiling as that processor sees it?
abbrev pub IsKnownRival : Protocol → SetDef → Rival → Type 0
IsKnownRival p set e = (e.task.0 < length set.tasks) × (e.processor ≡ (task_at set e.task.0).processor)
    × (e.place ≡ place_in p set (task_at set e.task.0).processor e.resource.0)

-- Are they all?
abbrev pub AreKnownRivals : Protocol → SetDef → List Rival → Type 0
AreKnownRivals p set rivals = All (IsKnownRival p set) rivals

-- Are they the tasks other than i that use a resource which i uses too, as such rivals?
pub record AreAllRivals (p : Protocol) (set : SetDef) (i : ℕ) (rivals : List Rival) : Type 0 where
  pub are : AreRivals set i rivals
  pub known : AreKnownRivals p set rivals

-- Are they such rivals, and are those of resource r there, besides those that were there before?
pub record AreKnownRivalsAt (p : Protocol) (set : SetDef) (i r : ℕ) (before now : List Rival) : Type 0 where
  pub users : AreRivalsAt set i r before now
  pub known : AreKnownRivals p set now

-- Has each the place of its resource's ceiling as processor k sees it?
abbrev pub AreSeenFrom : Protocol → SetDef → ℕ → List Rival → Type 0
AreSeenFrom p set k links = All (λ e. e.place ≡ place_in p set k e.resource.0) links

-- Is the task y beside x, and not x?
abbrev pub is_beside : SetDef → ℕ → ℕ → Bool
is_beside set x y = have_one_processor set y x && not (y == x)

-- Is it a rival on processor k?
abbrev pub is_at : ℕ → Rival → Bool
is_at k e = e.processor == k

-- Are i and x tasks of the set, and are these the rivals on x's processor, as it sees them?
pub record AreLinksTo (p : Protocol) (set : SetDef) (i x : ℕ) (rivals : List Rival) : Type 0 where
  pub task : i < length set.tasks
  pub other : x < length set.tasks
  pub links : AreLinks p set i (task_at set x).processor rivals
  pub seen : AreSeenFrom p set (task_at set x).processor rivals

-- Under MPCP or FMLP+, are they so of a task x whose requests may be columns of i?
pub record AreLinksOfColumns (p : Protocol) (set : SetDef) (i x : ℕ) (rivals : List Rival) : Type 0 where
  pub sharing : p ≡ protocol.Dpcp → ⊥
  pub to : AreLinksTo p set i x rivals
  pub blocks : may_have_columns set i x ≡ true

-- The rivals of processor k, where those of each processor begin at its place.
abbrev pub part_at : List Rival → List ℕ → ℕ → List Rival
part_at parted begins k = take (slice_index begins (k + 1) - slice_index begins k) (drop (slice_index begins k) parted)

-- Has processor k a part of them?
pub record HasPart (parted : List Rival) (begins : List ℕ) (k : ℕ) : Type 0 where
  pub listed : k + 1 < length begins
  pub order : slice_index begins k ≤ slice_index begins (k + 1)
  pub within : slice_index begins (k + 1) ≤ length parted

-- Are the rivals of each processor below m there, those of one behind those of another?
pub record AreParted (m : ℕ) (rivals parted : List Rival) (begins : List ℕ) : Type 0 where
  pub size : length begins ≡ m + 1
  pub last : slice_index begins m ≡ length parted
  pub order : (k : ℕ) → k < m → slice_index begins k ≤ slice_index begins (k + 1)
  pub within : (k : ℕ) → k < m → slice_index begins (k + 1) ≤ length parted
  pub parts : (k : ℕ) → k < m → part_at parted begins k ≡ filter (is_at k) rivals

-- Are the rivals of each processor those by whose resources requests of its tasks can block i indirectly?
pub record HaveLinks (p : Protocol) (set : SetDef) (i : ℕ) (parted : List Rival) (begins : List ℕ) : Type 0 where
  pub size : length begins ≡ set.processors + 2
  pub order : (k : ℕ) → k ≤ set.processors → slice_index begins k ≤ slice_index begins (k + 1)
  pub within : (k : ℕ) → k ≤ set.processors → slice_index begins (k + 1) ≤ length parted
  pub links : (k : ℕ) → k ≤ set.processors → AreLinks p set i k (part_at parted begins k)
  pub seen : (k : ℕ) → k ≤ set.processors → AreSeenFrom p set k (part_at parted begins k)
