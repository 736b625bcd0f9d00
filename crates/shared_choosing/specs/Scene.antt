-- What the choice of a row depends on: the active jobs, what they do next, which job held which resource, and the orders of grants and runs
-- as numbers of jobs.
use Rattle.std.specs.Prelude.{◌≡◌, ℕ, ◌<◌, ◌==◌, ◌&&◌, ◌||◌, not, Bool, true, nat_lt, if◌then◌else◌, Option, None, Some}
use Rattle.std.specs.Prelude.{length, List, [], slice_index_or}
use Rattle.schedule_model.specs.RowDef.{Trace, is_job, running_on, held_before}
use Rattle.schedule_model.specs.Phase.{Phase, is_local, is_asking, phase_of}
use Rattle.schedule_model.specs.Phase.Phase.{Asking}
use Rattle.schedule_model.specs.Activity.{task_of, processor_of, is_active, holds_by}
use Rattle.schedule_model.specs.SharedRules.{Ranks}
use Rattle.phase_machine.specs.MachineDef.{MachineDef, task_in}
use Rattle.phase_machine.specs.Now.{phase_now, active_now, holder_now, processor_now}

pub record Scene : Type 0 where
  pub tasks : ℕ
  pub active : ℕ → Bool
  pub task : ℕ → ℕ
  pub processor : ℕ → ℕ
  pub phase : ℕ → Phase
  pub before : ℕ → Option ℕ
  pub grant : ℕ → ℕ
  pub run : ℕ → ℕ

-- The scene of a machine whose jobs run on these processors; the same if each runs on its task's processor; and the scene at a tick of a
-- schedule.
abbrev pub scene_in : (ℕ → ℕ) → (ℕ → ℕ) → (ℕ → ℕ) → MachineDef → Scene
scene_in column grant run m = record {
  tasks = length m.list.set.tasks;
  active = active_now m;
  task = task_in m.list.jobs;
  processor = column;
  phase = phase_now m;
  before = holder_now m;
  grant = grant;
  run = run;
}

abbrev pub scene_now : (ℕ → ℕ) → (ℕ → ℕ) → MachineDef → Scene
scene_now grant run m = scene_in (processor_now m) grant run m

abbrev pub scene_at : Ranks → Trace → ℕ → Scene
scene_at o w t = record {
  tasks = length w.set.tasks;
  active = is_active w t;
  task = task_of w;
  processor = processor_of w;
  phase = phase_of w t;
  before = held_before w t;
  grant = o.grant w t;
  run = o.run w t;
}

-- Is job j active and in a request of q? With these holders, does it hold the resource that it requests? And is it ready?
abbrev pub requests : Scene → ℕ → ℕ → Bool
requests s q j = s.active j && is_asking q (s.phase j)

abbrev pub holds : Scene → (ℕ → Option ℕ) → ℕ → Bool
holds s held j = holds_by held j (s.phase j)

abbrev pub may_run : Scene → (ℕ → Option ℕ) → ℕ → Bool
may_run s held j = is_local (s.phase j) || holds s held j

-- Is this the active job of task x, if it has one?
abbrev pub IsActiveJob : Scene → ℕ → Option ℕ → Type 0
IsActiveJob s x None = (i : ℕ) → s.active i ≡ true → s.task i ≡ x → ⊥
IsActiveJob s x (Some j) = (s.active j ≡ true) × (s.task j ≡ x) × ((i : ℕ) → s.active i ≡ true → s.task i ≡ x → i ≡ j)

-- Does the holder of q give way to job j? It does if there is none, or if it is new and goes later.
abbrev pub gives_way : Scene → ℕ → ℕ → Option ℕ → Bool
gives_way s q j None = true
gives_way s q j (Some h) = not (is_job h (s.before q)) && nat_lt (s.grant j) (s.grant h)

-- Which job holds q after job j has asked, if o held it before?
abbrev pub takes : Scene → ℕ → ℕ → Option ℕ → Bool
takes s q j o = is_asking q (s.phase j) && gives_way s q j o

abbrev pub asked : Scene → ℕ → ℕ → Option ℕ → Option ℕ
asked s j q o = if takes s q j o then Some j else o

-- Which job holds q before any job has asked? The last row's holder, if it still requests q.
abbrev pub stays : (ℕ → Bool) → Option ℕ → Option ℕ
stays asks None = None
stays asks (Some j) = if asks j then Some j else None

abbrev pub kept : Scene → ℕ → Option ℕ
kept s q = stays (requests s q) (s.before q)

-- Does what runs give way to job j? It does if nothing runs, or if the running job goes later. Holders go before Local jobs.
abbrev pub is_outrun : Scene → (ℕ → Option ℕ) → ℕ → Option ℕ → Bool
is_outrun s held j None = true
is_outrun s held j (Some r) = holds s held j && (not (holds s held r) || nat_lt (s.run j) (s.run r))

-- What runs on processor k after job j has come, if o ran there before?
abbrev pub enters : Scene → (ℕ → Option ℕ) → ℕ → ℕ → Option ℕ → Bool
enters s held j k o = (s.processor j == k) && (may_run s held j && is_outrun s held j o)

abbrev pub entered : Scene → (ℕ → Option ℕ) → ℕ → ℕ → Option ℕ → Option ℕ
entered s held j k o = if enters s held j k o then Some j else o

-- Which job is named at a place of a row, and which on processor k?
abbrev pub place_in : List (Option ℕ) → ℕ → Option ℕ
place_in places i = slice_index_or places i None

abbrev pub running_in : List (Option ℕ) → ℕ → Option ℕ
running_in running k = running_on (record { running = running; holders = [] }) k

-- Do the places name only jobs below n?
abbrev pub NamesBelow : ℕ → List (Option ℕ) → Type 0
NamesBelow n places = (i j : ℕ) → slice_index_or places i None ≡ Some j → j < n

-- Which resource is requested in this phase?
abbrev pub resource_in : Phase → Option ℕ
resource_in (Asking n q) = Some q
resource_in _ = None
