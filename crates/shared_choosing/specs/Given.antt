-- What the functions of the choice are given, and what they do to the places of a row.
use Rattle.std.specs.Prelude.{◌≡◌, ℕ, ◌<◌, ◌≤◌, ◌&&◌, if◌then◌else◌, Bool, List, length, map, Option, Some, None, IfSome}
use Rattle.std.specs.Option.{option_map}
use Rattle.sporadic_model.specs.declared.ids.ResourceId.{ResourceId}
use Rattle.schedule_model.specs.declared.job.JobId.{JobId}
use Rattle.schedule_model.specs.JobDef.{JobsDef}
use Rattle.schedule_model.specs.Seen.{place_seen}
use Rattle.phase_machine.specs.MachineDef.{MachineDef}
use Rattle.phase_machine.specs.Now.{current_now, holder_now, requester_now}
use Rattle.shared_choosing.specs.Scene.{Scene, scene_in, scene_now, gives_way, asked, stays, may_run, is_outrun, entered}
use Rattle.shared_choosing.specs.Scene.{place_in, running_in, NamesBelow}
use Rattle.shared_choosing.specs.Walks.{come_to, walked}
use Rattle.shared_choosing.specs.Choosing.{Granted, Placed}
use Rattle.shared_choosing.specs.Filling.{filled}

-- The scene of a machine under an order of grants and runs.
abbrev pub scene_by : (MachineDef → ℕ → ℕ) → (MachineDef → ℕ → ℕ) → MachineDef → Scene
scene_by grant run m = scene_now (grant m) (run m) m

-- The same, if jobs run in these columns.
abbrev pub scene_on : (MachineDef → ℕ → ℕ) → (MachineDef → ℕ → ℕ) → (MachineDef → ℕ → ℕ) → MachineDef → Scene
scene_on column grant run m = scene_in (column m) (grant m) (run m) m

-- Are these the holders after all active jobs have asked?
abbrev pub AreGranted : (MachineDef → ℕ → ℕ) → (MachineDef → ℕ → ℕ) → MachineDef → List (Option JobId) → Type 0
AreGranted grant run m holders = Granted (scene_by grant run m) (length m.list.set.tasks) (place_in (map place_seen holders))

-- Is this what runs after all active jobs have come to their processors, with these holders?
abbrev pub ArePlaced : (MachineDef → ℕ → ℕ) → (MachineDef → ℕ → ℕ) → (MachineDef → ℕ → ℕ) → MachineDef → List (Option JobId)
    → List (Option JobId) → Type 0
ArePlaced column grant run m holders running = Placed (scene_on column grant run m) (place_in (map place_seen holders))
    (length m.list.set.tasks) (running_in (map place_seen running))

-- Has each resource a place among the holders, and do they name only listed jobs?
pub record AreHolders (list : JobsDef) (holders : List (Option ℕ)) : Type 0 where
  pub len : length holders ≡ length list.set.resources
  pub named : NamesBelow (length list.jobs) holders

-- Has each processor a column, and do the columns name only listed jobs?
pub record AreColumns (list : JobsDef) (running : List (Option ℕ)) : Type 0 where
  pub len : length running ≡ list.set.processors
  pub named : NamesBelow (length list.jobs) running

-- Has each resource a place among those of the holders, and are these such columns?
pub record AreRowPlaces (list : JobsDef) (held : List (Option JobId)) (running : List (Option ℕ)) : Type 0 where
  pub holders : length held ≡ length list.set.resources
  pub columns : AreColumns list running

-- Is j a listed job that may come to these columns?
pub record CanEnter (list : JobsDef) (held : List (Option JobId)) (j : ℕ) (running : List (Option ℕ)) : Type 0 where
  pub listed : j < length list.jobs
  pub places : AreRowPlaces list held running

-- Is k the number of a processor, counted from 1, that has one of these columns?
pub record HasColumn (running : List (Option JobId)) (k : ℕ) : Type 0 where
  pub least : 1 ≤ k
  pub most : k ≤ length running

-- Has each resource a place among the holders, and are j and the runner o, if there is one, listed jobs?
pub record AreRivals (list : JobsDef) (holders : List (Option JobId)) (j : ℕ) (o : Option JobId) : Type 0 where
  pub len : length holders ≡ length list.set.resources
  pub listed : j < length list.jobs
  pub runner : IfSome o (λ r. r.0 < length list.jobs)

-- Is `next` the places after this job, or none, was named at number i? The view says which number each place has.
pub record IsNamedAt (view : List (Option ℕ) → ℕ → Option ℕ) (i : ℕ) (job : Option JobId) (places next : List (Option JobId)) : Type 0 where
  pub len : length next ≡ length places
  pub here : view (map place_seen next) i ≡ place_seen job
  pub others : (k : ℕ) → (k ≡ i → ⊥) → view (map place_seen next) k ≡ view (map place_seen places) k
  pub named : (n : ℕ) → NamesBelow n (map place_seen places) → IfSome job (λ j. j.0 < n) → NamesBelow n (map place_seen next)

-- Is `next` the places after job j was named at number i, if no job was named there?
pub record IsFilledAt (view : List (Option ℕ) → ℕ → Option ℕ) (i j : ℕ) (places next : List (Option JobId)) : Type 0 where
  pub len : length next ≡ length places
  pub each : (k : ℕ) → view (map place_seen next) k ≡ filled j (Some i) k (view (map place_seen places) k)

-- Is `next` as many places, of which none names a job?
pub record AreCleared (places next : List (Option JobId)) : Type 0 where
  pub len : length next ≡ length places
  pub empty : (i : ℕ) → i < length places → place_in (map place_seen next) i ≡ None

-- Is `next` the holders that are kept, and no others, in as many places?
pub record AreKept (m : MachineDef) (holders next : List (Option JobId)) : Type 0 where
  pub len : length next ≡ length holders
  pub kept : (q : ℕ) → place_in (map place_seen next) q ≡ stays (requester_now m q) (holder_now m q)
  pub named : NamesBelow (length m.list.jobs) (map place_seen next)

-- Is this what is claimed, a resource of the set or nothing?
pub record NamesResource (m : MachineDef) (claim : Option ℕ) (named : Option ResourceId) : Type 0 where
  pub value : option_map (λ (q : ResourceId). q.0) named ≡ claim
  pub within : IfSome named (λ (q : ResourceId). q.0 < length m.list.set.resources)

-- Which job holds q after it was offered to job j, if o held it before?
abbrev pub offered : Scene → ℕ → ℕ → Option ℕ → Option ℕ
offered s q j o = if gives_way s q j o then Some j else o

-- Is `next` the holders after q was offered to job j?
pub record IsOffered (list : JobsDef) (s : Scene) (q j : ℕ) (holders next : List (Option JobId)) : Type 0 where
  pub places : AreHolders list (map place_seen next)
  pub here : place_in (map place_seen next) q ≡ offered s q j (place_in (map place_seen holders) q)
  pub others : (r : ℕ) → (r ≡ q → ⊥) → place_in (map place_seen next) r ≡ place_in (map place_seen holders) r

-- Is `next` the holders after job j has asked for what it requests?
pub record HasAsked (list : JobsDef) (s : Scene) (j : ℕ) (holders next : List (Option JobId)) : Type 0 where
  pub places : AreHolders list (map place_seen next)
  pub each : (q : ℕ) → place_in (map place_seen next) q ≡ asked s j q (place_in (map place_seen holders) q)

-- Does the answer say whether the runner gives way to job j, whatever the columns?
abbrev pub TellsOutrun : (MachineDef → ℕ → ℕ) → (MachineDef → ℕ → ℕ) → MachineDef → List (Option JobId) → ℕ → Option JobId → Bool → Type 0
TellsOutrun grant run m holders j runner answer = (column : ℕ → ℕ)
    → answer ≡ is_outrun (scene_in column (grant m) (run m) m) (place_in (map place_seen holders)) j (place_seen runner)

-- Which of the two runs: job j, if it is ready and o gives way, or else o?
abbrev pub faster : Scene → (ℕ → Option ℕ) → ℕ → Option ℕ → Option ℕ
faster s held j o = if may_run s held j && is_outrun s held j o then Some j else o

-- Is the answer that one, whatever the columns, and a listed job, if there is one?
pub record NamesFaster (grant run : MachineDef → ℕ → ℕ) (m : MachineDef) (holders : List (Option JobId)) (j : ℕ)
    (runner answer : Option JobId) : Type 0 where
  pub value : (column : ℕ → ℕ)
      → place_seen answer ≡ faster (scene_in column (grant m) (run m) m) (place_in (map place_seen holders)) j (place_seen runner)
  pub listed : IfSome answer (λ i. i.0 < length m.list.jobs)

-- Is `next` what runs after job j has come to its processor, with these holders?
pub record HasEntered (column grant run : MachineDef → ℕ → ℕ) (m : MachineDef) (holders : List (Option JobId)) (j : ℕ)
    (running next : List (Option JobId)) : Type 0 where
  pub columns : AreColumns m.list (map place_seen next)
  pub each : (k : ℕ) → running_in (map place_seen next) k
      ≡ entered (scene_on column grant run m) (place_in (map place_seen holders)) j k (running_in (map place_seen running) k)

-- Is `next` the places, as this view shows them, after the task's active job has come, if it has one?
abbrev pub HasCome : (List (Option ℕ) → ℕ → Option ℕ) → (ℕ → ℕ → Option ℕ → Option ℕ) → Option ℕ
    → List (Option JobId) → List (Option JobId) → Type 0
HasCome view step current places next = (k : ℕ)
    → view (map place_seen next) k ≡ come_to step current k (view (map place_seen places) k)

-- Is `next` the places, as this view shows them, after the active jobs of all tasks have come, from the highest task on?
abbrev pub HaveCome : (List (Option ℕ) → ℕ → Option ℕ) → (ℕ → ℕ → Option ℕ → Option ℕ) → MachineDef
    → List (Option JobId) → List (Option JobId) → Type 0
HaveCome view step m places next = (k : ℕ)
    → view (map place_seen next) k ≡ walked step (current_now m) (length m.list.set.tasks) k (view (map place_seen places) k)
