-- One home: while a request is at a processor, that processor runs no Local tick. A request is issued right behind a Local tick of its
-- job. So none of the processor's own tasks issues one meanwhile, and at most one of them is in a request that runs there.
use Rattle.std.proofs.Common.{◌≡◌, ℕ, suc, ◌<◌, ◌≤◌, true, false, refl, sym, ap, ◌∙◌, arith, inl, inr, Some}
use Rattle.std.proofs.lemmas.Bool.{cases_lt}
use Rattle.schedule_model.specs.JobDef.{job_of}
use Rattle.schedule_model.specs.LawfulJobs.{is_script, AreLawfulJobs}
use Rattle.schedule_model.specs.RowDef.{Trace, jobs_of, running_on, runs_in}
use Rattle.schedule_model.specs.Phase.{is_local, is_finished, phase_of}
use Rattle.schedule_model.specs.Phase.Phase.{Local, Asking}
use Rattle.schedule_model.specs.Activity.{processor_of, is_active}
use Rattle.schedule_model.specs.DpcpRules.{home_of, has_requests, KeepsRun}
use Rattle.schedule_laws.specs.Agreement.{RunsActiveBefore}
use Rattle.schedule_laws.proofs.ActiveJobs.{active_listed, active_stays}
use Rattle.schedule_laws.proofs.Holders.{open_active, open_at}
use Rattle.schedule_laws.proofs.Issues.{issue_at_most, open_since}
use Rattle.schedule_laws.proofs.Rows.{runs_where}
use Rattle.schedule_laws.proofs.RuleUses.{request_among}
use Rattle.schedule_laws.proofs.Ticks.{open_between}
use Rattle.charge_laws.proofs.DpcpCharging.{RunsRequest, RunsAtHomes, RunsAtHomesBefore, request_at_from, requests_run_home}
use Rattle.closer_laws.proofs.LocalResources.{Issued, issued}

-- Running jobs are active.
pub homes_run_active : (w : Trace) (n : ℕ) → RunsAtHomesBefore w n → RunsActiveBefore w n
homes_run_active w n homes t k j l e = let at : RunsAtHomes w t = homes t l in at.run.active k j e

-- Job j is in a request that runs on processor k.
pub record AsksAt (w : Trace) (t k j : ℕ) : Type 0 where
  pub active : is_active w t j ≡ true
  pub number : ℕ
  pub resource : ℕ
  pub request : phase_of w t j ≡ Asking number resource
  pub home : home_of w resource ≡ k

-- So is a job whose request runs there.
pub runs_at : (w : Trace) (t k r : ℕ) → RunsRequest w t k r → AsksAt w t k r
runs_at w t k r a = record { active = a.active; number = a.number; resource = a.resource; request = a.request; home = a.home }

-- A Local job that runs stands in the column of its processor.
local_column : (w : Trace) (t z : ℕ) → RunsAtHomes w t → phase_of w t z ≡ Local → runs_in (w.row t) z ≡ true
    → running_on (w.row t) (processor_of w z) ≡ Some z
local_column w t z homes local runs =
    let run : KeepsRun w t = homes.run in
    let at : (c : ℕ) × (running_on (w.row t) c ≡ Some z) = runs_where (w.row t) z runs in
    let is : is_local (phase_of w t z) ≡ true = rw local refl in
    let place : at.0 ≡ processor_of w z = run.local at.0 z at.1 is in
    rw (← place) at.1

-- While a request is at a processor, no job of its tasks runs a Local tick.
pub quiet_home : (w : Trace) (t k j z : ℕ) → RunsAtHomes w t → AsksAt w t k j → processor_of w z ≡ k → phase_of w t z ≡ Local
    → runs_in (w.row t) z ≡ true → ⊥
quiet_home w t k j z homes a own local runs =
    let place : processor_of w z ≡ home_of w a.resource = own ∙ sym a.home in
    let here : running_on (w.row t) (home_of w a.resource) ≡ Some z = rw (← place) (local_column w t z homes local runs) in
    let some : has_requests w t (home_of w a.resource) ≡ true =
    request_among w t (home_of w a.resource) j (active_listed w t j a.active)
    (request_at_from w t j a.number a.resource a.active a.request) in
    let r : RunsRequest w t (home_of w a.resource) z = requests_run_home w t (home_of w a.resource) z homes some here in
    let x : Local ≡ Asking r.number r.resource = sym local ∙ r.request in
    cc

-- A job in a request at u and at v is in it at each tick between.
pub asks_at_between : (w : Trace) (u t v k j m q r : ℕ) → is_active w u j ≡ true → phase_of w u j ≡ Asking m q
    → phase_of w v j ≡ Asking m r → home_of w q ≡ k → u ≤ t → t ≤ v → AsksAt w t k j
asks_at_between w u t v k j m q r active early late home from to =
    let here : phase_of w t j ≡ Asking m q = open_between w u t v j m q r early late from to in
    let unfinished : is_finished (phase_of w t j) ≡ false = rw here refl in
    record { active = active_stays w u t j active from unfinished; number = m; resource = q; request = here; home = home }

-- So a request that one of its tasks is in at v was open at u, where another request was there since.
pub open_throughout : (w : Trace) (n u v k j z m q : ℕ) → RunsAtHomesBefore w n → u ≤ v → v < n
    → is_script (job_of w.jobs z).script ≡ true → ((t : ℕ) → u ≤ t → t < v → AsksAt w t k j) → processor_of w z ≡ k
    → phase_of w v z ≡ Asking m q → phase_of w u z ≡ Asking m q
open_throughout w n u v k j z m q homes order l script there own asks =
    open_at w u v z m q script order asks
    (λ t from before local runs. quiet_home w t k j z (homes t (omega arith)) (there t from before) own local runs)

-- A request of one of k's tasks that runs there was open when another one was issued later.
issued_first : (w : Trace) (n t k y z : ℕ) → RunsAtHomesBefore w n → AreLawfulJobs (jobs_of w) → t < n → AsksAt w t k y
    → (a : Issued w t y) → (b : Issued w t z) → processor_of w z ≡ k → a.before < b.before → ⊥
issued_first w n t k y z homes lawful l asks a b own less =
    let to : suc b.before ≤ t = omega (arith, issue_at_most w t z, b.issue) in
    let opened : phase_of w b.before y ≡ Asking asks.number asks.resource =
    open_since w b.before t y asks.number asks.resource asks.request (omega (arith, a.issue, less)) (omega (arith, to)) in
    let script : is_script (job_of w.jobs y).script ≡ true = (lawful.each y (active_listed w t y asks.active)).script in
    quiet_home w b.before k y z (homes b.before (omega (arith, to)))
    (record {
      active = open_active w n b.before y asks.number asks.resource (homes_run_active w n homes) (omega (arith, to)) script opened;
      number = asks.number;
      resource = asks.resource;
      request = opened;
      home = asks.home;
    })
    own b.local b.runs

-- At most one job of k's tasks is in a request that runs on k.
pub one_home : (w : Trace) (n t k y z : ℕ) → RunsAtHomesBefore w n → AreLawfulJobs (jobs_of w) → t < n → AsksAt w t k y
    → AsksAt w t k z → processor_of w y ≡ k → processor_of w z ≡ k → y ≡ z
one_home w n t k y z homes lawful l one other own_y own_z = elim (cases_lt a.before b.before) [
  | inl less ↦ absurd (issued_first w n t k y z homes lawful l one a b own_z less)
  | inr most ↦ elim (cases_lt b.before a.before) [
    | inl less ↦ absurd (issued_first w n t k z y homes lawful l other b a own_y less)
    | inr least ↦
        let same : b.before ≡ a.before = omega (arith, most, least) in
        let before : a.before < n = omega (arith, l, issue_at_most w t y, a.issue) in
        let here : running_on (w.row a.before) (processor_of w y) ≡ Some y =
        local_column w a.before y (homes a.before before) a.local a.runs in
        let local : phase_of w a.before z ≡ Local = ap (λ s. phase_of w s z) (sym same) ∙ b.local in
        let runs : runs_in (w.row a.before) z ≡ true = ap (λ s. runs_in (w.row s) z) (sym same) ∙ b.runs in
        let there : running_on (w.row a.before) (processor_of w z) ≡ Some z =
        local_column w a.before z (homes a.before before) local runs in
        let both : Some y ≡ Some z = sym here ∙ ap (running_on (w.row a.before)) (own_y ∙ sym own_z) ∙ there in
        cc
  ]
] where
  issue : (i : ℕ) → AsksAt w t k i → Issued w t i
  issue i asks = issued w t i asks.number asks.resource (lawful.each i (active_listed w t i asks.active)).script asks.request

  a : Issued w t y
  a = issue y one

  b : Issued w t z
  b = issue z other
