-- The segment whose request is open: its resource, its number, and what a lawful script says of it.
use Rattle.std.proofs.Common.{◌≡◌, ℕ, suc, ◌+◌, ◌-◌, ◌<◌, ◌==◌, true, false, List, [], ◌∷◌, length, get_or, refl, sym}
use Rattle.std.proofs.Common.{ap, ◌∙◌, arith, inl, inr, Option, Some, None, nat_lt}
use Rattle.std.specs.Option.{option_map_or}
use Rattle.std.proofs.lemmas.Bool.{cases_lt, lt-ltb, ltb-true, eqb-true}
use Rattle.number_laws.proofs.ListCounts.{count_by-some}
use Rattle.sporadic_model.specs.SetDef.{SetDef}
use Rattle.sporadic_model.specs.Users.{count_of, is_user}
use Rattle.schedule_model.specs.JobDef.{SegmentDef, job_of, segment_ticks, asks_for, number_of_requests, no_segment}
use Rattle.schedule_model.specs.LawfulJobs.{is_resource_in, IsLawfulJob}
use Rattle.schedule_model.proofs.Scripts.{list_all-each}
use Rattle.schedule_model.specs.RowDef.{Trace}
use Rattle.schedule_model.specs.Phase.{phase_from, executed, phase_of}
use Rattle.schedule_model.specs.Phase.Phase.{Local, Asking, Finished}
use Rattle.schedule_laws.proofs.Phases.{phase_of_none, phase_local, phase_request, phase_later, asking_at}
use Rattle.schedule_laws.proofs.Ticks.{unfinished_listed}

-- The segment at a place of a script, whose request is of resource q.
pub record RequestAt (script : List SegmentDef) (i q : ℕ) : Type 0 where
  pub within : i < length script
  pub asks : asks_for q (get_or script i no_segment) ≡ true

-- A request that is open after d ticks is that of the segment of its number.
pub segment_of : (n : ℕ) (script : List SegmentDef) (d m q : ℕ) → phase_from n script d ≡ Asking m q
    → (i : ℕ) × (m ≡ n + i) × RequestAt script i q
segment_of n [] d m q h = let x : Finished ≡ Asking m q = sym (phase_of_none n d) ∙ h in absurd (cc)
segment_of n (s ∷ script) d m q h = elim (cases_lt d (segment_ticks s)) [
  | inr later ↦
      let back : (i : ℕ) × (m ≡ suc n + i) × RequestAt script i q =
      segment_of (suc n) script (d - segment_ticks s) m q (sym (phase_later n s script d later) ∙ h) in
      (suc back.0, omega (arith, back.1), record { within = omega (arith, back.2.within); asks = back.2.asks })
  | inl first ↦ elim (cases_lt d s.local) [
    | inl local ↦ let x : Local ≡ Asking m q = sym (phase_local n s script d local) ∙ h in absurd (cc)
    | inr request ↦
        let here : (m ≡ n) × (option_map_or (λ r. r.0 == q) s.request false ≡ true) =
        asking_at n m q s.request (sym (phase_request n s script d request first) ∙ h) in
        (0, omega (arith, here.0), record { within = omega arith; asks = here.1 })
  ]
]

-- A request that is open is that of the job's segment of its number.
pub open_segment : (w : Trace) (t j m q : ℕ) → phase_of w t j ≡ Asking m q → RequestAt (job_of w.jobs j).script m q
unfolding phase_of
open_segment w t j m q h =
    let a : (i : ℕ) × (m ≡ 0 + i) × RequestAt (job_of w.jobs j).script i q = segment_of 0 (job_of w.jobs j).script (executed w t j) m q h in
    let e : m ≡ a.0 = omega (arith, a.1) in
    rw e a.2

-- A job with an open request is in the list.
pub open_listed : (w : Trace) (t j m q : ℕ) → phase_of w t j ≡ Asking m q → j < length w.jobs
open_listed w t j m q h = unfinished_listed w t j (rw h refl)

-- A segment that asks for q has a request, of q.
pub asks_some : (q : ℕ) (s : SegmentDef) → asks_for q s ≡ true → (l : ℕ) × (s.request ≡ Some (q, l))
asks_some q s h = go s.request refl h where
  go : (o : Option (ℕ × ℕ)) → s.request ≡ o → option_map_or (λ r. r.0 == q) o false ≡ true → (l : ℕ) × (s.request ≡ Some (q, l))
  go None e g = absurd (cc)
  go (Some r) e g = let f : r.0 ≡ q = eqb-true r.0 q g in (r.1, e ∙ ap (λ k. Some (k, r.1)) f)

resource_below : (n q : ℕ) (s : SegmentDef) → is_resource_in n s ≡ true → asks_for q s ≡ true → q < n
resource_below n q s h g =
    let a : (l : ℕ) × (s.request ≡ Some (q, l)) = asks_some q s g in
    let b : nat_lt q n ≡ true = rw a.1 at h in
    ltb-true q n b

-- What a lawful job requests is a resource of the set, of which its task is a user.
pub open_resource : (set : SetDef) (w : Trace) (t j m q : ℕ) → IsLawfulJob set (job_of w.jobs j)
    → phase_of w t j ≡ Asking m q → q < length set.resources
open_resource set w t j m q lawful h =
    let r : RequestAt (job_of w.jobs j).script m q = open_segment w t j m q h in
    resource_below (length set.resources) q (get_or (job_of w.jobs j).script m no_segment)
    (list_all-each (is_resource_in (length set.resources)) (job_of w.jobs j).script m no_segment r.within lawful.resources) r.asks

-- A lawful job's task is a user of what the job requests.
pub open_user : (set : SetDef) (w : Trace) (t j m q : ℕ) → IsLawfulJob set (job_of w.jobs j)
    → phase_of w t j ≡ Asking m q → is_user set q (job_of w.jobs j).task ≡ true
open_user set w t j m q lawful h =
    let r : RequestAt (job_of w.jobs j).script m q = open_segment w t j m q h in
    let some : 0 < number_of_requests (job_of w.jobs j).script q =
    count_by-some (asks_for q) (job_of w.jobs j).script m no_segment r.within r.asks in
    lt-ltb 0 (count_of set (job_of w.jobs j).task q) (omega (arith, lawful.count q))
