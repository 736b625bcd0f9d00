-- The requests of a job: those of one resource, and those of all.
use Rattle.std.proofs.Common.{◌≡◌, ℕ, ◌+◌, ◌≤◌, ◌==◌, true, false, List, [], ◌∷◌, length, get_or, refl, sym, arith}
use Rattle.std.specs.List.{list_all}
use Rattle.std.proofs.Common.{Option, Some, None, is_some, nat_lt}
use Rattle.std.specs.Option.{option_map_or}
use Rattle.std.proofs.lemmas.Bool.{and_parts, ltb-true}
use Rattle.number_laws.specs.Sums.{sum_below, flag}
use Rattle.number_laws.specs.Tests.{count_below}
use Rattle.number_laws.proofs.SumLaws.{sum_below-zero, sum_below-agree, sum_below-plus, sum_below-monotone}
use Rattle.number_laws.proofs.CountLaws.{count_below-none, count_below-equal}
use Rattle.number_laws.proofs.ListCounts.{count_by-first, count_by-places}
use Rattle.sporadic_model.specs.SetDef.{SetDef}
use Rattle.sporadic_model.specs.Users.{count_of}
use Rattle.schedule_model.specs.JobDef.{SegmentDef, JobDef, asks_for, number_of_requests, no_segment}
use Rattle.schedule_model.specs.LawfulJobs.{is_resource_in, IsLawfulJob}
use Rattle.schedule_laws.specs.Counting.{requests_in}

-- The segments that ask for q, counted by their numbers, are as many as the requests of q.
pub requests_by_number : (script : List SegmentDef) (q : ℕ)
    → count_below (length script) (λ m. asks_for q (get_or script m no_segment)) ≡ number_of_requests script q
requests_by_number script q = sym (count_by-places (asks_for q) no_segment script)

-- A lawful job has no more of them than its task may.
pub own_requests : (set : SetDef) (job : JobDef) (q : ℕ) → IsLawfulJob set job
    → count_below (length job.script) (λ m. asks_for q (get_or job.script m no_segment)) ≤ count_of set job.task q
own_requests set job q lawful = omega (arith, requests_by_number job.script q, lawful.count q)

-- A segment with a request asks for one resource.
asks_once : (n : ℕ) (s : SegmentDef) → is_resource_in n s ≡ true → flag (is_some s.request) ≡ count_below n (λ q. asks_for q s)
asks_once n s h = go s.request h where
  go : (o : Option (ℕ × ℕ)) → option_map_or (λ r. nat_lt r.0 n) o true ≡ true
      → flag (is_some o) ≡ count_below n (λ q. option_map_or (λ r. r.0 == q) o false)
  go None g = sym (count_below-none n (λ q. false) (λ k l. refl))
  go (Some r) g = sym (count_below-equal n r.0 (ltb-true r.0 n g))

-- The requests of a script are those of each resource, summed.
pub requests_by_resource : (n : ℕ) (script : List SegmentDef) → list_all (is_resource_in n) script ≡ true
    → requests_in script ≡ sum_below n (λ q. number_of_requests script q)
requests_by_resource n [] h = sym (sum_below-zero n (λ q. 0) (λ k l. refl))
requests_by_resource n (s ∷ script) h =
    let parts : (is_resource_in n s ≡ true) × (list_all (is_resource_in n) script ≡ true) = and_parts _ _ h in
    let total : requests_in (s ∷ script) ≡ flag (is_some s.request) + requests_in script =
    count_by-first (λ r. is_some r.request) s script in
    let each : sum_below n (λ q. number_of_requests (s ∷ script) q) ≡ sum_below n (λ q. flag (asks_for q s) + number_of_requests script q) =
    sum_below-agree n (λ q. number_of_requests (s ∷ script) q) (λ q. flag (asks_for q s) + number_of_requests script q)
    (λ q l. count_by-first (asks_for q) s script) in
    let both : sum_below n (λ q. flag (asks_for q s) + number_of_requests script q)
    ≡ sum_below n (λ q. flag (asks_for q s)) + sum_below n (λ q. number_of_requests script q) =
    sum_below-plus n (λ q. flag (asks_for q s)) (λ q. number_of_requests script q) in
    omega (arith, total, each, both, asks_once n s parts.0, requests_by_resource n script parts.1)

-- A lawful job has no more requests than its task may make of all resources.
pub all_requests : (set : SetDef) (job : JobDef) → IsLawfulJob set job
    → requests_in job.script ≤ sum_below (length set.resources) (λ q. count_of set job.task q)
all_requests set job lawful =
    let each : sum_below (length set.resources) (λ q. number_of_requests job.script q)
    ≤ sum_below (length set.resources) (λ q. count_of set job.task q) =
    sum_below-monotone (length set.resources) (λ q. number_of_requests job.script q) (λ q. count_of set job.task q)
    (λ q l. lawful.count q) in
    omega (arith, each, requests_by_resource (length set.resources) job.script lawful.resources)
