-- The requests of a job, each of a weight that its resource gives, weigh at most what its task may make.
use Rattle.std.proofs.Common.{◌≡◌, ℕ, ◌+◌, ◌*◌, ◌≤◌, ◌==◌, true, false, List, [], ◌∷◌, length, get_or, refl, ap, ◌∙◌, arith}
use Rattle.std.specs.List.{list_all}
use Rattle.std.proofs.Common.{Option, Some, None, nat_lt, sum_by, add-mul}
use Rattle.std.specs.Option.{option_map_or}
use Rattle.std.proofs.Math.Nat.{mul-le-mul_right}
use Rattle.std.proofs.lemmas.Bool.{and_parts, ltb-true, eq-eqb}
use Rattle.std.proofs.lemmas.List.Sums.{sum_by-cons}
use Rattle.number_laws.specs.Sums.{sum_below, flag}
use Rattle.number_laws.proofs.SumLaws.{sum_below-agree, sum_below-plus, sum_below-monotone, sum_below-term, sum_below-list_by}
use Rattle.number_laws.proofs.ListCounts.{count_by-first}
use Rattle.sporadic_model.specs.SetDef.{SetDef}
use Rattle.sporadic_model.specs.Users.{count_of}
use Rattle.schedule_model.specs.JobDef.{SegmentDef, JobDef, asks_for, number_of_requests, no_segment}
use Rattle.schedule_model.specs.LawfulJobs.{is_resource_in, IsLawfulJob}

-- The weight of a segment's request, and 0 if it has none.
abbrev pub weighed : (ℕ → ℕ) → SegmentDef → ℕ
weighed weight s = option_map_or (λ r. weight r.0) s.request 0

one_weight : (n : ℕ) (weight : ℕ → ℕ) (s : SegmentDef) → is_resource_in n s ≡ true
    → weighed weight s ≤ sum_below n (λ q. flag (asks_for q s) * weight q)
one_weight n weight s h = go s.request h where
  go : (o : Option (ℕ × ℕ)) → option_map_or (λ r. nat_lt r.0 n) o true ≡ true
      → option_map_or (λ r. weight r.0) o 0 ≤ sum_below n (λ q. flag (option_map_or (λ r. r.0 == q) o false) * weight q)
  go None g = omega arith
  go (Some r) g =
      let one : flag (r.0 == r.0) * weight r.0 ≡ weight r.0 = rw (eq-eqb r.0 r.0 refl) (omega arith) in
      omega (arith, one, sum_below-term n (λ q. flag (r.0 == q) * weight q) r.0 (ltb-true r.0 n g))

script_weight : (n : ℕ) (weight : ℕ → ℕ) (script : List SegmentDef) → list_all (is_resource_in n) script ≡ true
    → sum_by (weighed weight) script ≤ sum_below n (λ q. number_of_requests script q * weight q)
script_weight n weight [] h = omega arith
script_weight n weight (s ∷ script) h =
    let parts : (is_resource_in n s ≡ true) × (list_all (is_resource_in n) script ≡ true) = and_parts _ _ h in
    let each : sum_below n (λ q. number_of_requests (s ∷ script) q * weight q)
    ≡ sum_below n (λ q. flag (asks_for q s) * weight q + number_of_requests script q * weight q) =
    sum_below-agree n (λ q. number_of_requests (s ∷ script) q * weight q)
    (λ q. flag (asks_for q s) * weight q + number_of_requests script q * weight q)
    (λ q l. ap (λ z. z * weight q) (count_by-first (asks_for q) s script)
    ∙ add-mul (flag (asks_for q s)) (number_of_requests script q) (weight q)) in
    omega (
      arith,
      sum_by-cons (weighed weight) s script,
      each,
      sum_below-plus n (λ q. flag (asks_for q s) * weight q) (λ q. number_of_requests script q * weight q),
      one_weight n weight s parts.0,
      script_weight n weight script parts.1,
    )

pub own_weights : (set : SetDef) (weight : ℕ → ℕ) (job : JobDef) → IsLawfulJob set job
    → sum_below (length job.script) (λ m. weighed weight (get_or job.script m no_segment))
    ≤ sum_below (length set.resources) (λ q. count_of set job.task q * weight q)
own_weights set weight job lawful =
    let each : sum_below (length set.resources) (λ q. number_of_requests job.script q * weight q)
    ≤ sum_below (length set.resources) (λ q. count_of set job.task q * weight q) =
    sum_below-monotone (length set.resources) (λ q. number_of_requests job.script q * weight q)
    (λ q. count_of set job.task q * weight q) (λ q l. mul-le-mul_right (weight q) (lawful.count q)) in
    omega (
      arith,
      each,
      sum_below-list_by (weighed weight) no_segment job.script,
      script_weight (length set.resources) weight job.script lawful.resources,
    )
