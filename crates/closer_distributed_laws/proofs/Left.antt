-- How many requests that pass a job has left behind by a tick: those that were open before and aren't now.
use Rattle.std.proofs.Common.{◌≡◌, ℕ, ◌<◌, ◌≤◌, ◌&&◌, not, Bool, true, false, length, get_or, refl, sym, ap, ◌∙◌}
use Rattle.std.proofs.Common.{arith, inl, inr, Some}
use Rattle.std.proofs.lemmas.Bool.{cases_lt, cases_Bool, both_ways, and_parts, and_from, eq-eqb, not-true, not_from_false}
use Rattle.number_laws.specs.Tests.{count_below, any_below}
use Rattle.number_laws.proofs.TestLaws.{any_below-from, any_below-some}
use Rattle.number_laws.proofs.CountLaws.{count_below-monotone}
use Rattle.schedule_model.specs.JobDef.{job_of, no_segment}
use Rattle.schedule_model.specs.RowDef.{Trace}
use Rattle.schedule_model.specs.Phase.{is_same_request, phase_of}
use Rattle.schedule_model.specs.Phase.Phase.{Asking}
use Rattle.schedule_laws.proofs.Segments.{RequestAt, open_segment, asks_some}
use Rattle.schedule_laws.proofs.Ticks.{open_between, same_true}
use Rattle.row_laws.proofs.Numbers.{asks_passing}
use Rattle.closer_laws.proofs.Granted.{count_more}
use Rattle.closer_laws.proofs.Slots.{passing_requests}

-- Is job j in its request number m at tick t?
abbrev pub is_in : Trace → ℕ → ℕ → ℕ → Bool
is_in w j m t = is_same_request (phase_of w t j) (Asking m 0)

-- Is request number m one that passes, and left by tick t?
abbrev pub is_left : Trace → (ℕ → Bool) → ℕ → ℕ → ℕ → Bool
is_left w ok j t m =
    asks_passing ok (get_or (job_of w.jobs j).script m no_segment) && (any_below t (is_in w j m) && not (is_in w j m t))

-- How many requests that pass were left?
abbrev pub left : Trace → (ℕ → Bool) → ℕ → ℕ → ℕ
left w ok j t = count_below (length (job_of w.jobs j).script) (is_left w ok j t)

pub left_few : (w : Trace) (ok : ℕ → Bool) (j t : ℕ) → left w ok j t ≤ passing_requests w ok j
left_few w ok j t =
    count_below-monotone (length (job_of w.jobs j).script) (is_left w ok j t)
    (λ m. asks_passing ok (get_or (job_of w.jobs j).script m no_segment)) (λ m b h. (and_parts _ _ h).0)

-- What was left by a tick is left by a later one.
left_up : (w : Trace) (ok : ℕ → Bool) (j u t m : ℕ) → u ≤ t → is_left w ok j u m ≡ true → is_left w ok j t m ≡ true
left_up w ok j u t m l h = and_from _ _ parts.0
    (and_from _ _ (any_below-from t (is_in w j m) at.0 (omega (arith, at.1)) at.2) (not_from_false (is_in w j m t) away)) where
      parts : (asks_passing ok (get_or (job_of w.jobs j).script m no_segment) ≡ true)
          × ((any_below u (is_in w j m) && not (is_in w j m u)) ≡ true)
      parts = and_parts _ _ h

      both : (any_below u (is_in w j m) ≡ true) × (not (is_in w j m u) ≡ true)
      both = and_parts _ _ parts.1

      at : (k : ℕ) × (k < u) × (is_in w j m k ≡ true)
      at = any_below-some u (is_in w j m) both.0

      away : is_in w j m t ≡ false
      away = elim (cases_Bool (is_in w j m t)) [
        | inr off ↦ off
        | inl opened ↦
            let early : (q : ℕ) × (phase_of w at.0 j ≡ Asking m q) = same_true (phase_of w at.0 j) m 0 at.2 in
            let late : (q : ℕ) × (phase_of w t j ≡ Asking m q) = same_true (phase_of w t j) m 0 opened in
            let here : phase_of w u j ≡ Asking m early.0 =
            open_between w at.0 u t j m early.0 late.0 early.1 late.1 (omega (arith, at.1)) l in
            let is : is_in w j m u ≡ true = rw here (eq-eqb m m refl) in
            absurd (both_ways (is_in w j m u) (not-true _ both.1) is)
      ]

pub left_rise : (w : Trace) (ok : ℕ → Bool) (j u t : ℕ) → u ≤ t → left w ok j u ≤ left w ok j t
left_rise w ok j u t l = count_below-monotone (length (job_of w.jobs j).script) (is_left w ok j u) (is_left w ok j t)
    (λ m b h. left_up w ok j u t m l h)

-- A job in a request that passes has left it by a later tick at which it is not in it.
left_more : (w : Trace) (ok : ℕ → Bool) (j u v m q : ℕ) → u < v → phase_of w u j ≡ Asking m q → ok q ≡ true → is_in w j m v ≡ false
    → left w ok j u < left w ok j v
left_more w ok j u v m q l asks passes off =
    let at : RequestAt (job_of w.jobs j).script m q = open_segment w u j m q asks in
    let some : (x : ℕ) × ((get_or (job_of w.jobs j).script m no_segment).request ≡ Some (q, x)) =
    asks_some q (get_or (job_of w.jobs j).script m no_segment) at.asks in
    let counts : asks_passing ok (get_or (job_of w.jobs j).script m no_segment) ≡ true = rw some.1 passes in
    let opened : is_in w j m u ≡ true = rw asks (eq-eqb m m refl) in
    count_more (length (job_of w.jobs j).script) m (is_left w ok j u) (is_left w ok j v) (λ k b h. left_up w ok j u v k (omega (arith, l)) h)
    at.within (rw (counts, opened) (none (any_below u (is_in w j m))))
    (and_from _ _ counts (and_from _ _ (any_below-from v (is_in w j m) u l opened) (not_from_false _ off))) where
      none : (b : Bool) → (b && false) ≡ false
      none true = refl
      none false = refl

-- Between two ticks with as many left, what a job is in that passes is open at the later one too.
pub still_in : (w : Trace) (ok : ℕ → Bool) (j u t v m q : ℕ) → u ≤ t → t ≤ v → left w ok j u ≡ left w ok j v
    → phase_of w t j ≡ Asking m q → ok q ≡ true → (r : ℕ) × (phase_of w v j ≡ Asking m r)
still_in w ok j u t v m q from to same asks passes = elim (cases_Bool (is_in w j m v)) [
  | inl opened ↦ same_true (phase_of w v j) m 0 opened
  | inr off ↦ elim (cases_lt t v) [
    | inl before ↦ absurd (omega (arith, same, left_rise w ok j u t from, left_more w ok j t v m q before asks passes off))
    | inr here ↦
        let e : t ≡ v = omega (arith, here, to) in
        (q, ap (λ k. phase_of w k j) (sym e) ∙ asks)
  ]
]
