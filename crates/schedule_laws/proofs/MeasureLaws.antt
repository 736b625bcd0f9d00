-- When a job is finished, its response, and its blocked ticks, from tick to tick.
use Rattle.std.proofs.Common.{◌≡◌, ℕ, suc, ◌+◌, ◌<◌, ◌≤◌, Bool, true, false, refl, ap, arith, inl, inr}
use Rattle.std.proofs.lemmas.Bool.{cases_lt, both_ways}
use Rattle.number_laws.specs.Sums.{flag}
use Rattle.number_laws.proofs.TestLaws.{first_below-at_most, first_below-before, first_below-passes, first_below-least, first_below-agree}
use Rattle.number_laws.proofs.CountLaws.{count_below-agree, count_below-longer}
use Rattle.schedule_model.specs.JobDef.{job_of}
use Rattle.schedule_model.specs.RowDef.{Trace}
use Rattle.schedule_model.specs.Phase.{is_finished, phase_of}
use Rattle.schedule_model.specs.Phase.Phase.{Finished}
use Rattle.schedule_model.specs.BlockedTicks.{is_blocked}
use Rattle.schedule_model.specs.Measures.{has_finished, finish_of, response_of, blocking_of}
use Rattle.schedule_laws.specs.Agreement.{AgreeBefore}
use Rattle.schedule_laws.proofs.Agreement.{job_agree, phase_agree}
use Rattle.schedule_laws.proofs.TickAgreement.{blocked_agree}
use Rattle.schedule_laws.proofs.Ticks.{finished_true, finished_stays}

-- A job is finished from its finish on, and not before.
pub finish_at_most : (w : Trace) (n j : ℕ) → finish_of w n j ≤ n
unfolding finish_of
finish_at_most w n j = first_below-at_most n (λ t. is_finished (phase_of w t j))

-- Before its finish a job isn't finished.
pub unfinished_till : (w : Trace) (n t j : ℕ) → t < finish_of w n j → is_finished (phase_of w t j) ≡ false
unfolding finish_of
unfinished_till w n t j l = first_below-before n (λ u. is_finished (phase_of w u j)) t l

finish_passes : (w : Trace) (n j : ℕ) → finish_of w n j < n → is_finished (phase_of w (finish_of w n j) j) ≡ true
unfolding finish_of
finish_passes w n j l = first_below-passes n (λ u. is_finished (phase_of w u j)) l

-- At its finish a job that is finished within n rows is finished.
pub finished_at_finish : (w : Trace) (n j : ℕ) → has_finished w n j ≡ true → phase_of w (finish_of w n j) j ≡ Finished
unfolding has_finished
finished_at_finish w n j h = elim (cases_lt (finish_of w n j) n) [
  | inl before ↦ finished_true _ (finish_passes w n j before)
  | inr end ↦ let e : finish_of w n j ≡ n = omega (arith, finish_at_most w n j) in rw e (finished_true _ h)
]

-- It is no later than any tick at which the job is finished.
pub finish_least : (w : Trace) (n t j : ℕ) → phase_of w t j ≡ Finished → finish_of w n j ≤ t
unfolding finish_of
finish_least w n t j h = first_below-least n (λ u. is_finished (phase_of w u j)) t (rw h refl)

-- Once a job is finished, further rows change neither that nor its finish.
pub has_finished_stays : (w : Trace) (n m j : ℕ) → n ≤ m → has_finished w n j ≡ true → has_finished w m j ≡ true
unfolding has_finished
has_finished_stays w n m j l h = let e : phase_of w m j ≡ Finished = finished_stays w n m j l (finished_true _ h) in rw e refl

-- Its finish stays.
pub finish_stays : (w : Trace) (n m j : ℕ) → n ≤ m → has_finished w n j ≡ true → finish_of w m j ≡ finish_of w n j
finish_stays w n m j l h =
    let a : finish_of w m j ≤ finish_of w n j = finish_least w m (finish_of w n j) j (finished_at_finish w n j h) in
    let b : finish_of w n j ≤ finish_of w m j =
    finish_least w n (finish_of w m j) j (finished_at_finish w m j (has_finished_stays w n m j l h)) in
    omega arith

-- A job that is finished after a row and not before it has its finish there.
pub finish_new : (w : Trace) (n j : ℕ) → has_finished w n j ≡ false → finish_of w (suc n) j ≡ suc n
unfolding has_finished
finish_new w n j h = elim (cases_lt (finish_of w (suc n) j) (suc n)) [
  | inl early ↦
      let e : phase_of w n j ≡ Finished =
      finished_stays w (finish_of w (suc n) j) n j (omega arith) (finished_true _ (finish_passes w (suc n) j early)) in
      let x : is_finished (phase_of w n j) ≡ true = rw e refl in
      absurd (both_ways _ h x)
  | inr late ↦ omega (arith, finish_at_most w (suc n) j)
]

-- A job that is finished some ticks after its release took no more than these.
pub response_at_most : (w : Trace) (n b j : ℕ) → phase_of w ((job_of w.jobs j).release + b) j ≡ Finished → response_of w n j ≤ b
unfolding response_of
response_at_most w n b j h = omega (arith, finish_least w n ((job_of w.jobs j).release + b) j h)

-- Blocked ticks rise by one at a blocked tick, and else stay.
pub blocking_next : (interferes : Trace → ℕ → ℕ → Bool) (w : Trace) (n j : ℕ)
    → blocking_of interferes w (suc n) j ≡ blocking_of interferes w n j + flag (is_blocked interferes w n j)
unfolding blocking_of
blocking_next interferes w n j = refl

-- Blocked ticks rise.
pub blocking_up : (interferes : Trace → ℕ → ℕ → Bool) (w : Trace) (n m j : ℕ) → n ≤ m
    → blocking_of interferes w n j ≤ blocking_of interferes w m j
unfolding blocking_of
blocking_up interferes w n m j l = count_below-longer n m (λ t. is_blocked interferes w t j) l

-- Both depend on the rows before tick n alone.
pub has_finished_agree : (v w : Trace) (n t j : ℕ) → AgreeBefore v w n → t ≤ n → has_finished v t j ≡ has_finished w t j
unfolding has_finished
has_finished_agree v w n t j a l = ap is_finished (phase_agree v w n t j a l)

pub finish_agree : (v w : Trace) (n t j : ℕ) → AgreeBefore v w n → t ≤ n → finish_of v t j ≡ finish_of w t j
unfolding finish_of
finish_agree v w n t j a l = first_below-agree t (λ u. is_finished (phase_of v u j)) (λ u. is_finished (phase_of w u j))
    (λ u b. ap is_finished (phase_agree v w n u j a (omega arith)))

pub response_agree : (v w : Trace) (n t j : ℕ) → AgreeBefore v w n → t ≤ n → response_of v t j ≡ response_of w t j
unfolding response_of
response_agree v w n t j a l = rw (finish_agree v w n t j a l, job_agree v w n j a) refl

pub blocking_agree : (interferes : Trace → ℕ → ℕ → Bool) (v w : Trace) (n t j : ℕ) → AgreeBefore v w n → t ≤ n
    → ((u : ℕ) → u < t → interferes v u j ≡ interferes w u j)
    → blocking_of interferes v t j ≡ blocking_of interferes w t j
unfolding blocking_of
blocking_agree interferes v w n t j a l same = count_below-agree t (λ u. is_blocked interferes v u j)
    (λ u. is_blocked interferes w u j) (λ u b. blocked_agree interferes v w n u j a (omega arith) (same u b))
