-- Issue ticks: from when a request is open.
use Rattle.std.proofs.Common.{◌≡◌, ℕ, suc, ◌<◌, ◌≤◌, true, false, sym, arith, inl, inr}
use Rattle.std.proofs.lemmas.Bool.{cases_lt, cases_Bool, both_ways}
use Rattle.number_laws.proofs.TestLaws.{first_below-at_most, first_below-passes, first_below-least, first_below-is}
use Rattle.schedule_model.specs.RowDef.{Trace}
use Rattle.schedule_model.specs.Phase.{is_same_request, phase_of}
use Rattle.schedule_model.specs.Phase.Phase.{Asking}
use Rattle.schedule_model.specs.Activity.{issue_tick_of}
use Rattle.schedule_laws.proofs.Ticks.{SameRequest, same_parts, same_true, same_from, open_between, one_resource}

-- The issue tick is no later than the present tick, and than each tick at which the request was open.
pub issue_at_most : (w : Trace) (t j : ℕ) → issue_tick_of w t j ≤ t
unfolding issue_tick_of
issue_at_most w t j = first_below-at_most t (λ u. is_same_request (phase_of w u j) (phase_of w t j))

-- It is no later than any tick of the same request.
pub issue_least : (w : Trace) (u t j : ℕ) → is_same_request (phase_of w u j) (phase_of w t j) ≡ true → issue_tick_of w t j ≤ u
unfolding issue_tick_of
issue_least w u t j h = first_below-least t (λ k. is_same_request (phase_of w k j) (phase_of w t j)) u h

-- The same, where both phases are known.
pub issue_no_later : (w : Trace) (u t j m q r : ℕ) → phase_of w u j ≡ Asking m q → phase_of w t j ≡ Asking m r → issue_tick_of w t j ≤ u
issue_no_later w u t j m q r h g = issue_least w u t j (same_from (phase_of w u j) (phase_of w t j) m q r h g)

issue_passes : (w : Trace) (t j : ℕ) → issue_tick_of w t j < t
    → is_same_request (phase_of w (issue_tick_of w t j) j) (phase_of w t j) ≡ true
unfolding issue_tick_of
issue_passes w t j l = first_below-passes t (λ u. is_same_request (phase_of w u j) (phase_of w t j)) l

-- At the issue tick the request is open.
pub open_at_issue : (w : Trace) (t j m q : ℕ) → phase_of w t j ≡ Asking m q → phase_of w (issue_tick_of w t j) j ≡ Asking m q
open_at_issue w t j m q h = elim (cases_lt (issue_tick_of w t j) t) [
  | inl before ↦
      let same : is_same_request (phase_of w (issue_tick_of w t j) j) (Asking m q) ≡ true = rw (← h) (issue_passes w t j before) in
      let some : (r : ℕ) × (phase_of w (issue_tick_of w t j) j ≡ Asking m r) = same_true (phase_of w (issue_tick_of w t j) j) m q same in
      let e : some.0 ≡ q = one_resource w (issue_tick_of w t j) t j m some.0 q some.1 h in
      rw (← e) some.1
  | inr here ↦ let e : issue_tick_of w t j ≡ t = omega (arith, issue_at_most w t j) in rw e h
]

-- The request is open from its issue tick on.
pub open_since : (w : Trace) (u t j m q : ℕ) → phase_of w t j ≡ Asking m q → issue_tick_of w t j ≤ u → u ≤ t → phase_of w u j ≡ Asking m q
open_since w u t j m q h a b = open_between w (issue_tick_of w t j) u t j m q q (open_at_issue w t j m q h) h a b

-- While a request is open its issue tick stays.
pub issue_stays : (w : Trace) (u t j m q r : ℕ) → phase_of w u j ≡ Asking m q → phase_of w t j ≡ Asking m r → u ≤ t
    → issue_tick_of w u j ≡ issue_tick_of w t j
issue_stays w u t j m q r h g l =
    let early : issue_tick_of w t j ≤ u = issue_no_later w u t j m q r h g in
    let there : issue_tick_of w t j ≤ issue_tick_of w u j =
    issue_no_later w (issue_tick_of w u j) t j m q r (open_at_issue w u j m q h) g in
    let back : issue_tick_of w u j ≤ issue_tick_of w t j = issue_no_later w (issue_tick_of w t j) u j m r q (open_at_issue w t j m r g) h in
    omega arith

-- From one tick to the next.
pub issue_kept : (w : Trace) (t j : ℕ) → is_same_request (phase_of w t j) (phase_of w (suc t) j) ≡ true
    → issue_tick_of w (suc t) j ≡ issue_tick_of w t j
issue_kept w t j h =
    let s : SameRequest (phase_of w t j) (phase_of w (suc t) j) = same_parts (phase_of w t j) (phase_of w (suc t) j) h in
    sym (issue_stays w t (suc t) j s.number s.first s.second s.one s.two (omega arith))

new_before : (w : Trace) (t j k : ℕ) → is_same_request (phase_of w t j) (phase_of w (suc t) j) ≡ false → k < suc t
    → is_same_request (phase_of w k j) (phase_of w (suc t) j) ≡ false
new_before w t j k h l = elim (cases_Bool (is_same_request (phase_of w k j) (phase_of w (suc t) j))) [
  | inl same ↦
      let s : SameRequest (phase_of w k j) (phase_of w (suc t) j) = same_parts (phase_of w k j) (phase_of w (suc t) j) same in
      let here : phase_of w t j ≡ Asking s.number s.first =
      open_between w k t (suc t) j s.number s.first s.second s.one s.two (omega arith) (omega arith) in
      absurd (both_ways _ h (same_from (phase_of w t j) (phase_of w (suc t) j) s.number s.first s.second here s.two))
  | inr other ↦ other
]

-- Where a request is new, or there is none, the issue tick is the present tick.
pub issue_new : (w : Trace) (t j : ℕ) → is_same_request (phase_of w t j) (phase_of w (suc t) j) ≡ false → issue_tick_of w (suc t) j ≡ suc t
unfolding issue_tick_of
issue_new w t j h = first_below-is (suc t) (λ u. is_same_request (phase_of w u j) (phase_of w (suc t) j)) (suc t)
    (omega arith) (λ k l. new_before w t j k h l) (λ l. absurd (omega arith))

-- At tick 0 it is 0.
pub issue_first : (w : Trace) (j : ℕ) → issue_tick_of w 0 j ≡ 0
issue_first w j = omega (arith, issue_at_most w 0 j)
