-- Requests are granted in the order of issue, and of those issued at one tick the highest task's comes first. Then the same earlier
-- rows leave the same holders.
use Rattle.std.proofs.Common.{◌≡◌, ℕ, ◌≤◌, true, refl, sym, ap, ◌∙◌, arith, inl, inr, Option, Some, None}
use Rattle.std.proofs.lemmas.Bool.{cases_Bool, both_ways}
use Rattle.schedule_model.specs.RowDef.{Trace, is_job, holder_in, held_before}
use Rattle.schedule_model.specs.Activity.{task_of, is_requester, issue_tick_of}
use Rattle.schedule_model.specs.SharedRules.{KeepsKeep, KeepsGrant}
use Rattle.schedule_model.specs.Ranks.{fmlp_plus}
use Rattle.schedule_model.specs.Chosen.{GrantsHighest}
use Rattle.schedule_laws.specs.Agreement.{AgreeBefore}
use Rattle.schedule_laws.proofs.ActiveJobs.{one_active, Requester, requester_is, requester_listed}
use Rattle.schedule_laws.proofs.Rows.{job_named, named_job}
use Rattle.schedule_laws.proofs.Agreement.{agree_back, task_agree, requester_agree, issue_agree, held_before_agree}
use Rattle.schedule_laws.proofs.SharedChoice.{same_named}

-- Holders are kept and granted in this way.
pub record GrantsInTurn (w : Trace) (t : ℕ) : Type 0 where
  pub keep : KeepsKeep w t
  pub grant : KeepsGrant fmlp_plus w t
  pub ties : GrantsHighest issue_tick_of w t

-- Two new holders are of one task, so they are one job.
one_new_holder : (v w : Trace) (t q i j : ℕ) → AgreeBefore v w t → GrantsInTurn v t → GrantsInTurn w t
    → holder_in (v.row t) q ≡ Some j → holder_in (w.row t) q ≡ Some i
    → (held_before v t q ≡ Some j → ⊥) → (held_before w t q ≡ Some i → ⊥) → i ≡ j
unfolding fmlp_plus
one_new_holder v w t q i j a c d e f new_v new_w =
    let jv : is_requester v t q j ≡ true = c.grant.requests q j e in
    let iw : is_requester w t q i ≡ true = d.grant.requests q i f in
    let jw : is_requester w t q j ≡ true = sym (requester_agree v w t t q j a (omega arith)) ∙ jv in
    let iv : is_requester v t q i ≡ true = requester_agree v w t t q i a (omega arith) ∙ iw in
    let one : issue_tick_of v t j ≤ issue_tick_of v t i = c.grant.first q j e new_v i (requester_listed v t q i iv) iv in
    let two : issue_tick_of w t i ≤ issue_tick_of w t j = d.grant.first q i f new_w j (requester_listed w t q j jw) jw in
    let same_i : issue_tick_of v t i ≡ issue_tick_of w t i = issue_agree v w t t i a (omega arith) in
    let same_j : issue_tick_of v t j ≡ issue_tick_of w t j = issue_agree v w t t j a (omega arith) in
    let tie_v : issue_tick_of v t i ≡ issue_tick_of v t j = omega (arith, one, two, same_i, same_j) in
    let tie_w : issue_tick_of w t j ≡ issue_tick_of w t i = omega (arith, one, two, same_i, same_j) in
    let high : task_of v j ≤ task_of v i = c.ties q j e new_v i (requester_listed v t q i iv) iv tie_v in
    let low : task_of w i ≤ task_of w j = d.ties q i f new_w j (requester_listed w t q j jw) jw tie_w in
    let ri : Requester w t q i = requester_is w t q i iw in
    let rj : Requester w t q j = requester_is w t q j jw in
    one_active w t i j ri.active rj.active (omega (arith, high, low, task_agree v w t i a, task_agree v w t j a))

holder_same : (v w : Trace) (t q j : ℕ) → AgreeBefore v w t → GrantsInTurn v t → GrantsInTurn w t
    → holder_in (v.row t) q ≡ Some j → holder_in (w.row t) q ≡ Some j
holder_same v w t q j a c d e = go (holder_in (w.row t) q) refl where
  asks_v : is_requester v t q j ≡ true
  asks_v = c.grant.requests q j e

  asks_w : is_requester w t q j ≡ true
  asks_w = sym (requester_agree v w t t q j a (omega arith)) ∙ asks_v

  kept_w : held_before v t q ≡ Some j → holder_in (w.row t) q ≡ Some j
  kept_w h = d.keep q j (sym (held_before_agree v w t t q a (omega arith)) ∙ h) asks_w

  kept_v : (i : ℕ) → holder_in (w.row t) q ≡ Some i → held_before w t q ≡ Some i → i ≡ j
  kept_v i f h =
      let x : holder_in (v.row t) q ≡ Some i = c.keep q i (held_before_agree v w t t q a (omega arith) ∙ h)
      (requester_agree v w t t q i a (omega arith) ∙ d.grant.requests q i f) in
      let y : Some i ≡ Some j = sym x ∙ e in
      cc

  is_kept_v : (i : ℕ) → holder_in (w.row t) q ≡ Some i → (held_before v t q ≡ Some j → ⊥) → i ≡ j
  is_kept_v i f new_v = elim (cases_Bool (is_job i (held_before w t q))) [
    | inl kept ↦ kept_v i f (job_named i (held_before w t q) kept)
    | inr new ↦ one_new_holder v w t q i j a c d e f new_v
        (λ h. both_ways (is_job i (held_before w t q)) new (named_job i (held_before w t q) h))
  ]

  go : (p : Option ℕ) → holder_in (w.row t) q ≡ p → holder_in (w.row t) q ≡ Some j
  go None f = absurd (both_ways (is_requester w t q j) (d.grant.free q f j (requester_listed w t q j asks_w)) asks_w)
  go (Some i) f = elim (cases_Bool (is_job j (held_before v t q))) [
    | inl kept ↦ kept_w (job_named j (held_before v t q) kept)
    | inr new ↦
        let s : i ≡ j = is_kept_v i f (λ h. both_ways (is_job j (held_before v t q)) new (named_job j (held_before v t q) h)) in
        f ∙ ap (λ k. Some k) s
  ]

pub holders_same : (v w : Trace) (t : ℕ) → AgreeBefore v w t → GrantsInTurn v t → GrantsInTurn w t
    → (q : ℕ) → holder_in (v.row t) q ≡ holder_in (w.row t) q
holders_same v w t a c d q = same_named (holder_in (v.row t) q) (holder_in (w.row t) q) (λ j e. holder_same v w t q j a c d e)
    (λ j e. holder_same w v t q j (agree_back v w t a) d c e)
