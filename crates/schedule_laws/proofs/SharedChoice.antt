-- After the same rows there is one chosen row, under any order of grants and runs.
use Rattle.std.proofs.Common.{◌≡◌, ℕ, zero, suc, ◌<◌, ◌≤◌, true, false, List, length, refl, sym, ap, ◌∙◌, arith, inl}
use Rattle.std.proofs.Common.{inr, Option, Some, None}
use Rattle.std.proofs.lemmas.Bool.{cases_Bool, cases_lt, both_ways, false_from_ne_true}
use Rattle.std.proofs.lemmas.List.{ext_get_or}
use Rattle.schedule_model.specs.declared.rule.Rule.TheVariants as rule
use Rattle.sporadic_model.specs.SetDef.{SetDef}
use Rattle.schedule_model.specs.RowDef.{RowDef, Trace, is_job, running_on, holder_in, held_before}
use Rattle.schedule_model.specs.Phase.{phase_of}
use Rattle.schedule_model.specs.Activity.{task_of, processor_of, is_requester, is_active_local, is_ready_holder, is_ready}
use Rattle.schedule_model.specs.SharedRules.{Ranks, KeepsRun, KeepsKeep, KeepsGrant, KeepsIdle, KeepsPriority}
use Rattle.schedule_model.specs.Ranks.{mpcp, fmlp_plus}
use Rattle.schedule_model.specs.Chosen.{IsSized, IsSharedChoice}
use Rattle.schedule_laws.specs.Agreement.{AgreeBefore}
use Rattle.schedule_laws.proofs.ActiveJobs.{one_active, Requester, requester_is, requester_listed}
use Rattle.schedule_laws.proofs.Rows.{job_named, named_job, ready_is, ready_active, ready_listed, ready_holding}
use Rattle.schedule_laws.proofs.Agreement.{agree_back, listed_agree, listed_on, task_agree, processor_agree, phase_agree}
use Rattle.schedule_laws.proofs.Agreement.{active_agree, requester_agree, active_local_agree, held_before_agree}
use Rattle.schedule_laws.proofs.SharedAgreement.{RanksAgree, mpcp_agree, fmlp_plus_agree}
use Rattle.schedule_laws.proofs.DpcpAgreement.{holds_agree}

-- Two places that name the same job, if one does.
pub same_named : (o p : Option ℕ) → ((j : ℕ) → o ≡ Some j → p ≡ Some j) → ((j : ℕ) → p ≡ Some j → o ≡ Some j) → o ≡ p
same_named None None a b = refl
same_named None (Some j) a b = b j refl
same_named (Some j) p a b = sym (a j refl)

-- Rows of equal lists are equal, and so are rows of one size that name the same jobs.
row_from : (a b : RowDef) → a.running ≡ b.running → a.holders ≡ b.holders → a ≡ b
row_from a b e f =
    let one : a ≡ record { running = b.running; holders = a.holders } =
    ap (λ (r : List (Option ℕ)). record { running = r; holders = a.holders }) e in
    let two : record { running = b.running; holders = a.holders } ≡ b =
    ap (λ (h : List (Option ℕ)). record { running = b.running; holders = h }) f in
    one ∙ two

-- Rows of one size that name the same jobs are equal.
pub rows_same : (v w : Trace) (t : ℕ) → v.set ≡ w.set → IsSized v.set (v.row t) → IsSized w.set (w.row t)
    → ((k : ℕ) → running_on (v.row t) k ≡ running_on (w.row t) k)
    → ((q : ℕ) → holder_in (v.row t) q ≡ holder_in (w.row t) q) → v.row t ≡ w.row t
rows_same v w t set a b running holders =
    row_from (v.row t) (w.row t)
    (ext_get_or None (v.row t).running (w.row t).running (a.processors ∙ ap (λ s. s.processors) set ∙ sym b.processors)
    (λ i l. running (suc i)))
    (ext_get_or None (v.row t).holders (w.row t).holders
    (a.resources ∙ ap (λ (s : SetDef). length s.resources) set ∙ sym b.resources) (λ i l. holders i))

-- Does an order of grants and runs give the same numbers, whichever schedule is named first?
ranks_back : (o : Ranks) (v w : Trace) (t : ℕ) → RanksAgree o v w t → RanksAgree o w v t
ranks_back o v w t r = record { grant = λ j. sym (r.grant j); run = λ j. sym (r.run j) }

-- Two new holders are of one task, and so are one job.
one_new_holder : (o : Ranks) (v w : Trace) (t q i j : ℕ) → AgreeBefore v w t → RanksAgree o v w t → IsSharedChoice o v t
    → IsSharedChoice o w t → holder_in (v.row t) q ≡ Some j → holder_in (w.row t) q ≡ Some i
    → (held_before v t q ≡ Some j → ⊥) → (held_before w t q ≡ Some i → ⊥) → i ≡ j
one_new_holder o v w t q i j a ranks c d e f new_v new_w =
    let grant_v : KeepsGrant o v t = c.keeps rule.Grant in
    let grant_w : KeepsGrant o w t = d.keeps rule.Grant in
    let jv : is_requester v t q j ≡ true = grant_v.requests q j e in
    let iw : is_requester w t q i ≡ true = grant_w.requests q i f in
    let jw : is_requester w t q j ≡ true = sym (requester_agree v w t t q j a (omega arith)) ∙ jv in
    let iv : is_requester v t q i ≡ true = requester_agree v w t t q i a (omega arith) ∙ iw in
    let one : o.grant v t j ≤ o.grant v t i = grant_v.first q j e new_v i (requester_listed v t q i iv) iv in
    let two : o.grant w t i ≤ o.grant w t j = grant_w.first q i f new_w j (requester_listed w t q j jw) jw in
    let tie_v : o.grant v t i ≡ o.grant v t j = omega (arith, one, two, ranks.grant i, ranks.grant j) in
    let tie_w : o.grant w t j ≡ o.grant w t i = omega (arith, one, two, ranks.grant i, ranks.grant j) in
    let high : task_of v j ≤ task_of v i = c.grants q j e new_v i (requester_listed v t q i iv) iv tie_v in
    let low : task_of w i ≤ task_of w j = d.grants q i f new_w j (requester_listed w t q j jw) jw tie_w in
    let ri : Requester w t q i = requester_is w t q i iw in
    let rj : Requester w t q j = requester_is w t q j jw in
    one_active w t i j ri.active rj.active (omega (arith, high, low, task_agree v w t i a, task_agree v w t j a))

holder_same : (o : Ranks) (v w : Trace) (t q j : ℕ) → AgreeBefore v w t → RanksAgree o v w t → IsSharedChoice o v t
    → IsSharedChoice o w t → holder_in (v.row t) q ≡ Some j → holder_in (w.row t) q ≡ Some j
holder_same o v w t q j a ranks c d e = go (holder_in (w.row t) q) refl where
  asks_v : is_requester v t q j ≡ true
  asks_v = let g : KeepsGrant o v t = c.keeps rule.Grant in g.requests q j e

  asks_w : is_requester w t q j ≡ true
  asks_w = sym (requester_agree v w t t q j a (omega arith)) ∙ asks_v

  kept_w : held_before v t q ≡ Some j → holder_in (w.row t) q ≡ Some j
  kept_w h = let keep : KeepsKeep w t = d.keeps rule.Keep in keep q j (sym (held_before_agree v w t t q a (omega arith)) ∙ h) asks_w

  kept_v : (i : ℕ) → holder_in (w.row t) q ≡ Some i → held_before w t q ≡ Some i → i ≡ j
  kept_v i f h =
      let keep : KeepsKeep v t = c.keeps rule.Keep in
      let grant : KeepsGrant o w t = d.keeps rule.Grant in
      let x : holder_in (v.row t) q ≡ Some i = keep q i (held_before_agree v w t t q a (omega arith) ∙ h)
      (requester_agree v w t t q i a (omega arith) ∙ grant.requests q i f) in
      let y : Some i ≡ Some j = sym x ∙ e in
      cc

  is_kept_v : (i : ℕ) → holder_in (w.row t) q ≡ Some i → (held_before v t q ≡ Some j → ⊥) → i ≡ j
  is_kept_v i f new_v = elim (cases_Bool (is_job i (held_before w t q))) [
    | inl kept ↦ kept_v i f (job_named i (held_before w t q) kept)
    | inr new ↦ one_new_holder o v w t q i j a ranks c d e f new_v
        (λ h. both_ways (is_job i (held_before w t q)) new (named_job i (held_before w t q) h))
  ]

  go : (p : Option ℕ) → holder_in (w.row t) q ≡ p → holder_in (w.row t) q ≡ Some j
  go None f = let g : KeepsGrant o w t = d.keeps rule.Grant in
      absurd (both_ways (is_requester w t q j) (g.free q f j (requester_listed w t q j asks_w)) asks_w)
  go (Some i) f = elim (cases_Bool (is_job j (held_before v t q))) [
    | inl kept ↦ kept_w (job_named j (held_before v t q) kept)
    | inr new ↦
        let s : i ≡ j = is_kept_v i f (λ h. both_ways (is_job j (held_before v t q)) new (named_job j (held_before v t q) h)) in
        f ∙ ap (λ k. Some k) s
  ]

-- Where holders agree, so do ready holders and ready jobs.
pub ready_holder_by : (v w : Trace) (t j : ℕ) → AgreeBefore v w t
    → ((q : ℕ) → holder_in (v.row t) q ≡ holder_in (w.row t) q) → is_ready_holder v t j ≡ is_ready_holder w t j
unfolding is_ready_holder
ready_holder_by v w t j a h =
    rw (
      active_agree v w t t j a (omega arith),
      holds_agree (holder_in (v.row t)) (holder_in (w.row t)) j h (phase_of v t j),
      phase_agree v w t t j a (omega arith),
    ) refl

pub ready_by : (v w : Trace) (t j : ℕ) → AgreeBefore v w t → ((q : ℕ) → holder_in (v.row t) q ≡ holder_in (w.row t) q)
    → is_ready v t j ≡ is_ready w t j
unfolding is_ready
ready_by v w t j a h = rw (active_local_agree v w t t j a (omega arith), ready_holder_by v w t j a h) refl

-- Two running holders of one processor go equally first, are of one task, and so are one job.
one_running_holder : (o : Ranks) (v w : Trace) (t k r s : ℕ) → AgreeBefore v w t → RanksAgree o v w t
    → ((q : ℕ) → holder_in (v.row t) q ≡ holder_in (w.row t) q) → IsSharedChoice o v t → IsSharedChoice o w t
    → running_on (v.row t) k ≡ Some r → running_on (w.row t) k ≡ Some s → is_ready_holder v t r ≡ true → s ≡ r
one_running_holder o v w t k r s a ranks h c d e f rv =
    let run_v : KeepsRun v t = c.keeps rule.Run in
    let run_w : KeepsRun w t = d.keeps rule.Run in
    let priority_v : KeepsPriority o v t = c.keeps rule.Priority in
    let priority_w : KeepsPriority o w t = d.keeps rule.Priority in
    let rw_ : is_ready_holder w t r ≡ true = sym (ready_holder_by v w t r a h) ∙ rv in
    let r_at : processor_of w r ≡ k = sym (run_v.column k r e ∙ processor_agree v w t r a) in
    let s_at : processor_of v s ≡ k = processor_agree v w t s a ∙ sym (run_w.column k s f) in
    let r_listed : r < length w.jobs = ready_listed w t r (ready_holding w t r rw_) in
    let both_w : (is_ready_holder w t s ≡ true) × (o.run w t s ≤ o.run w t r) = priority_w.holders k s f r r_listed r_at rw_ in
    let sw : is_ready_holder w t s ≡ true = both_w.0 in
    let sv : is_ready_holder v t s ≡ true = ready_holder_by v w t s a h ∙ sw in
    let s_listed : s < length v.jobs = ready_listed v t s (ready_holding v t s sv) in
    let both_v : (is_ready_holder v t r ≡ true) × (o.run v t r ≤ o.run v t s) = priority_v.holders k r e s s_listed s_at sv in
    let low : o.run w t s ≤ o.run w t r = both_w.1 in
    let high : o.run v t r ≤ o.run v t s = both_v.1 in
    let tie_v : o.run v t s ≡ o.run v t r = omega (arith, low, high, ranks.run r, ranks.run s) in
    let tie_w : o.run w t r ≡ o.run w t s = omega (arith, low, high, ranks.run r, ranks.run s) in
    let one : task_of v r ≤ task_of v s = c.runs k r e rv s s_listed s_at sv tie_v in
    let two : task_of w s ≤ task_of w r = d.runs k s f sw r r_listed r_at rw_ tie_w in
    one_active w t s r (ready_active w t s (ready_holding w t s sw)) (ready_active w t r (ready_holding w t r rw_))
    (omega (arith, one, two, task_agree v w t r a, task_agree v w t s a))

only_local : (w : Trace) (t j : ℕ) → is_ready w t j ≡ true → is_ready_holder w t j ≡ false → is_active_local w t j ≡ true
only_local w t j h none = elim (ready_is w t j h) [
  | inl local ↦ local
  | inr holds ↦ absurd (both_ways (is_ready_holder w t j) none holds)
]

-- Two running jobs of one processor without ready holders are of its highest Local task, and so are one job.
one_running_local : (o : Ranks) (v w : Trace) (t k r s : ℕ) → AgreeBefore v w t
    → ((q : ℕ) → holder_in (v.row t) q ≡ holder_in (w.row t) q) → IsSharedChoice o v t → IsSharedChoice o w t
    → running_on (v.row t) k ≡ Some r → running_on (w.row t) k ≡ Some s → is_ready_holder v t r ≡ false → s ≡ r
one_running_local o v w t k r s a h c d e f rv =
    let run_v : KeepsRun v t = c.keeps rule.Run in
    let run_w : KeepsRun w t = d.keeps rule.Run in
    let priority_v : KeepsPriority o v t = c.keeps rule.Priority in
    let priority_w : KeepsPriority o w t = d.keeps rule.Priority in
    let none_v : (i : ℕ) → i < length v.jobs → processor_of v i ≡ k → is_ready_holder v t i ≡ false =
    λ i l p. false_from_ne_true (is_ready_holder v t i) (λ g. both_ways (is_ready_holder v t r) rv (priority_v.holders k r e i l p g).0) in
    let none_w : (i : ℕ) → i < length w.jobs → processor_of w i ≡ k → is_ready_holder w t i ≡ false =
    λ i l p. sym (ready_holder_by v w t i a h) ∙ none_v i (omega (arith, l, listed_agree v w t a)) (processor_agree v w t i a ∙ p) in
    let r_ready : is_ready v t r ≡ true = run_v.ready k r e in
    let s_ready : is_ready w t s ≡ true = run_w.ready k s f in
    let r_at : processor_of w r ≡ k = sym (run_v.column k r e ∙ processor_agree v w t r a) in
    let s_at : processor_of v s ≡ k = processor_agree v w t s a ∙ sym (run_w.column k s f) in
    let r_listed : r < length w.jobs = listed_on v w t r a (ready_listed v t r r_ready) in
    let s_listed : s < length w.jobs = ready_listed w t s s_ready in
    let r_local : is_active_local v t r ≡ true = only_local v t r r_ready rv in
    let s_local : is_active_local w t s ≡ true = only_local w t s s_ready (none_w s s_listed (sym (run_w.column k s f))) in
    let one : task_of v r ≤ task_of v s = priority_v.locals k r e none_v s
    (omega (arith, s_listed, listed_agree v w t a)) s_at (active_local_agree v w t t s a (omega arith) ∙ s_local) in
    let two : task_of w s ≤ task_of w r =
    priority_w.locals k s f none_w r r_listed r_at (sym (active_local_agree v w t t r a (omega arith)) ∙ r_local) in
    one_active w t s r (ready_active w t s s_ready)
    (sym (active_agree v w t t r a (omega arith)) ∙ ready_active v t r r_ready)
    (omega (arith, one, two, task_agree v w t r a, task_agree v w t s a))

running_same : (o : Ranks) (v w : Trace) (t k r : ℕ) → AgreeBefore v w t → RanksAgree o v w t
    → ((q : ℕ) → holder_in (v.row t) q ≡ holder_in (w.row t) q) → IsSharedChoice o v t → IsSharedChoice o w t
    → running_on (v.row t) k ≡ Some r → running_on (w.row t) k ≡ Some r
running_same o v w t k r a ranks h c d e = go (running_on (w.row t) k) refl where
  ready_w : is_ready w t r ≡ true
  ready_w = let run : KeepsRun v t = c.keeps rule.Run in sym (ready_by v w t r a h) ∙ run.ready k r e

  at_w : processor_of w r ≡ k
  at_w = let run : KeepsRun v t = c.keeps rule.Run in sym (run.column k r e ∙ processor_agree v w t r a)

  go : (p : Option ℕ) → running_on (w.row t) k ≡ p → running_on (w.row t) k ≡ Some r
  go None f = let idle : KeepsIdle w t = d.keeps rule.Idle in
      absurd (both_ways (is_ready w t r) (idle k f r (ready_listed w t r ready_w) at_w) ready_w)
  go (Some s) f = elim (cases_Bool (is_ready_holder v t r)) [
    | inl holds ↦ f ∙ ap (λ i. Some i) (one_running_holder o v w t k r s a ranks h c d e f holds)
    | inr local ↦ f ∙ ap (λ i. Some i) (one_running_local o v w t k r s a h c d e f local)
  ]

-- Two chosen rows after the same rows are equal.
pub shared_choice_one : (o : Ranks) (v w : Trace) (t : ℕ) → AgreeBefore v w t → RanksAgree o v w t
    → IsSharedChoice o v t → IsSharedChoice o w t → v.row t ≡ w.row t
shared_choice_one o v w t a ranks c d = rows_same v w t a.set c.sized d.sized running holders where
  back : AgreeBefore w v t
  back = agree_back v w t a

  holders : (q : ℕ) → holder_in (v.row t) q ≡ holder_in (w.row t) q
  holders q = same_named (holder_in (v.row t) q) (holder_in (w.row t) q) (λ j e. holder_same o v w t q j a ranks c d e)
      (λ j e. holder_same o w v t q j back (ranks_back o v w t ranks) d c e)

  running : (k : ℕ) → running_on (v.row t) k ≡ running_on (w.row t) k
  running k = same_named (running_on (v.row t) k) (running_on (w.row t) k) (λ r e. running_same o v w t k r a ranks holders c d e)
      (λ r e. running_same o w v t k r back (ranks_back o v w t ranks) (λ q. sym (holders q)) d c e)

-- So under MPCP.
pub mpcp_choice_one : (v w : Trace) (t : ℕ) → AgreeBefore v w t → IsSharedChoice mpcp v t → IsSharedChoice mpcp w t → v.row t ≡ w.row t
mpcp_choice_one v w t a c d = shared_choice_one mpcp v w t a (mpcp_agree v w t t a (omega arith)) c d

-- So under FMLP+.
pub fmlp_plus_choice_one : (v w : Trace) (t : ℕ) → AgreeBefore v w t → IsSharedChoice fmlp_plus v t
    → IsSharedChoice fmlp_plus w t → v.row t ≡ w.row t
fmlp_plus_choice_one v w t a c d = shared_choice_one fmlp_plus v w t a (fmlp_plus_agree v w t t a (omega arith)) c d

-- Where there is one chosen row after the same rows, two schedules of chosen rows are one.
pub schedules_one : (chosen : Trace → ℕ → Type 0) (v w : Trace) (n : ℕ)
    → ((t : ℕ) → AgreeBefore v w t → chosen v t → chosen w t → v.row t ≡ w.row t) → v.set ≡ w.set → v.jobs ≡ w.jobs
    → ((t : ℕ) → t < n → chosen v t) → ((t : ℕ) → t < n → chosen w t) → AgreeBefore v w n
schedules_one chosen v w zero one set jobs c d = record { set = set; jobs = jobs; rows = λ t l. absurd (omega arith) }
schedules_one chosen v w (suc n) one set jobs c d =
    let back : AgreeBefore v w n = schedules_one chosen v w n one set jobs (λ t l. c t (omega arith)) (λ t l. d t (omega arith)) in
    record {
      set = set;
      jobs = jobs;
      rows = λ t l. elim (cases_lt t n) [
        | inl before ↦ back.rows t before
        | inr here ↦
            let last : v.row n ≡ w.row n = one n back (c n (omega arith)) (d n (omega arith)) in
            let e : t ≡ n = omega arith in
            ap v.row e ∙ last ∙ ap w.row (sym e)
      ];
    }
