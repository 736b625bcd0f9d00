-- Where requests run at homes, the same rows before and the same holders leave one running job on each processor; and after the same
-- rows DPCP's rules leave one row.
use Rattle.std.proofs.Common.{◌≡◌, ℕ, ◌<◌, ◌≤◌, true, false, length, refl, sym, ap, ◌∙◌, arith, inl, inr, Option, Some, None}
use Rattle.std.proofs.lemmas.Bool.{cases_Bool, both_ways, and_parts, and_from, eq-eqb}
use Rattle.schedule_model.specs.declared.rule.Rule.TheVariants as rule
use Rattle.schedule_model.specs.RowDef.{Trace, is_job, running_on, holder_in, held_before}
use Rattle.schedule_model.specs.Phase.{Phase, is_finished, phase_of}
use Rattle.schedule_model.specs.Phase.Phase.{Local, Asking, Finished}
use Rattle.schedule_model.specs.Activity.{task_of, processor_of, is_active, is_requester, is_active_local}
use Rattle.schedule_model.specs.SharedRules.{KeepsKeep}
use Rattle.schedule_model.specs.DpcpRules.{home_of, has_request_at, has_requests, holds_at, is_granted, KeepsRun}
use Rattle.schedule_model.specs.DpcpRules.{KeepsGrant, KeepsIdle, RunsFirstHolder, KeepsPriority}
use Rattle.schedule_model.specs.Ranks.{by_task}
use Rattle.schedule_model.specs.Chosen.{IsDpcpChoice}
use Rattle.schedule_laws.specs.Agreement.{AgreeBefore}
use Rattle.schedule_laws.proofs.ActiveJobs.{Active, active_is, active_listed, active_local_from, one_active, requester_listed}
use Rattle.schedule_laws.proofs.Rows.{job_named, named_job}
use Rattle.schedule_laws.proofs.RuleUses.{request_among}
use Rattle.schedule_laws.proofs.Agreement.{agree_back, listed_agree, task_agree, processor_agree, phase_agree}
use Rattle.schedule_laws.proofs.Agreement.{active_agree, requester_agree, active_local_agree, held_before_agree}
use Rattle.schedule_laws.proofs.DpcpAgreement.{request_at_agree, has_requests_agree, granted_agree, holds_agree}
use Rattle.schedule_laws.proofs.SharedChoice.{same_named, rows_same}

holder_same : (v w : Trace) (t q j : ℕ) → AgreeBefore v w t → IsDpcpChoice v t → IsDpcpChoice w t
    → holder_in (v.row t) q ≡ Some j → holder_in (w.row t) q ≡ Some j
holder_same v w t q j a c d e =
    let grant_v : KeepsGrant v t = c.keeps rule.Grant in
    let grant_w : KeepsGrant w t = d.keeps rule.Grant in
    let keep_w : KeepsKeep w t = d.keeps rule.Keep in
    let asks : is_requester w t q j ≡ true = sym (requester_agree v w t t q j a (omega arith)) ∙ grant_v.requests q j e in
    elim (cases_Bool (is_job j (held_before v t q))) [
      | inl kept ↦ keep_w q j (sym (held_before_agree v w t t q a (omega arith)) ∙ job_named j (held_before v t q) kept) asks
      | inr new ↦
          let granted : is_granted v t (home_of v q) j ≡ true =
          grant_v.new q j e (λ h. both_ways (is_job j (held_before v t q)) new (named_job j (held_before v t q) h)) in
          grant_w.granted q j (requester_listed w t q j asks) asks (sym (granted_agree v w t t q j a (omega arith)) ∙ granted)
    ]

-- Where holders agree, so do those that hold at a processor.
holds_at_by : (v w : Trace) (t k j : ℕ) → AgreeBefore v w t → ((q : ℕ) → holder_in (v.row t) q ≡ holder_in (w.row t) q)
    → holds_at v t k j ≡ holds_at w t k j
unfolding holds_at
holds_at_by v w t k j a h =
    rw (
      request_at_agree v w t t k j a (omega arith),
      holds_agree (holder_in (v.row t)) (holder_in (w.row t)) j h (phase_of v t j),
      phase_agree v w t t j a (omega arith),
    ) refl

holds_active : (w : Trace) (t k j : ℕ) → holds_at w t k j ≡ true → is_active w t j ≡ true
unfolding holds_at has_request_at
holds_active w t k j h = (and_parts _ _ (and_parts _ _ h).0).0

-- Who runs, where holders run in this order and the higher task goes first of those that go equally.
pub record RunsByRank (rank : Trace → ℕ → ℕ → ℕ) (w : Trace) (t : ℕ) : Type 0 where
  pub run : KeepsRun w t
  pub idle : KeepsIdle w t
  pub priority : KeepsPriority rank w t
  pub ties : (k r : ℕ) → running_on (w.row t) k ≡ Some r → holds_at w t k r ≡ true
      → (i : ℕ) → i < length w.jobs → holds_at w t k i ≡ true → rank w t i ≡ rank w t r → task_of w r ≤ task_of w i

-- Two running holders of one processor go equally first and are of one task, and so are one job.
one_holder : (rank : Trace → ℕ → ℕ → ℕ) (v w : Trace) (t k : ℕ) → AgreeBefore v w t → ((j : ℕ) → rank v t j ≡ rank w t j)
    → ((q : ℕ) → holder_in (v.row t) q ≡ holder_in (w.row t) q) → RunsByRank rank v t → RunsByRank rank w t
    → (f : RunsFirstHolder rank v t k) (g : RunsFirstHolder rank w t k) → f.runner ≡ g.runner
one_holder rank v w t k a ranks h c d f g =
    let fw : holds_at w t k f.runner ≡ true = sym (holds_at_by v w t k f.runner a h) ∙ f.holds in
    let gv : holds_at v t k g.runner ≡ true = holds_at_by v w t k g.runner a h ∙ g.holds in
    let f_listed = active_listed w t f.runner (holds_active w t k f.runner fw) in
    let g_listed = active_listed v t g.runner (holds_active v t k g.runner gv) in
    let early : rank v t f.runner ≤ rank v t g.runner = f.first g.runner g_listed gv in
    let late : rank w t g.runner ≤ rank w t f.runner = g.first f.runner f_listed fw in
    let tie_v : rank v t g.runner ≡ rank v t f.runner = omega (arith, early, late, ranks f.runner, ranks g.runner) in
    let tie_w : rank w t f.runner ≡ rank w t g.runner = omega (arith, early, late, ranks f.runner, ranks g.runner) in
    let one : task_of v f.runner ≤ task_of v g.runner = c.ties k f.runner f.runs f.holds g.runner g_listed gv tie_v in
    let two : task_of w g.runner ≤ task_of w f.runner = d.ties k g.runner g.runs g.holds f.runner f_listed fw tie_w in
    one_active w t f.runner g.runner (holds_active w t k f.runner fw) (holds_active w t k g.runner g.holds)
    (omega (arith, one, two, task_agree v w t f.runner a, task_agree v w t g.runner a))

-- A job that runs where no request is at the processor is Local, and a task of it.
record LocalRunner (w : Trace) (t k j : ℕ) : Type 0 where
  local : is_active_local w t j ≡ true
  column : processor_of w j ≡ k

request_here : (w : Trace) (t k j m q : ℕ) → is_active w t j ≡ true → phase_of w t j ≡ Asking m q → k ≡ home_of w q
    → has_request_at w t k j ≡ true
unfolding has_request_at
request_here w t k j m q a e h = and_from _ _ a (rw e (eq-eqb (home_of w q) k (sym h)))

local_runner : (w : Trace) (t k j : ℕ) → KeepsRun w t → has_requests w t k ≡ false → running_on (w.row t) k ≡ Some j → LocalRunner w t k j
local_runner w t k j run none e = go (phase_of w t j) refl where
  active : is_active w t j ≡ true
  active = run.active k j e

  go : (p : Phase) → phase_of w t j ≡ p → LocalRunner w t k j
  go Local h = record { local = active_local_from w t j active h; column = sym (run.local k j e (rw h refl)) }
  go (Asking m q) h =
      let home : k ≡ home_of w q = (run.request k j q e (rw h (eq-eqb q q refl))).0 in
      absurd (both_ways (has_requests w t k) none
      (request_among w t k j (active_listed w t j active) (request_here w t k j m q active h home)))
  go Finished h =
      let a : Active w t j = active_is w t j active in
      let x : is_finished (phase_of w t j) ≡ true = rw h refl in
      absurd (both_ways (is_finished (phase_of w t j)) a.unfinished x)

running_local : (rank : Trace → ℕ → ℕ → ℕ) (v w : Trace) (t k r : ℕ) → AgreeBefore v w t → RunsByRank rank v t → RunsByRank rank w t
    → has_requests v t k ≡ false → running_on (v.row t) k ≡ Some r → running_on (w.row t) k ≡ Some r
running_local rank v w t k r a c d none e = go (running_on (w.row t) k) refl where
  r_v : LocalRunner v t k r
  r_v = local_runner v t k r c.run none e

  none_w : has_requests w t k ≡ false
  none_w = sym (has_requests_agree v w t t k a (omega arith)) ∙ none

  local_w : is_active_local w t r ≡ true
  local_w = sym (active_local_agree v w t t r a (omega arith)) ∙ r_v.local

  active_w : is_active w t r ≡ true
  active_w = let run : KeepsRun v t = c.run in sym (active_agree v w t t r a (omega arith)) ∙ run.active k r e

  at_w : processor_of w r ≡ k
  at_w = sym (processor_agree v w t r a) ∙ r_v.column

  go : (p : Option ℕ) → running_on (w.row t) k ≡ p → running_on (w.row t) k ≡ Some r
  go None f = let idle : KeepsIdle w t = d.idle in
      absurd (both_ways (is_active_local w t r) (idle.locals k f r (active_listed w t r active_w) at_w) local_w)
  go (Some s) f =
      let priority_v : KeepsPriority rank v t = c.priority in
      let priority_w : KeepsPriority rank w t = d.priority in
      let run_w : KeepsRun w t = d.run in
      let s_w : LocalRunner w t k s = local_runner w t k s run_w none_w f in
      let s_active : is_active w t s ≡ true = run_w.active k s f in
      let s_listed : s < length v.jobs = omega (arith, active_listed w t s s_active, listed_agree v w t a) in
      let one : task_of v r ≤ task_of v s = priority_v.locals k r e none s s_listed
      (processor_agree v w t s a ∙ s_w.column) (active_local_agree v w t t s a (omega arith) ∙ s_w.local) in
      let two : task_of w s ≤ task_of w r = priority_w.locals k s f none_w r (active_listed w t r active_w) at_w local_w in
      let same : s ≡ r = one_active w t s r s_active active_w (omega (arith, one, two, task_agree v w t r a, task_agree v w t s a)) in
      f ∙ ap (λ i. Some i) same

running_same : (rank : Trace → ℕ → ℕ → ℕ) (v w : Trace) (t k r : ℕ) → AgreeBefore v w t → ((j : ℕ) → rank v t j ≡ rank w t j)
    → ((q : ℕ) → holder_in (v.row t) q ≡ holder_in (w.row t) q) → RunsByRank rank v t → RunsByRank rank w t
    → running_on (v.row t) k ≡ Some r → running_on (w.row t) k ≡ Some r
running_same rank v w t k r a ranks h c d e = elim (cases_Bool (has_requests v t k)) [
  | inr none ↦ running_local rank v w t k r a c d none e
  | inl some ↦
      let priority_v : KeepsPriority rank v t = c.priority in
      let priority_w : KeepsPriority rank w t = d.priority in
      let f : RunsFirstHolder rank v t k = priority_v.requests k some in
      let g : RunsFirstHolder rank w t k = priority_w.requests k (sym (has_requests_agree v w t t k a (omega arith)) ∙ some) in
      let same : f.runner ≡ g.runner = one_holder rank v w t k a ranks h c d f g in
      let x : Some f.runner ≡ Some r = sym f.runs ∙ e in
      g.runs ∙ ap (λ i. Some i) (sym same) ∙ x
]

-- Two rows after the same rows, with the same holders, run the same jobs.
pub one_running : (rank : Trace → ℕ → ℕ → ℕ) (v w : Trace) (t : ℕ) → AgreeBefore v w t → ((j : ℕ) → rank v t j ≡ rank w t j)
    → ((q : ℕ) → holder_in (v.row t) q ≡ holder_in (w.row t) q) → RunsByRank rank v t → RunsByRank rank w t
    → (k : ℕ) → running_on (v.row t) k ≡ running_on (w.row t) k
one_running rank v w t a ranks h c d k = same_named (running_on (v.row t) k) (running_on (w.row t) k)
    (λ r e. running_same rank v w t k r a ranks h c d e)
    (λ r e. running_same rank w v t k r (agree_back v w t a) (λ j. sym (ranks j)) (λ q. sym (h q)) d c e)

-- Of one task the two are equally high.
by_rank : (w : Trace) (t : ℕ) → IsDpcpChoice w t → RunsByRank by_task w t
by_rank w t c = record {
  run = c.keeps rule.Run;
  idle = c.keeps rule.Idle;
  priority = c.keeps rule.Priority;
  ties = λ k r e h i l g same. equal (task_of w i) (task_of w r) same;
} where
  equal : (x y : ℕ) → x ≡ y → y ≤ x
  equal x y e = omega (arith, e)

-- Two rows after the same rows that keep the rules, and have the sizes of the set, are equal.
pub dpcp_choice_one : (v w : Trace) (t : ℕ) → AgreeBefore v w t → IsDpcpChoice v t → IsDpcpChoice w t → v.row t ≡ w.row t
dpcp_choice_one v w t a c d = rows_same v w t a.set c.sized d.sized
    (one_running by_task v w t a (λ j. task_agree v w t j a) holders (by_rank v t c) (by_rank w t d)) holders
  where
    holders : (q : ℕ) → holder_in (v.row t) q ≡ holder_in (w.row t) q
    holders q = same_named (holder_in (v.row t) q) (holder_in (w.row t) q) (λ j e. holder_same v w t q j a c d e)
        (λ j e. holder_same w v t q j (agree_back v w t a) d c e)
