-- The column in which a charged tick lies is one of the blocked job's program.
use Rattle.std.proofs.Common.{◌≡◌, ℕ, ◌<◌, ◌==◌, ◌&&◌, not, true, length, sym, ap, ◌∙◌, arith}
use Rattle.std.proofs.lemmas.Bool.{and_parts, and_from, eq-eqb, lt-ltb}
use Rattle.number_laws.proofs.TestLaws.{any_below-from}
use Rattle.sporadic_model.specs.SetDef.{SetDef, task_at}
use Rattle.sporadic_model.specs.Users.{is_user}
use Rattle.schedule_model.specs.declared.rule.Rule.TheVariants as rule
use Rattle.schedule_model.specs.LawfulJobs.{AreLawfulJobs}
use Rattle.schedule_model.specs.RowDef.{Trace, jobs_of}
use Rattle.schedule_model.specs.Phase.{phase_of}
use Rattle.schedule_model.specs.Phase.Phase.{Asking}
use Rattle.schedule_model.specs.Activity.{task_of, processor_of, is_active}
use Rattle.schedule_model.specs.SharedRules.{KeepsRun}
use Rattle.schedule_model.specs.Keeping.{KeepsBefore}
use Rattle.schedule_model.specs.BlockedTicks.{is_shared_interference, is_blocked}
use Rattle.schedule_laws.proofs.ActiveJobs.{active_listed, one_active, Requester}
use Rattle.schedule_laws.proofs.KindsOfTicks.{Blocked, blocked_is}
use Rattle.schedule_laws.proofs.Segments.{open_listed, open_resource, open_user}
use Rattle.blocking_columns.specs.declared.columns.Class.{Class}
use Rattle.blocking_columns.specs.declared.columns.Class.TheVariants.{Direct, Indirect, Preemption}
use Rattle.blocking_columns.specs.Columns.{have_one_processor, AreRequests}
use Rattle.charge_laws.specs.Charges.{Executes}
use Rattle.charge_laws.specs.ChargedTicks.{IsCharged}
use Rattle.row_laws.proofs.Brings.{column_with}
use Rattle.row_laws.proofs.SharedPlacement.{passes_not}
use Rattle.row_laws.proofs.Joined.{passing_among, column_from}
use Rattle.spin_rules.specs.SpinRules.{spin_rule}
use Rattle.spin_rules.proofs.InRequests.{in_request_from}
use Rattle.spin_rules.proofs.SpinFacts.{one_in_request}
use Rattle.spin_charging.specs.SpinCharges.{spin_charge}
use Rattle.spin_charging.specs.SpinPrograms.{blocks_by_spinning, is_spin_column, spin_columns}
use Rattle.spin_charging.proofs.SpinCharging.{SpunBy, SpinReason, SpinCharged, spin_charged, spin_executes}
use Rattle.spin_charging.proofs.OneSpin.{holder_asks}
use Rattle.spin_charging.proofs.OwnSpinning.{spun_resource}

-- The columns are requests by users of their resources.
pub spin_requests : (set : SetDef) (i : ℕ) → AreRequests (is_spin_column set i) set
spin_requests set i c h = (and_parts _ _ (and_parts _ _ h).0).1

-- What is spun for is on another processor.
elsewhere : (w : Trace) (n t k s y : ℕ) → AreLawfulJobs (jobs_of w) → KeepsBefore spin_rule w n → t < n → SpunBy w t k s y
    → (processor_of w y ≡ k) → ⊥
elsewhere w n t k s y lawful keeps l a place =
    let r : Requester w t a.resource y = holder_asks w n t a.resource y keeps l a.holder in
    a.other (one_in_request w n t y s lawful keeps (omega arith) (in_request_from w t y r.number a.resource r.active r.phase)
    (in_request_from w t s a.number a.resource a.active a.request) (place ∙ sym a.processor))

-- The job that spins uses the resource.
spinner_uses : (w : Trace) (n t k s y m q : ℕ) → AreLawfulJobs (jobs_of w) → KeepsBefore spin_rule w n → t < n → SpunBy w t k s y
    → phase_of w t y ≡ Asking m q → is_user w.set q (task_of w s) ≡ true
spinner_uses w n t k s y m q lawful keeps l a e =
    open_user w.set w t s a.number q (lawful.each s (active_listed w t s a.active))
    (a.request ∙ ap (Asking a.number) (spun_resource w n t k s y m q keeps l a e))

-- How its class blocks.
blocks_there : (w : Trace) (n t j y m q : ℕ) (c : Class) → AreLawfulJobs (jobs_of w) → KeepsBefore spin_rule w n → t < n
    → is_active w t j ≡ true → phase_of w t y ≡ Asking m q → SpinReason w t j c y
    → blocks_by_spinning w.set (task_of w j) (task_of w y) q c ≡ true
blocks_there w n t j y m q Preemption lawful keeps l active e why =
    let run : KeepsRun w t = keeps t l rule.Run in
    and_from _ _ (lt-ltb _ _ why.lower) (eq-eqb _ _ (sym (run.column (processor_of w j) y why.runs)))
blocks_there w n t j y m q Direct lawful keeps l active e why =
    and_from _ _ (passes_not _ _ (elsewhere w n t (processor_of w j) j y lawful keeps l why))
    (spinner_uses w n t (processor_of w j) j y m q lawful keeps l why e)
blocks_there w n t j y m q Indirect lawful keeps l active e why =
    let s : ℕ = why.0 in
    let a : SpunBy w t (processor_of w j) s y = why.2 in
    and_from _ _ (passes_not _ _ (elsewhere w n t (processor_of w j) s y lawful keeps l a))
    (any_below-from (length w.set.tasks)
    (λ z. (not (z == task_of w j) && have_one_processor w.set z (task_of w j)) && is_user w.set q z) (task_of w s)
    (lawful.each s (active_listed w t s a.active)).task
    (and_from _ _ (and_from _ _ (passes_not _ _ (λ same. why.1 (one_active w t s j a.active active same)))
    (eq-eqb _ _ a.processor)) (spinner_uses w n t (processor_of w j) s y m q lawful keeps l a e)))

-- The task whose request is charged is another one.
other_task : (w : Trace) (n t j y : ℕ) (c : Class) → AreLawfulJobs (jobs_of w) → KeepsBefore spin_rule w n → t < n
    → SpinReason w t j c y → (task_of w y ≡ task_of w j) → ⊥
other_task w n t j y Preemption lawful keeps l why same = omega (arith, why.lower, same)
other_task w n t j y Direct lawful keeps l why same =
    elsewhere w n t (processor_of w j) j y lawful keeps l why (ap (λ x. (task_at w.set x).processor) same)
other_task w n t j y Indirect lawful keeps l why same =
    elsewhere w n t (processor_of w j) why.0 y lawful keeps l why.2 (ap (λ x. (task_at w.set x).processor) same)

-- In a lawful schedule each blocked tick is charged to a request that executes, and its column is there.
pub spin_charges_blocked : (w : Trace) (n t j : ℕ) → AreLawfulJobs (jobs_of w) → KeepsBefore spin_rule w n → t < n
    → is_blocked is_shared_interference w t j ≡ true → IsCharged spin_charge (spin_columns w.set (task_of w j)) w t j
spin_charges_blocked w n t j lawful keeps l blocked = record {
  charge = s.charge;
  is_it = s.is_it;
  executes = e;
  column = column_with w s.charge e.resource;
  lies_in = column_from spin_charge w t j e.number e.resource s.charge s.is_it e.request;
  there = passing_among (is_spin_column w.set (task_of w j)) w.set (task_of w y) e.resource s.charge.class (lawful.each y listed).task
      (open_resource w.set w t y e.number e.resource (lawful.each y listed) e.request)
      (and_from _ _ (and_from _ _ (passes_not _ _ (other_task w n t j y s.charge.class lawful keeps l s.why))
      (open_user w.set w t y e.number e.resource (lawful.each y listed) e.request))
      (blocks_there w n t j y e.number e.resource s.charge.class lawful keeps l b.active e.request s.why));
} where
  b : Blocked is_shared_interference w t j
  b = blocked_is is_shared_interference w t j blocked

  s : SpinCharged w t j
  s = spin_charged w t j lawful (keeps t l) blocked

  e : Executes w t s.charge
  e = spin_executes w n t j s.charge lawful keeps l s.is_it

  y : ℕ
  y = s.charge.job

  listed : y < length w.jobs
  listed = open_listed w t y e.number e.resource e.request
