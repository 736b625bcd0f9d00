-- When two blocked ticks are charged to one request: while a lower job's request is open, and while a job spins in one request.
use Rattle.std.proofs.Common.{◌≡◌, ℕ, ◌<◌, ◌≤◌, true, sym, ap, ◌∙◌, arith, Some}
use Rattle.schedule_model.specs.declared.rule.Rule.TheVariants as rule
use Rattle.schedule_model.specs.JobDef.{job_of}
use Rattle.schedule_model.specs.LawfulJobs.{is_script, AreLawfulJobs}
use Rattle.schedule_model.specs.RowDef.{Trace, jobs_of, holder_in}
use Rattle.schedule_model.specs.Phase.Phase.{Asking}
use Rattle.schedule_model.specs.Activity.{task_of, processor_of, is_active, is_requester, issue_tick_of}
use Rattle.schedule_model.specs.SharedRules.{KeepsGrant}
use Rattle.schedule_model.specs.Ranks.{fmlp_plus}
use Rattle.schedule_model.specs.Keeping.{KeepsBefore}
use Rattle.schedule_laws.proofs.ActiveJobs.{active_listed, Requester, requester_is, requester_from}
use Rattle.schedule_laws.proofs.Holders.{open_at}
use Rattle.row_laws.proofs.Fifo.{fifo_holder, one_turn}
use Rattle.row_laws.proofs.Intervals.{unfinished_between}
use Rattle.row_laws.proofs.Requests.{AsksAlone, one_open}
use Rattle.row_laws.proofs.SlotRow.{OneRequest}
use Rattle.spin_rules.specs.SpinRules.{is_in_request, spin_rule}
use Rattle.spin_rules.proofs.InRequests.{InRequest, in_request_is, in_request_from}
use Rattle.spin_rules.proofs.SpinFacts.{spin_runs_active, one_in_request, no_lower_local}
use Rattle.spin_charging.proofs.SpinCharging.{SpunBy}

-- The holder of a resource was issued no later than any request of it.
pub spin_fifo_holder : (w : Trace) (n t q y j : ℕ) → AreLawfulJobs (jobs_of w) → KeepsBefore spin_rule w n → t < n
    → holder_in (w.row t) q ≡ Some y → is_requester w t q j ≡ true → issue_tick_of w t y ≤ issue_tick_of w t j
spin_fifo_holder w n t q y j lawful keeps l holds asks =
    fifo_holder w n t q y j lawful (spin_runs_active w n keeps) (λ u b. keeps u b rule.Grant) l holds asks

-- A holder is a requester.
pub holder_asks : (w : Trace) (n t q y : ℕ) → KeepsBefore spin_rule w n → t < n → holder_in (w.row t) q ≡ Some y → Requester w t q y
holder_asks w n t q y keeps l e =
    let grant : KeepsGrant fmlp_plus w t = keeps t l rule.Grant in requester_is w t q y (grant.requests q y e)

-- A processor has one job in a request at a time.
pub processors_ask_alone : (w : Trace) (n : ℕ) → AreLawfulJobs (jobs_of w) → KeepsBefore spin_rule w n → AsksAlone w n (processor_of w)
processors_ask_alone w n lawful keeps t q r y z l a b place =
    let one : Requester w t q y = requester_is w t q y a in
    let other : Requester w t r z = requester_is w t r z b in
    one_in_request w n t y z lawful keeps (omega arith) (in_request_from w t y one.number q one.active one.phase)
    (in_request_from w t z other.number r other.active other.phase) place

-- What a job spins for was issued no later than its request.
pub spun_earlier : (w : Trace) (n t k s y : ℕ) → AreLawfulJobs (jobs_of w) → KeepsBefore spin_rule w n → t < n → SpunBy w t k s y
    → issue_tick_of w t y ≤ issue_tick_of w t s
spun_earlier w n t k s y lawful keeps l a =
    spin_fifo_holder w n t a.resource y s lawful keeps l a.holder (requester_from w t a.resource s a.number a.active a.request)

-- What a job spins for in one request is one request of each other processor.
pub spun_one : (w : Trace) (n u v k s y z : ℕ) → AreLawfulJobs (jobs_of w) → KeepsBefore spin_rule w n → u ≤ v → v < n
    → (a : SpunBy w u k s y) → (b : SpunBy w v k s z) → a.number ≡ b.number → processor_of w y ≡ processor_of w z → OneRequest w u v y z
spun_one w n u v k s y z lawful keeps order l a b same place =
    one_turn w n u v s y z a.number a.resource b.resource a.resource late.number b.resource (processor_of w) (spin_runs_active w n keeps)
    (processors_ask_alone w n lawful keeps) order l (lawful.each z (active_listed w v z late.active)).script a.request
    (b.request ∙ ap (λ m. Asking m b.resource) (sym same))
    (requester_from w u a.resource y early.number early.active early.phase) late.phase place
    (spun_earlier w n v k s z lawful keeps l b) where
      early : Requester w u a.resource y
      early = holder_asks w n u a.resource y keeps (omega arith) a.holder

      late : Requester w v b.resource z
      late = holder_asks w n v b.resource z keeps l b.holder

-- While a job is active, of the requests of lower jobs of its processor one is open.
pub lower_one : (w : Trace) (n u v j y z : ℕ) → AreLawfulJobs (jobs_of w) → KeepsBefore spin_rule w n → u ≤ v → v < n
    → is_active w u j ≡ true → is_active w v j ≡ true → is_in_request w u y ≡ true → is_in_request w v z ≡ true
    → processor_of w y ≡ processor_of w j → processor_of w z ≡ processor_of w j → task_of w j < task_of w z
    → OneRequest w u v y z
lower_one w n u v j y z lawful keeps order l early late first second y_place z_place lower =
    one_open w n u v y z b.resource a.number a.resource (processor_of w) (spin_runs_active w n keeps)
    (processors_ask_alone w n lawful keeps) (omega arith) script (requester_from w u b.resource y b.number b.active b.phase)
    (y_place ∙ sym z_place)
    (open_at w u v z a.number a.resource script order a.phase
    (λ t from before local runs. no_lower_local w t j z (keeps t (omega arith))
    (unfinished_between w u t v j early late from (omega arith)).1 lower z_place local runs)) a.phase where
      b : InRequest w u y
      b = in_request_is w u y first

      a : InRequest w v z
      a = in_request_is w v z second

      script : is_script (job_of w.jobs z).script ≡ true
      script = (lawful.each z (active_listed w v z a.active)).script
