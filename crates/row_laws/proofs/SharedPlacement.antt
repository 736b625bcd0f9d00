-- Under shared memory a tick is charged in a column of the blocked job's program.
use Rattle.std.proofs.Common.{◌≡◌, ℕ, ◌<◌, ◌≤◌, ◌==◌, ◌&&◌, not, true, false, length, refl, sym, ap, ◌∙◌, arith, inl, inr, Some}
use Rattle.std.specs.Option.{option_map_or}
use Rattle.std.proofs.lemmas.Bool.{cases_Bool, both_ways, and_from, eq-eqb, ne_eqb, lt-ltb, le-leb, not_from_false}
use Rattle.number_laws.specs.Tests.{any_below}
use Rattle.number_laws.proofs.TestLaws.{any_below-from}
use Rattle.sporadic_model.specs.SetDef.{SetDef, is_higher_local}
use Rattle.sporadic_model.specs.declared.ids.Protocol.{Protocol}
use Rattle.sporadic_model.specs.declared.ids.Protocol.TheVariants as protocol
use Rattle.schedule_model.specs.declared.rule.Rule.TheVariants as rule
use Rattle.schedule_model.specs.LawfulJobs.{AreLawfulJobs}
use Rattle.schedule_model.specs.RowDef.{Trace, jobs_of, running_on, holder_in, runs_in}
use Rattle.schedule_model.specs.Phase.{phase_of}
use Rattle.schedule_model.specs.Phase.Phase.{Asking}
use Rattle.schedule_model.specs.Activity.{task_of, processor_of, is_active, is_ready}
use Rattle.schedule_model.specs.SharedRules.{Ranks, KeepsRun}
use Rattle.schedule_model.specs.Ranks.{mpcp, fmlp_plus, boost_in}
use Rattle.schedule_model.specs.Protocols.{shared_rule}
use Rattle.schedule_model.specs.Keeping.{KeepsRow}
use Rattle.schedule_model.specs.BlockedTicks.{is_delayed, runs_higher, is_shared_interference, is_blocked}
use Rattle.schedule_laws.proofs.ActiveJobs.{active_listed, one_active}
use Rattle.schedule_laws.proofs.Rows.{runs_from, runs_where, ReadyHolder, ready_holder_is, ready_active, ready_holding}
use Rattle.schedule_laws.proofs.KindsOfTicks.{Blocked, blocked_is, delayed_from, HigherLocal, higher_local_is}
use Rattle.schedule_laws.proofs.Segments.{open_listed, open_resource, open_user}
use Rattle.blocking_columns.specs.declared.columns.Class.{Class}
use Rattle.blocking_columns.specs.declared.columns.Class.TheVariants.{Direct, Indirect, Preemption}
use Rattle.blocking_columns.specs.Ceilings.{remote_ceiling_rank}
use Rattle.blocking_columns.specs.Columns.{may_run_before, is_path, has_path, blocks_by_sharing, may_block, is_column}
use Rattle.charge_laws.proofs.SharedCharging.{IndirectBy, SharedReason}

-- A column of task i, by its task, its resource and its class.
pub record IsPlaced (p : Protocol) (w : Trace) (i x q : ℕ) (c : Class) : Type 0 where
  pub task : x < length w.set.tasks
  pub resource : q < length w.set.resources
  pub column : is_column p w.set i (record { task = x; resource = q; class = c }) ≡ true

-- A job that runs while j is blocked is of another task, and of no higher one of j's processor.
pub record OtherRunner (w : Trace) (t j y : ℕ) : Type 0 where
  pub other : (task_of w y ≡ task_of w j) → ⊥
  pub not_higher : is_higher_local w.set (task_of w j) (task_of w y) ≡ false

pub other_task : (w : Trace) (t j y : ℕ) → is_active w t j ≡ true → runs_in (w.row t) j ≡ false → is_active w t y ≡ true
    → runs_in (w.row t) y ≡ true → (task_of w y ≡ task_of w j) → ⊥
other_task w t j y active waits other runs e =
    let same : y ≡ j = one_active w t y j other active e in
    let here : runs_in (w.row t) j ≡ true = rw (← same) runs in
    both_ways (runs_in (w.row t) j) waits here

other_runner : (w : Trace) (t j y : ℕ) → KeepsRun w t → Blocked is_shared_interference w t j → runs_in (w.row t) y ≡ true
    → OtherRunner w t j y
unfolding is_shared_interference runs_higher
other_runner w t j y run b runs = record { other = other_task w t j y b.active b.waits active runs; not_higher = low } where
  at : (k : ℕ) × (running_on (w.row t) k ≡ Some y)
  at = runs_where (w.row t) y runs

  active : is_active w t y ≡ true
  active = ready_active w t y (run.ready at.0 y at.1)

  low : is_higher_local w.set (task_of w j) (task_of w y) ≡ false
  low = elim (cases_Bool (is_higher_local w.set (task_of w j) (task_of w y))) [
    | inr off ↦ off
    | inl higher ↦
        let h : HigherLocal w.set (task_of w j) (task_of w y) = higher_local_is w.set (task_of w j) (task_of w y) higher in
        let place : at.0 ≡ processor_of w j = run.column at.0 y at.1 ∙ h.processor in
        let here : running_on (w.row t) (processor_of w j) ≡ Some y = rw (← place) at.1 in
        let there : option_map_or (λ x. is_higher_local w.set (task_of w j) (task_of w x)) (running_on (w.row t) (processor_of w j)) false
        ≡ true = rw here higher in
        absurd (both_ways _ b.free (and_from (is_delayed w t j) _ (delayed_from w t j b.active b.waits) there))
  ]

-- Which protocol runs holders in which order? If r's job runs before first's, r's request may run in its place.
abbrev pub RunsAs : Protocol → Ranks → Type 0
RunsAs p o = (w : Trace) (t j r q k m n : ℕ) → phase_of w t j ≡ Asking m q → phase_of w t r ≡ Asking n k
    → processor_of w j ≡ processor_of w r → o.run w t r ≤ o.run w t j
    → may_run_before p w.set (processor_of w r) k q ≡ true

pub mpcp_runs : RunsAs protocol.Mpcp mpcp
unfolding mpcp
mpcp_runs w t j r q k m n asks runs same order =
    let one : boost_in w (processor_of w j) (phase_of w t j) ≡ remote_ceiling_rank w.set q (processor_of w r) =
    ap (boost_in w (processor_of w j)) asks ∙ ap (remote_ceiling_rank w.set q) same in
    let two : boost_in w (processor_of w r) (phase_of w t r) ≡ remote_ceiling_rank w.set k (processor_of w r) =
    ap (boost_in w (processor_of w r)) runs in
    le-leb _ _ (omega (arith, one, two, order))

pub fmlp_runs : RunsAs protocol.FmlpPlus fmlp_plus
fmlp_runs w t j r q k m n asks runs same order = refl

-- A protocol of shared memory, and its order.
pub record Sharing (p : Protocol) (o : Ranks) : Type 0 where
  pub runs : RunsAs p o
  pub blocks : (set : SetDef) (i x q : ℕ) (c : Class)
      → may_block p set i x q c ≡ (not (is_higher_local set i x) && blocks_by_sharing p set i x q c)

pub mpcp_shares : Sharing protocol.Mpcp mpcp
mpcp_shares = record { runs = mpcp_runs; blocks = λ set i x q c. refl }

pub fmlp_shares : Sharing protocol.FmlpPlus fmlp_plus
fmlp_shares = record { runs = fmlp_runs; blocks = λ set i x q c. refl }

pub passes_not : (a b : ℕ) → ((a ≡ b) → ⊥) → not (a == b) ≡ true
passes_not a b h = not_from_false (a == b) (ne_eqb a b h)

-- A path from the resource that j waits for to the request that runs.
path_there : (p : Protocol) (o : Ranks) (w : Trace) (t j r n q : ℕ) → Sharing p o → AreLawfulJobs (jobs_of w) → KeepsRun w t
    → j < length w.jobs → phase_of w t r ≡ Asking n q → (by : IndirectBy o w t j r)
    → has_path p w.set (task_of w j) (task_of w r) q ≡ true
path_there p o w t j r n q sharing lawful run listed runs by =
    any_below-from (length w.set.tasks) (λ y. any_below (length w.set.resources) (λ k. is_path p w.set (task_of w j) (task_of w r) q y k))
    (task_of w z) (lawful.each z z_listed).task
    (any_below-from (length w.set.resources) (λ k. is_path p w.set (task_of w j) (task_of w r) q (task_of w z) k) by.waits.resource
    (open_resource w.set w t j by.waits.number by.waits.resource (lawful.each j listed) by.waits.request)
    (and_from _ _ (and_from _ _ (eq-eqb (processor_of w z) (processor_of w r) place)
    (and_from _ _ (passes_not (task_of w z) (task_of w r) not_runner) (passes_not (task_of w z) (task_of w j) not_own)))
    (and_from _ _ (and_from _ _ (passes_not by.waits.resource q other_resource)
    (and_from _ _ (open_user w.set w t j by.waits.number by.waits.resource (lawful.each j listed) by.waits.request)
    (open_user w.set w t z by.waits.holding by.waits.resource (lawful.each z z_listed) by.waits.held)))
    (sharing.runs w t z r by.waits.resource q by.waits.holding n by.waits.held runs place by.order)))) where
      z : ℕ
      z = by.first

      holder : ReadyHolder w t z
      holder = ready_holder_is w t z by.waits.holds

      runner : ReadyHolder w t r
      runner = ready_holder_is w t r by.holds

      z_listed : z < length w.jobs
      z_listed = active_listed w t z holder.active

      place : processor_of w z ≡ processor_of w r
      place = run.column (processor_of w z) r by.runs

      not_same : (z ≡ r) → ⊥
      not_same e = let here : runs_in (w.row t) z ≡ true = rw e (runs_from (w.row t) (processor_of w by.first) r by.runs) in
          both_ways (runs_in (w.row t) z) by.stands here

      not_runner : (task_of w z ≡ task_of w r) → ⊥
      not_runner e = not_same (one_active w t z r holder.active runner.active e)

      not_own : (task_of w z ≡ task_of w j) → ⊥
      not_own e =
          let same : z ≡ j = one_active w t z j holder.active by.waits.active e in
          let ready : is_ready w t j ≡ true = rw (← same) (ready_holding w t z by.waits.holds) in
          both_ways (is_ready w t j) by.waits.other ready

      other_resource : (by.waits.resource ≡ q) → ⊥
      other_resource e =
          let phases : Asking runner.number runner.resource ≡ Asking n q = sym runner.phase ∙ runs in
          let own : runner.resource ≡ q = cc in
          let both : Some z ≡ Some r = sym by.waits.holder ∙ ap (holder_in (w.row t)) (e ∙ sym own) ∙ runner.holds in
          not_same (cc)

-- How its class blocks.
blocks_there : (p : Protocol) (o : Ranks) (w : Trace) (t j y n q : ℕ) (c : Class) → Sharing p o → AreLawfulJobs (jobs_of w) → KeepsRun w t
    → j < length w.jobs → phase_of w t y ≡ Asking n q → SharedReason o w t j c y
    → blocks_by_sharing p w.set (task_of w j) (task_of w y) q c ≡ true
blocks_there p o w t j y n q Direct sharing lawful run listed e why =
    let x : Asking why.waits.holding why.waits.resource ≡ Asking n q = sym why.waits.held ∙ e in
    let same : why.waits.resource ≡ q = cc in
    rw (← same) (open_user w.set w t j why.waits.number why.waits.resource (lawful.each j listed) why.waits.request)
blocks_there p o w t j y n q Indirect sharing lawful run listed e why = path_there p o w t j y n q sharing lawful run listed e why
blocks_there p o w t j y n q Preemption sharing lawful run listed e why =
    and_from _ _ (lt-ltb _ _ why.lower) (eq-eqb (processor_of w y) (processor_of w j) (sym (run.column (processor_of w j) y why.runs)))

-- The column in which a tick is charged is in the program.
pub shared_placed : (p : Protocol) (o : Ranks) (w : Trace) (t j y n q : ℕ) (c : Class) → Sharing p o → AreLawfulJobs (jobs_of w)
    → KeepsRow (shared_rule o) w t → is_blocked is_shared_interference w t j ≡ true
    → runs_in (w.row t) y ≡ true → phase_of w t y ≡ Asking n q → SharedReason o w t j c y → IsPlaced p w (task_of w j) (task_of w y) q c
shared_placed p o w t j y n q c sharing lawful keeps blocked runs e why =
    let b : Blocked is_shared_interference w t j = blocked_is is_shared_interference w t j blocked in
    let run : KeepsRun w t = keeps rule.Run in
    let a : OtherRunner w t j y = other_runner w t j y run b runs in
    let listed : y < length w.jobs = open_listed w t y n q e in
    let blocks : may_block p w.set (task_of w j) (task_of w y) q c ≡ true =
    sharing.blocks w.set (task_of w j) (task_of w y) q c
    ∙ and_from _ _ (not_from_false _ a.not_higher)
    (blocks_there p o w t j y n q c sharing lawful run (active_listed w t j b.active) e why) in
    record {
      task = (lawful.each y listed).task;
      resource = open_resource w.set w t y n q (lawful.each y listed) e;
      column = and_from _ _
          (and_from _ _ (passes_not (task_of w y) (task_of w j) a.other) (open_user w.set w t y n q (lawful.each y listed) e)) blocks;
    }
