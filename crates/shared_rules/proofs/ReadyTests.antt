-- The tests of Idle and of Priority say that the row keeps them; that of Priority does so where Run is kept.
use Rattle.std.proofs.Common.{◌≡◌, ℕ, ◌<◌, ◌≤◌, ◌&&◌, ◌||◌, not, true, false, length, refl, sym, ap, ◌∙◌, arith, inl}
use Rattle.std.proofs.Common.{inr, Option, Some, None, leb}
use Rattle.std.specs.Prelude.{is_some}
use Rattle.std.proofs.lemmas.Bool.{cases_Bool, and_parts, and_from, or_left, or_right, not_from_false, both_ways}
use Rattle.std.proofs.lemmas.Bool.{false_from_ne_true, leb-true, le-leb}
use Rattle.schedule_model.specs.RowDef.{RowDef, running_on, holder_in}
use Rattle.schedule_model.specs.Activity.{task_of, processor_of, is_active, is_active_local, is_ready_holder, is_ready}
use Rattle.schedule_model.specs.SharedRules.{Ranks, KeepsRun, KeepsIdle, KeepsPriority}
use Rattle.schedule_model.proofs.RuleTests.{or_other}
use Rattle.schedule_laws.proofs.ActiveJobs.{active_listed, ActiveLocal, active_local_is}
use Rattle.schedule_laws.proofs.Rows.{ReadyHolder, ready_holder_is, ready_active, ready_listed}
use Rattle.phase_machine.specs.MachineDef.{MachineDef, task_in, under}
use Rattle.phase_machine.specs.Shows.{Shows}
use Rattle.phase_machine.specs.Order.{GivesRanks}
use Rattle.phase_machine.specs.Now.{processor_now, is_local_now, holds_now, may_run_now}
use Rattle.shared_rules.specs.RowTests.{idle_passes, passes_idle}
use Rattle.shared_rules.specs.RowTests.{runs_before, priority_passes, passes_priority}
use Rattle.shared_rules.proofs.Currents.{each_is, each_from, local_shown, holds_shown, may_run_shown, run_given}

pub idle_is : (m : MachineDef) (rows : ℕ → RowDef) → Shows m rows → passes_idle m (rows m.tick) ≡ true → KeepsIdle (under m rows) m.tick
unfolding passes_idle
idle_is m rows shows h k e i l own = false_from_ne_true (is_ready (under m rows) m.tick i) (λ ready. none ready) where
  none : is_ready (under m rows) m.tick i ≡ true → ⊥
  none ready =
      let active : is_active (under m rows) m.tick i ≡ true = ready_active (under m rows) m.tick i ready in
      let p : idle_passes m (rows m.tick) i ≡ true = each_is m rows (idle_passes m (rows m.tick)) i shows h active in
      let no : not (may_run_now m (holder_in (rows m.tick)) i) ≡ false = ap not (may_run_shown m rows i shows active ∙ ready) in
      let busy : is_some (running_on (rows m.tick) (processor_now m i)) ≡ true =
      or_other (not (may_run_now m (holder_in (rows m.tick)) i)) _ p no in
      let empty : is_some (running_on (rows m.tick) (processor_now m i)) ≡ false =
      ap (λ c. is_some (running_on (rows m.tick) c)) own ∙ ap is_some e in
      both_ways _ empty busy

pub idle_from : (m : MachineDef) (rows : ℕ → RowDef) → Shows m rows → KeepsIdle (under m rows) m.tick → passes_idle m (rows m.tick) ≡ true
unfolding passes_idle
idle_from m rows shows idle = each_from m rows (idle_passes m (rows m.tick)) shows
    (λ i a. beside i a (running_on (rows m.tick) (processor_now m i)) refl)
  where
    beside : (i : ℕ) → is_active (under m rows) m.tick i ≡ true → (o : Option ℕ)
        → running_on (rows m.tick) (processor_now m i) ≡ o → idle_passes m (rows m.tick) i ≡ true
    beside i a None e =
        let no : is_ready (under m rows) m.tick i ≡ false = idle (processor_now m i) e i (active_listed (under m rows) m.tick i a) refl in
        or_left (not (may_run_now m (holder_in (rows m.tick)) i)) _ (not_from_false _ (may_run_shown m rows i shows a ∙ no))
    beside i a (Some r) e = or_right (not (may_run_now m (holder_in (rows m.tick)) i))
        (is_some (running_on (rows m.tick) (processor_now m i))) (ap is_some e)

pub priority_is : (o : Ranks) (grants runs : MachineDef → ℕ → ℕ) (m : MachineDef) (rows : ℕ → RowDef)
    → GivesRanks o grants runs → Shows m rows → KeepsRun (under m rows) m.tick
    → passes_priority m (runs m) (rows m.tick) ≡ true → KeepsPriority o (under m rows) m.tick
unfolding passes_priority
priority_is o grants runs m rows gives shows run h = record {
  holders = λ k r e i l own hi. after_holder k r i e own hi;
  locals = λ k r e none i l own li. after_local k r i e own
      (none r (ready_listed (under m rows) m.tick r (run.ready k r e)) (sym (run.column k r e))) li;
} where
  both : (k r i : ℕ) → runs_before m (runs m) (rows m.tick) i (Some r) ≡ true
      → (not (holds_now m (holder_in (rows m.tick)) i) || (holds_now m (holder_in (rows m.tick)) r && leb (runs m r) (runs m i)) ≡ true)
      × (not (is_local_now m i) || (holds_now m (holder_in (rows m.tick)) r || leb (task_in m.list.jobs r) (task_in m.list.jobs i)) ≡ true)
  both k r i h = and_parts
      (not (holds_now m (holder_in (rows m.tick)) i)
      || (holds_now m (holder_in (rows m.tick)) r && leb (runs m r) (runs m i)))
      (not (is_local_now m i)
      || (holds_now m (holder_in (rows m.tick)) r || leb (task_in m.list.jobs r) (task_in m.list.jobs i))) h

  beside : (k r i : ℕ) → running_on (rows m.tick) k ≡ Some r → processor_of (under m rows) i ≡ k
      → is_active (under m rows) m.tick i ≡ true → runs_before m (runs m) (rows m.tick) i (Some r) ≡ true
  beside k r i e own a =
      let here : running_on (rows m.tick) (processor_now m i) ≡ Some r = ap (running_on (rows m.tick)) own ∙ e in
      sym (ap (runs_before m (runs m) (rows m.tick) i) here) ∙ each_is m rows (priority_passes m (runs m) (rows m.tick)) i shows h a

  after_holder : (k r i : ℕ) → running_on (rows m.tick) k ≡ Some r → processor_of (under m rows) i ≡ k
      → is_ready_holder (under m rows) m.tick i ≡ true
      → (is_ready_holder (under m rows) m.tick r ≡ true) × (o.run (under m rows) m.tick r ≤ o.run (under m rows) m.tick i)
  after_holder k r i e own hi =
      let ri : ReadyHolder (under m rows) m.tick i = ready_holder_is (under m rows) m.tick i hi in
      let active : is_active (under m rows) m.tick r ≡ true = ready_active (under m rows) m.tick r (run.ready k r e) in
      let no : not (holds_now m (holder_in (rows m.tick)) i) ≡ false = ap not (holds_shown m rows i shows ri.active ∙ hi) in
      let p = both k r i (beside k r i e own ri.active) in
      let q = and_parts (holds_now m (holder_in (rows m.tick)) r) (leb (runs m r) (runs m i))
      (or_other (not (holds_now m (holder_in (rows m.tick)) i))
      (holds_now m (holder_in (rows m.tick)) r && leb (runs m r) (runs m i)) p.0 no) in
      let hr : is_ready_holder (under m rows) m.tick r ≡ true = sym (holds_shown m rows r shows active) ∙ q.0 in
      let le : runs m r ≤ runs m i = leb-true _ _ q.1 in
      (hr, omega (arith, le, run_given o grants runs m rows r gives shows hr, run_given o grants runs m rows i gives shows hi))

  after_local : (k r i : ℕ) → running_on (rows m.tick) k ≡ Some r → processor_of (under m rows) i ≡ k
      → is_ready_holder (under m rows) m.tick r ≡ false → is_active_local (under m rows) m.tick i ≡ true
      → task_of (under m rows) r ≤ task_of (under m rows) i
  after_local k r i e own none li =
      let local : ActiveLocal (under m rows) m.tick i = active_local_is (under m rows) m.tick i li in
      let active : is_active (under m rows) m.tick r ≡ true = ready_active (under m rows) m.tick r (run.ready k r e) in
      let no : not (is_local_now m i) ≡ false = ap not (local_shown m rows i shows local.active ∙ li) in
      let not_held : holds_now m (holder_in (rows m.tick)) r ≡ false = holds_shown m rows r shows active ∙ none in
      let p = both k r i (beside k r i e own local.active) in
      let q : (holds_now m (holder_in (rows m.tick)) r || leb (task_in m.list.jobs r) (task_in m.list.jobs i)) ≡ true =
      or_other (not (is_local_now m i))
      (holds_now m (holder_in (rows m.tick)) r || leb (task_in m.list.jobs r) (task_in m.list.jobs i)) p.1 no in
      leb-true (task_in m.list.jobs r) (task_in m.list.jobs i) (or_other (holds_now m (holder_in (rows m.tick)) r)
      (leb (task_in m.list.jobs r) (task_in m.list.jobs i)) q not_held)

pub priority_from : (o : Ranks) (grants runs : MachineDef → ℕ → ℕ) (m : MachineDef) (rows : ℕ → RowDef)
    → GivesRanks o grants runs → Shows m rows → KeepsRun (under m rows) m.tick
    → KeepsPriority o (under m rows) m.tick → passes_priority m (runs m) (rows m.tick) ≡ true
unfolding passes_priority
priority_from o grants runs m rows gives shows run priority =
    each_from m rows (priority_passes m (runs m) (rows m.tick)) shows
    (λ i a. beside i a (running_on (rows m.tick) (processor_now m i)) refl) where
      -- Against a holder.
      after_holder : (i r : ℕ) → is_active (under m rows) m.tick i ≡ true → running_on (rows m.tick) (processor_now m i) ≡ Some r
          → (not (holds_now m (holder_in (rows m.tick)) i) || (holds_now m (holder_in (rows m.tick)) r && leb (runs m r) (runs m i))) ≡ true
      after_holder i r a e = elim (cases_Bool (holds_now m (holder_in (rows m.tick)) i)) [
        | inr waits ↦ or_left (not (holds_now m (holder_in (rows m.tick)) i)) _ (not_from_false _ waits)
        | inl holds ↦
            let hi : is_ready_holder (under m rows) m.tick i ≡ true = sym (holds_shown m rows i shows a) ∙ holds in
            let active : is_active (under m rows) m.tick r ≡ true =
            ready_active (under m rows) m.tick r (run.ready (processor_now m i) r e) in
            let first : (is_ready_holder (under m rows) m.tick r ≡ true) × (o.run (under m rows) m.tick r ≤ o.run (under m rows) m.tick i) =
            priority.holders (processor_now m i) r e i (active_listed (under m rows) m.tick i a) refl hi in
            let le : runs m r ≤ runs m i = omega (
              arith,
              first.1,
              run_given o grants runs m rows r gives shows first.0,
              run_given o grants runs m rows i gives shows hi,
            ) in
            or_right (not (holds_now m (holder_in (rows m.tick)) i)) _
            (and_from _ _ (holds_shown m rows r shows active ∙ first.0) (le-leb _ _ le))
      ]

      -- Where no holder runs, none is ready there.
      no_holder : (i r : ℕ) → running_on (rows m.tick) (processor_now m i) ≡ Some r → is_ready_holder (under m rows) m.tick r ≡ false
          → (h : ℕ) → h < length m.list.jobs → processor_of (under m rows) h ≡ processor_now m i
          → is_ready_holder (under m rows) m.tick h ≡ false
      no_holder i r e none h l own = false_from_ne_true (is_ready_holder (under m rows) m.tick h)
          (λ holds. both_ways _ none (priority.holders (processor_now m i) r e h l own holds).0)

      -- Against a Local job.
      after_local : (i r : ℕ) → is_active (under m rows) m.tick i ≡ true → running_on (rows m.tick) (processor_now m i) ≡ Some r
          → (not (is_local_now m i)
          || (holds_now m (holder_in (rows m.tick)) r || leb (task_in m.list.jobs r) (task_in m.list.jobs i))) ≡ true
      after_local i r a e = elim (cases_Bool (is_local_now m i)) [
        | inr asks ↦ or_left (not (is_local_now m i)) _ (not_from_false _ asks)
        | inl local ↦ or_right (not (is_local_now m i)) _ (elim (cases_Bool (holds_now m (holder_in (rows m.tick)) r)) [
          | inl holds ↦ or_left (holds_now m (holder_in (rows m.tick)) r) _ holds
          | inr none ↦
              let active : is_active (under m rows) m.tick r ≡ true =
              ready_active (under m rows) m.tick r (run.ready (processor_now m i) r e) in
              let idle : is_ready_holder (under m rows) m.tick r ≡ false = sym (holds_shown m rows r shows active) ∙ none in
              let le : task_of (under m rows) r ≤ task_of (under m rows) i =
              priority.locals (processor_now m i) r e (no_holder i r e idle) i (active_listed (under m rows) m.tick i a)
              refl (sym (local_shown m rows i shows a) ∙ local) in
              or_right (holds_now m (holder_in (rows m.tick)) r) _ (le-leb _ _ le)
        ])
      ]

      beside : (i : ℕ) → is_active (under m rows) m.tick i ≡ true → (p : Option ℕ)
          → running_on (rows m.tick) (processor_now m i) ≡ p → priority_passes m (runs m) (rows m.tick) i ≡ true
      beside i a None e = ap (runs_before m (runs m) (rows m.tick) i) e
      beside i a (Some r) e = ap (runs_before m (runs m) (rows m.tick) i) e ∙ and_from _ _ (after_holder i r a e) (after_local i r a e)
