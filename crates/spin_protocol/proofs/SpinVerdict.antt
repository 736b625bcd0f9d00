-- The tests of Idle and of Priority say that the row keeps them, and the first that fails is that of the first rule that it breaks.
use Rattle.std.proofs.Common.{◌≡◌, ℕ, ◌<◌, ◌≤◌, ◌==◌, ◌&&◌, ◌||◌, not, true, false, length, refl, sym, ap, subst, ◌∙◌, arith}
use Rattle.std.proofs.Common.{inl, inr, Option, Some, None, leb}
use Rattle.std.specs.Prelude.{is_some}
use Rattle.std.proofs.lemmas.Bool.{cases_Bool, and_parts, and_from, or_left, or_right, not_from_false, not-true, both_ways}
use Rattle.std.proofs.lemmas.Bool.{false_from_ne_true, leb-true, le-leb, eqb-true, eq-eqb}
use Rattle.schedule_model.specs.declared.rule.Rule.{Rule}
use Rattle.schedule_model.specs.RowDef.{RowDef, running_on, holder_in}
use Rattle.schedule_model.specs.Activity.{task_of, processor_of, is_active, is_active_local, is_ready}
use Rattle.schedule_model.specs.SharedRules.{KeepsRun}
use Rattle.schedule_model.specs.Ranks.{fmlp_plus}
use Rattle.schedule_model.specs.Keeping.{KeepsRow, Breaks}
use Rattle.schedule_model.proofs.RuleTests.{or_other}
use Rattle.schedule_laws.proofs.ActiveJobs.{active_listed, ActiveLocal, active_local_is}
use Rattle.schedule_laws.proofs.Rows.{ready_active, ready_listed}
use Rattle.phase_machine.specs.MachineDef.{MachineDef, task_in, under}
use Rattle.phase_machine.specs.Shows.{Shows}
use Rattle.phase_machine.specs.Taking.{IsRowFor}
use Rattle.phase_machine.proofs.Facts.{phase_shown}
use Rattle.fmlp_rules.specs.IssueOrder.{issue_now}
use Rattle.fmlp_rules.specs.IssueOrderLaw.{issue_gives}
use Rattle.phase_machine.specs.Now.{processor_now, is_local_now, may_run_now}
use Rattle.phase_machine.proofs.Stretches.{place_within}
use Rattle.shared_rules.specs.RowTests.{each_current}
use Rattle.shared_rules.specs.RowTests.{passes_run, passes_keep, passes_grant}
use Rattle.shared_rules.proofs.Currents.{each_is, each_from, local_shown, may_run_shown}
use Rattle.shared_rules.proofs.HolderTests.{keep_is, keep_from, grant_is, grant_from}
use Rattle.shared_rules.proofs.RunTest.{run_is, run_from}
use Rattle.shared_rules.proofs.Verdict.{Tests, all_kept, first_broken}
use Rattle.spin_rules.specs.SpinRules.{is_in_request, spins, has_spinner, KeepsIdle, KeepsPriority, spin_rule}
use Rattle.spin_rules.proofs.InRequests.{InRequest, in_request_is, spins_in_request, spinner_from, spinner_is}
use Rattle.spin_protocol.specs.SpinTests.{is_request_now, spins_now, is_quiet, has_spinner_now, idle_passes, passes_idle}
use Rattle.spin_protocol.specs.SpinTests.{may_run_beside, priority_passes, passes_priority, first_failed}

-- What the machine says of an active job.
pub request_shown : (m : MachineDef) (rows : ℕ → RowDef) (j : ℕ) → Shows m rows → is_active (under m rows) m.tick j ≡ true
    → is_request_now m j ≡ is_in_request (under m rows) m.tick j
unfolding is_in_request
request_shown m rows j shows a = rw (a, phase_shown m rows j shows (active_listed (under m rows) m.tick j a)) refl

pub spins_shown : (m : MachineDef) (rows : ℕ → RowDef) (j : ℕ) → Shows m rows → is_active (under m rows) m.tick j ≡ true
    → spins_now m (holder_in (rows m.tick)) j ≡ spins (under m rows) m.tick j
unfolding spins
spins_shown m rows j shows a =
    rw (request_shown m rows j shows a, phase_shown m rows j shows (active_listed (under m rows) m.tick j a)) refl

-- And of the spinners of a processor.
pub has_spinner_shown : (m : MachineDef) (rows : ℕ → RowDef) (k : ℕ) → Shows m rows
    → has_spinner_now m (holder_in (rows m.tick)) k ≡ has_spinner (under m rows) m.tick k
unfolding has_spinner_now
has_spinner_shown m rows k shows = elim (cases_Bool (has_spinner (under m rows) m.tick k)) [
  | inl some ↦
      let at : (i : ℕ) × (processor_of (under m rows) i ≡ k) × (spins (under m rows) m.tick i ≡ true) =
      spinner_is (under m rows) m.tick k some in
      ap not (false_from_ne_true (each_current m (is_quiet m (holder_in (rows m.tick)) k)) (λ all. loud at.0 at.1 at.2 all))
      ∙ sym some
  | inr none ↦ ap not (each_from m rows (is_quiet m (holder_in (rows m.tick)) k) shows (λ i a. quiet i a none)) ∙ sym none
] where
  active : (i : ℕ) → spins (under m rows) m.tick i ≡ true → is_active (under m rows) m.tick i ≡ true
  active i h = (in_request_is (under m rows) m.tick i (spins_in_request (under m rows) m.tick i h)).active

  loud : (i : ℕ) → processor_of (under m rows) i ≡ k → spins (under m rows) m.tick i ≡ true
      → each_current m (is_quiet m (holder_in (rows m.tick)) k) ≡ true → ⊥
  loud i place h all =
      let passes : is_quiet m (holder_in (rows m.tick)) k i ≡ true =
      each_is m rows (is_quiet m (holder_in (rows m.tick)) k) i shows all (active i h) in
      both_ways ((processor_now m i == k) && spins_now m (holder_in (rows m.tick)) i) (not-true _ passes)
      (and_from _ _ (eq-eqb _ _ place) (spins_shown m rows i shows (active i h) ∙ h))

  quiet : (i : ℕ) → is_active (under m rows) m.tick i ≡ true → has_spinner (under m rows) m.tick k ≡ false
      → is_quiet m (holder_in (rows m.tick)) k i ≡ true
  quiet i a none =
      not_from_false _ (false_from_ne_true ((processor_now m i == k) && spins_now m (holder_in (rows m.tick)) i) (λ both.
      let parts : ((processor_now m i == k) ≡ true) × (spins_now m (holder_in (rows m.tick)) i ≡ true) = and_parts _ _ both in
      both_ways (has_spinner (under m rows) m.tick k) none
      (spinner_from (under m rows) m.tick k i (eqb-true _ _ parts.0) (sym (spins_shown m rows i shows a) ∙ parts.1))))

pub idle_is : (m : MachineDef) (rows : ℕ → RowDef) → Shows m rows → passes_idle m (rows m.tick) ≡ true → KeepsIdle (under m rows) m.tick
unfolding passes_idle
idle_is m rows shows h k e none i l own = false_from_ne_true (is_ready (under m rows) m.tick i) (λ ready. no ready) where
  no : is_ready (under m rows) m.tick i ≡ true → ⊥
  no ready =
      let active : is_active (under m rows) m.tick i ≡ true = ready_active (under m rows) m.tick i ready in
      let p : idle_passes m (rows m.tick) i ≡ true = each_is m rows (idle_passes m (rows m.tick)) i shows h active in
      let off : not (may_run_now m (holder_in (rows m.tick)) i) ≡ false = ap not (may_run_shown m rows i shows active ∙ ready) in
      let either : (is_some (running_on (rows m.tick) (processor_now m i))
      || has_spinner_now m (holder_in (rows m.tick)) (processor_now m i)) ≡ true =
      or_other (not (may_run_now m (holder_in (rows m.tick)) i)) _ p off in
      let empty : is_some (running_on (rows m.tick) (processor_now m i)) ≡ false =
      ap (λ c. is_some (running_on (rows m.tick) c)) own ∙ ap is_some e in
      let spinner : has_spinner_now m (holder_in (rows m.tick)) (processor_now m i) ≡ true =
      or_other (is_some (running_on (rows m.tick) (processor_now m i))) _ either empty in
      both_ways _ (has_spinner_shown m rows k shows ∙ none) (ap (has_spinner_now m (holder_in (rows m.tick))) (sym own) ∙ spinner)

pub idle_from : (m : MachineDef) (rows : ℕ → RowDef) → Shows m rows → KeepsIdle (under m rows) m.tick → passes_idle m (rows m.tick) ≡ true
unfolding passes_idle
idle_from m rows shows idle = each_from m rows (idle_passes m (rows m.tick)) shows
    (λ i a. beside i a (running_on (rows m.tick) (processor_now m i)) refl)
  where
    spinning : (i : ℕ) → is_active (under m rows) m.tick i ≡ true → running_on (rows m.tick) (processor_now m i) ≡ None
        → idle_passes m (rows m.tick) i ≡ true
    spinning i a e = elim (cases_Bool (has_spinner_now m (holder_in (rows m.tick)) (processor_now m i))) [
      | inl some ↦ or_right (not (may_run_now m (holder_in (rows m.tick)) i)) _
          (or_right (is_some (running_on (rows m.tick) (processor_now m i))) _ some)
      | inr none ↦
          let no : is_ready (under m rows) m.tick i ≡ false =
          idle (processor_now m i) e (sym (has_spinner_shown m rows (processor_now m i) shows) ∙ none) i
          (active_listed (under m rows) m.tick i a) refl in
          or_left (not (may_run_now m (holder_in (rows m.tick)) i)) _ (not_from_false _ (may_run_shown m rows i shows a ∙ no))
    ]

    beside : (i : ℕ) → is_active (under m rows) m.tick i ≡ true → (o : Option ℕ)
        → running_on (rows m.tick) (processor_now m i) ≡ o → idle_passes m (rows m.tick) i ≡ true
    beside i a None e = spinning i a e
    beside i a (Some r) e = or_right (not (may_run_now m (holder_in (rows m.tick)) i)) _
        (or_left (is_some (running_on (rows m.tick) (processor_now m i))) _ (ap is_some e))

pub priority_is : (m : MachineDef) (rows : ℕ → RowDef) → Shows m rows → KeepsRun (under m rows) m.tick
    → passes_priority m (rows m.tick) ≡ true → KeepsPriority (under m rows) m.tick
unfolding passes_priority
priority_is m rows shows run h = record {
  requests = λ k r e i l own asks. after_request k r i e own asks;
  locals = λ k r e none i l own li. after_local k r i e own
      (none r (ready_listed (under m rows) m.tick r (run.ready k r e)) (sym (run.column k r e))) li;
} where
  beside : (k r i : ℕ) → running_on (rows m.tick) k ≡ Some r → processor_of (under m rows) i ≡ k
      → is_active (under m rows) m.tick i ≡ true
      → ((not (is_request_now m i) || (r == i)) ≡ true)
      × ((not (is_local_now m i) || (is_request_now m r || leb (task_in m.list.jobs r) (task_in m.list.jobs i))) ≡ true)
  beside k r i e own a =
      let here : running_on (rows m.tick) (processor_now m i) ≡ Some r = ap (running_on (rows m.tick)) own ∙ e in
      and_parts (not (is_request_now m i) || (r == i))
      (not (is_local_now m i) || (is_request_now m r || leb (task_in m.list.jobs r) (task_in m.list.jobs i)))
      (sym (ap (may_run_beside m i) here) ∙ each_is m rows (priority_passes m (rows m.tick)) i shows h a)

  after_request : (k r i : ℕ) → running_on (rows m.tick) k ≡ Some r → processor_of (under m rows) i ≡ k
      → is_in_request (under m rows) m.tick i ≡ true → r ≡ i
  after_request k r i e own asks =
      let a : InRequest (under m rows) m.tick i = in_request_is (under m rows) m.tick i asks in
      let no : not (is_request_now m i) ≡ false = ap not (request_shown m rows i shows a.active ∙ asks) in
      eqb-true r i (or_other (not (is_request_now m i)) (r == i) (beside k r i e own a.active).0 no)

  after_local : (k r i : ℕ) → running_on (rows m.tick) k ≡ Some r → processor_of (under m rows) i ≡ k
      → is_in_request (under m rows) m.tick r ≡ false → is_active_local (under m rows) m.tick i ≡ true
      → task_of (under m rows) r ≤ task_of (under m rows) i
  after_local k r i e own none li =
      let local : ActiveLocal (under m rows) m.tick i = active_local_is (under m rows) m.tick i li in
      let active : is_active (under m rows) m.tick r ≡ true = ready_active (under m rows) m.tick r (run.ready k r e) in
      let no : not (is_local_now m i) ≡ false = ap not (local_shown m rows i shows local.active ∙ li) in
      let free : is_request_now m r ≡ false = request_shown m rows r shows active ∙ none in
      leb-true (task_in m.list.jobs r) (task_in m.list.jobs i)
      (or_other (is_request_now m r) (leb (task_in m.list.jobs r) (task_in m.list.jobs i))
      (or_other (not (is_local_now m i)) (is_request_now m r || leb (task_in m.list.jobs r) (task_in m.list.jobs i))
      (beside k r i e own local.active).1 no) free)

pub priority_from : (m : MachineDef) (rows : ℕ → RowDef) → Shows m rows → KeepsRun (under m rows) m.tick
    → KeepsPriority (under m rows) m.tick → passes_priority m (rows m.tick) ≡ true
unfolding passes_priority
priority_from m rows shows run priority =
    each_from m rows (priority_passes m (rows m.tick)) shows
    (λ i a. beside i a (running_on (rows m.tick) (processor_now m i)) refl) where
      active : (k r : ℕ) → running_on (rows m.tick) k ≡ Some r → is_active (under m rows) m.tick r ≡ true
      active k r e = ready_active (under m rows) m.tick r (run.ready k r e)

      after_request : (i r : ℕ) → is_active (under m rows) m.tick i ≡ true → running_on (rows m.tick) (processor_now m i) ≡ Some r
          → (not (is_request_now m i) || (r == i)) ≡ true
      after_request i r a e = elim (cases_Bool (is_request_now m i)) [
        | inr waits ↦ or_left (not (is_request_now m i)) _ (not_from_false _ waits)
        | inl asks ↦ or_right (not (is_request_now m i)) (r == i)
            (eq-eqb r i (priority.requests (processor_now m i) r e i (active_listed (under m rows) m.tick i a) refl
            (sym (request_shown m rows i shows a) ∙ asks)))
      ]

      -- Where what runs isn't in a request, no job there is.
      no_request : (i r : ℕ) → running_on (rows m.tick) (processor_now m i) ≡ Some r → is_in_request (under m rows) m.tick r ≡ false
          → (h : ℕ) → h < length m.list.jobs → processor_of (under m rows) h ≡ processor_now m i
          → is_in_request (under m rows) m.tick h ≡ false
      no_request i r e none h l own = false_from_ne_true (is_in_request (under m rows) m.tick h) (λ asks.
          both_ways _ none
          (ap (is_in_request (under m rows) m.tick) (priority.requests (processor_now m i) r e h l own asks) ∙ asks))

      after_local : (i r : ℕ) → is_active (under m rows) m.tick i ≡ true → running_on (rows m.tick) (processor_now m i) ≡ Some r
          → (not (is_local_now m i) || (is_request_now m r || leb (task_in m.list.jobs r) (task_in m.list.jobs i))) ≡ true
      after_local i r a e = elim (cases_Bool (is_local_now m i)) [
        | inr asks ↦ or_left (not (is_local_now m i)) _ (not_from_false _ asks)
        | inl local ↦ or_right (not (is_local_now m i)) _ (elim (cases_Bool (is_request_now m r)) [
          | inl asks ↦ or_left (is_request_now m r) _ asks
          | inr none ↦
              let idle : is_in_request (under m rows) m.tick r ≡ false =
              sym (request_shown m rows r shows (active (processor_now m i) r e)) ∙ none in
              let le : task_of (under m rows) r ≤ task_of (under m rows) i =
              priority.locals (processor_now m i) r e (no_request i r e idle) i (active_listed (under m rows) m.tick i a)
              refl (sym (local_shown m rows i shows a) ∙ local) in
              or_right (is_request_now m r) _ (le-leb _ _ le)
        ])
      ]

      beside : (i : ℕ) → is_active (under m rows) m.tick i ≡ true → (p : Option ℕ)
          → running_on (rows m.tick) (processor_now m i) ≡ p → priority_passes m (rows m.tick) i ≡ true
      beside i a None e = ap (may_run_beside m i) e
      beside i a (Some r) e = ap (may_run_beside m i) e ∙ and_from _ _ (after_request i r a e) (after_local i r a e)

tests_say : (m : MachineDef) (rows : ℕ → RowDef) → Shows m rows → IsRowFor m.list (rows m.tick)
    → Tests spin_rule (under m rows) m.tick (passes_run m (rows m.tick)) (passes_keep m (rows m.tick))
    (passes_grant m (issue_now m) (rows m.tick)) (passes_idle m (rows m.tick)) (passes_priority m (rows m.tick))
tests_say m rows shows fits = record {
  run_is = run_is m rows shows;
  run_from = run_from m rows shows;
  keep_is = keep_is m rows shows;
  keep_from = keep_from m rows shows;
  grant_is = grant_is fmlp_plus issue_now issue_now m rows issue_gives shows within;
  grant_from = grant_from fmlp_plus issue_now issue_now m rows issue_gives shows;
  idle_is = idle_is m rows shows;
  idle_from = idle_from m rows shows;
  priority_is = λ a e. priority_is m rows shows (run_is m rows shows a) e;
  priority_from = priority_from m rows shows;
} where
  within : (q j : ℕ) → holder_in (rows m.tick) q ≡ Some j → q < length m.list.set.resources
  within q j e = omega (arith, place_within (rows m.tick).holders q j e, fits.sized.resources)

pub judged_none : (m : MachineDef) (rows : ℕ → RowDef) (row : RowDef) → Shows m rows → IsRowFor m.list row
    → rows m.tick ≡ row → first_failed m (issue_now m) row ≡ None → KeepsRow spin_rule (under m rows) m.tick
judged_none m rows row shows fits e h =
    all_kept spin_rule (under m rows) m.tick (passes_run m (rows m.tick)) (passes_keep m (rows m.tick))
    (passes_grant m (issue_now m) (rows m.tick)) (passes_idle m (rows m.tick)) (passes_priority m (rows m.tick))
    (tests_say m rows shows (subst (λ r. IsRowFor m.list r) (sym e) fits))
    (subst (λ r. first_failed m (issue_now m) r ≡ None) (sym e) h)

pub judged_some : (m : MachineDef) (rows : ℕ → RowDef) (row : RowDef) (r : Rule) → Shows m rows → IsRowFor m.list row
    → rows m.tick ≡ row → first_failed m (issue_now m) row ≡ Some r → Breaks spin_rule (under m rows) m.tick r
judged_some m rows row r shows fits e h =
    first_broken spin_rule (under m rows) m.tick (passes_run m (rows m.tick)) (passes_keep m (rows m.tick))
    (passes_grant m (issue_now m) (rows m.tick)) (passes_idle m (rows m.tick)) (passes_priority m (rows m.tick)) r
    (tests_say m rows shows (subst (λ r. IsRowFor m.list r) (sym e) fits))
    (subst (λ s. first_failed m (issue_now m) s ≡ Some r) (sym e) h)
