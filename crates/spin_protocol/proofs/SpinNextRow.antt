-- After any rows that keep the rules there is a chosen row.
use Rattle.std.proofs.Common.{◌≡◌, ◌⊎◌, ℕ, ◌<◌, ◌≤◌, ◌&&◌, not, suc, true, List, length, sym, ◌∙◌, arith, inl, inr, []}
use Rattle.std.proofs.Common.{Option, Some, None}
use Rattle.sporadic_model.specs.Accepted.{IsAccepted, TaskNumbers}
use Rattle.sporadic_model.proofs.Laws.{numbers_of_accepted}
use Rattle.schedule_model.specs.LawfulJobs.{AreLawfulJobs}
use Rattle.schedule_model.specs.RowDef.{RowDef, Trace, jobs_of}
use Rattle.schedule_model.specs.Activity.{is_active, is_requester}
use Rattle.schedule_model.specs.Keeping.{KeepsBefore}
use Rattle.schedule_model.specs.Chosen.{IsSized}
use Rattle.schedule_model.specs.Ranks.{fmlp_plus}
use Rattle.schedule_model.specs.BlockedTicks.{is_shared_interference}
use Rattle.schedule_laws.specs.Agreement.{AgreeBefore}
use Rattle.schedule_laws.proofs.ActiveJobs.{active_listed, Requester, requester_is}
use Rattle.schedule_laws.proofs.Segments.{open_resource}
use Rattle.schedule_laws.proofs.TakenRows.{sound_taken}
use Rattle.phase_machine.specs.MachineDef.{MachineDef, task_in, under}
use Rattle.phase_machine.specs.Now.{active_now, current_now}
use Rattle.phase_machine.specs.Shows.{Shows, Shown}
use Rattle.phase_machine.proofs.Existence.{shown}
use Rattle.phase_machine.proofs.Facts.{reads_before, active_shown}
use Rattle.phase_machine.proofs.Lawful.{task_listed}
use Rattle.fmlp_rules.specs.IssueOrder.{issue_now}
use Rattle.fmlp_rules.specs.IssueOrderLaw.{issue_gives}
use Rattle.phase_machine.specs.Now.{processor_now, is_local_now, holds_now}
use Rattle.shared_choosing.specs.Scene.{scene_now, place_in, running_in}
use Rattle.shared_choosing.specs.Choosing.{Granted}
use Rattle.shared_choosing.specs.Filling.{Takes, FilledTwice, holder_claim}
use Rattle.shared_choosing.specs.NextRow.{with_row}
use Rattle.shared_choosing.proofs.Chosen.{requests_shown}
use Rattle.shared_choosing.proofs.Scenes.{scene_shown, active_job_now}
use Rattle.shared_choosing.proofs.Walks.{held_at, granted_at, granted_same}
use Rattle.shared_choosing.proofs.Filling.{filled_at, all_filled, running_read}
use Rattle.shared_choosing.proofs.NextRow.{places_of, place_of_list, running_placed, places_length, same_before, row_there}
use Rattle.spin_rules.specs.SpinRules.{spin_rule}
use Rattle.spin_rules.proofs.SpinLaws.{spin_sound_row}
use Rattle.spin_rules.proofs.SpinAgreement.{spin_rules_read}
use Rattle.spin_protocol.specs.SpinTests.{has_spinner_now}
use Rattle.spin_protocol.specs.SpinClaims.{calm_claim}
use Rattle.spin_protocol.specs.NextRow.{HasChoice}
use Rattle.spin_protocol.proofs.SpinChosen.{claims, spin_choice_made}

-- What holds is a resource of the set, and what runs is on a processor of the set.
resource_within : (m : MachineDef) (rows : ℕ → RowDef) (held : ℕ → Option ℕ) (q j : ℕ) → Shows m rows
    → Granted (scene_now (issue_now m) (issue_now m) m) (length m.list.set.tasks) held → held q ≡ Some j → q < length m.list.set.resources
resource_within m rows held q j shows g e =
    let asks : is_requester (under m rows) m.tick q j ≡ true =
    sym (requests_shown fmlp_plus (scene_now (issue_now m) (issue_now m) m) (under m rows) m.tick q j
    (scene_shown fmlp_plus issue_now issue_now m rows issue_gives shows)) ∙ g.asks q j e in
    let r : Requester (under m rows) m.tick q j = requester_is (under m rows) m.tick q j asks in
    open_resource m.list.set (under m rows) m.tick j r.number q
    (shows.machine.lawful.each j (active_listed (under m rows) m.tick j r.active)) r.phase

processor_within : (m : MachineDef) (rows : ℕ → RowDef) (held running : ℕ → Option ℕ) (k j : ℕ) → Shows m rows
    → FilledTwice m (holder_claim m (processor_now m) held) (calm_claim m held) running → running k ≡ Some j
    → (1 ≤ k) × (k ≤ m.list.set.processors)
processor_within m rows held running k j shows p e = locals (let a = p.locals in a.from k j e) where
  there : active_now m j ≡ true → processor_now m j ≡ k → (1 ≤ k) × (k ≤ m.list.set.processors)
  there a same =
      let active : is_active (under m rows) m.tick j ≡ true = sym (active_shown m rows j shows) ∙ a in
      let n : TaskNumbers m.list.set (task_in m.list.jobs j) =
      shows.machine.numbers (task_in m.list.jobs j)
      (task_listed m.list j shows.machine.lawful (active_listed (under m rows) m.tick j active)) in
      (omega (arith, n.processor_from, same), omega (arith, n.processor_to, same))

  holders : (None ≡ Some j) ⊎ Takes m (holder_claim m (processor_now m) held) (length m.list.set.tasks) k j
      → (1 ≤ k) × (k ≤ m.list.set.processors)
  holders (inl nothing) = absurd (cc)
  holders (inr t) = there t.active (claims (holds_now m held j) (processor_now m j) k t.claims).1

  locals : (p.before k ≡ Some j) ⊎ Takes m (calm_claim m held) (length m.list.set.tasks) k j → (1 ≤ k) × (k ≤ m.list.set.processors)
  locals (inl before) = holders (let a = p.holders in a.from k j before)
  locals (inr t) = there t.active (claims (is_local_now m j && not (has_spinner_now m held (processor_now m j))) (processor_now m j) k t.claims).1

-- The row that a machine's value leads to.
record Row (m : MachineDef) : Type 0 where
  row : RowDef
  sized : IsSized m.list.set row
  granted : Granted (scene_now (issue_now m) (issue_now m) m) (length m.list.set.tasks) (place_in row.holders)
  placed : FilledTwice m (holder_claim m (processor_now m) (place_in row.holders)) (calm_claim m (place_in row.holders))
      (running_in row.running)

row_of : (m : MachineDef) (rows : ℕ → RowDef) → Shows m rows → Row m
row_of m rows shows = record {
  row = record { running = places_of (λ c. runs (suc c)) m.list.set.processors; holders = holders };
  sized = record {
    processors = places_length (λ c. runs (suc c)) m.list.set.processors;
    resources = places_length held (length m.list.set.resources);
  };
  granted = granted_same (scene_now (issue_now m) (issue_now m) m) (length m.list.set.tasks) held (place_in holders) all_granted
      (λ q. place_of_list held (length m.list.set.resources) q (λ j e. resource_within m rows held q j shows all_granted e));
  placed = running_read m (holder_claim m (processor_now m) (place_in holders)) (calm_claim m (place_in holders)) runs
      (running_in (places_of (λ c. runs (suc c)) m.list.set.processors)) all_running there;
} where
  held : ℕ → Option ℕ
  held = held_at (scene_now (issue_now m) (issue_now m) m) (current_now m) (length m.list.set.tasks)

  all_granted : Granted (scene_now (issue_now m) (issue_now m) m) (length m.list.set.tasks) held
  all_granted = granted_at (scene_now (issue_now m) (issue_now m) m) (current_now m) (length m.list.set.tasks)
      (λ x l. active_job_now m (issue_now m) (issue_now m) x shows.machine l)

  holders : List (Option ℕ)
  holders = places_of held (length m.list.set.resources)

  before : ℕ → Option ℕ
  before = filled_at (holder_claim m (processor_now m) (place_in holders)) (λ k. None) (current_now m) (length m.list.set.tasks)

  runs : ℕ → Option ℕ
  runs = filled_at (calm_claim m (place_in holders)) before (current_now m) (length m.list.set.tasks)

  all_running : FilledTwice m (holder_claim m (processor_now m) (place_in holders)) (calm_claim m (place_in holders)) runs
  all_running = record {
    before = before;
    holders = all_filled m (holder_claim m (processor_now m) (place_in holders)) (λ k. None) (length m.list.set.tasks)
        shows.machine (omega arith);
    locals = all_filled m (calm_claim m (place_in holders)) before (length m.list.set.tasks) shows.machine (omega arith);
  }

  there : (k : ℕ) → running_in (places_of (λ c. runs (suc c)) m.list.set.processors) k ≡ runs k
  there = running_placed runs m.list.set.processors []
      (λ k r e. processor_within m rows (place_in holders) runs k r shows all_running e)

choice_at : (m : MachineDef) (rows : ℕ → RowDef) → Shows m rows → KeepsBefore spin_rule (under m rows) m.tick
    → HasChoice (under m rows) m.tick
choice_at m rows shows keeps = record {
  row = r.row;
  chosen = spin_choice_made m (with_row (under m rows) m.tick r.row).row r.row
      (reads_before m rows (with_row (under m rows) m.tick r.row).row agree.rows shows)
      (row_there (under m rows) m.tick r.row)
      (λ u l k. spin_rules_read k (under m rows) (with_row (under m rows) m.tick r.row) m.tick u agree l (keeps u l k))
      r.sized r.granted r.placed;
} where
  r : Row m
  r = row_of m rows shows

  agree : AgreeBefore (under m rows) (with_row (under m rows) m.tick r.row) m.tick
  agree = same_before (under m rows) m.tick r.row

pub next_lawful_row : (w : Trace) (t : ℕ) → IsAccepted w.set → AreLawfulJobs (jobs_of w)
    → ((u : ℕ) → u < t → IsSized w.set (w.row u)) → KeepsBefore spin_rule w t → HasChoice w t
next_lawful_row w t accepted lawful sized keeps =
    let s : Shown w t = shown w t lawful (λ x l. numbers_of_accepted w.set x accepted l)
    (λ u l. sound_taken is_shared_interference w u (sized u l) (spin_sound_row w u (keeps u l))) in
    choice_at (record { list = jobs_of w; tick = t; places = s.places; holders = s.holders; coming = s.coming }) w.row s.shows keeps
