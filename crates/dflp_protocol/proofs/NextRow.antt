-- After any rows that can be taken there is a chosen row.
use Rattle.std.proofs.Common.{◌≡◌, ℕ, ◌<◌, ◌≤◌, suc, true, List, [], length, sym, ◌∙◌, arith, Option, Some}
use Rattle.sporadic_model.specs.Homes.{EachHasHome}
use Rattle.sporadic_model.specs.Accepted.{IsAccepted}
use Rattle.sporadic_model.proofs.Laws.{numbers_of_accepted}
use Rattle.schedule_model.specs.LawfulJobs.{AreLawfulJobs}
use Rattle.schedule_model.specs.RowDef.{RowDef, Trace, jobs_of}
use Rattle.schedule_model.specs.TakenRows.{CanBeTakenBefore}
use Rattle.schedule_model.specs.Keeping.{KeepsBefore}
use Rattle.schedule_model.specs.Chosen.{IsSized}
use Rattle.schedule_model.specs.BlockedTicks.{is_dpcp_interference}
use Rattle.schedule_model.specs.Ranks.{fmlp_plus}
use Rattle.schedule_model.specs.Activity.{is_active, is_requester}
use Rattle.schedule_laws.specs.Agreement.{AgreeBefore}
use Rattle.schedule_laws.proofs.ActiveJobs.{Requester, requester_is, requester_listed}
use Rattle.schedule_laws.proofs.Segments.{open_resource}
use Rattle.schedule_laws.proofs.TakenRows.{sound_taken}
use Rattle.phase_machine.specs.MachineDef.{MachineDef, under}
use Rattle.phase_machine.specs.Now.{current_now}
use Rattle.phase_machine.specs.Shows.{Shows, Shown}
use Rattle.phase_machine.proofs.Existence.{shown}
use Rattle.phase_machine.proofs.Facts.{reads_before, active_shown}
use Rattle.shared_choosing.specs.Scene.{place_in, running_in}
use Rattle.shared_choosing.specs.Choosing.{Granted, Placed}
use Rattle.shared_choosing.specs.NextRow.{with_row}
use Rattle.shared_choosing.proofs.NextRow.{places_of, place_of_list, running_placed, places_length, same_before, row_there}
use Rattle.shared_choosing.proofs.Scenes.{scene_shown, active_job_in, active_job_now}
use Rattle.shared_choosing.proofs.Walks.{held_at, running_at, granted_at, granted_same, placed_at, placed_same}
use Rattle.shared_choosing.proofs.Chosen.{requests_shown}
use Rattle.fmlp_rules.specs.IssueOrder.{issue_now}
use Rattle.fmlp_rules.specs.IssueOrderLaw.{issue_gives}
use Rattle.dpcp_rules.specs.Homes.{column_now}
use Rattle.dpcp_rules.proofs.Shown.{column_within}
use Rattle.dflp_laws.specs.Rules.{dflp_rule}
use Rattle.dflp_laws.proofs.Laws.{dflp_sound_row}
use Rattle.dflp_protocol.specs.NextRow.{HasChoice}
use Rattle.dflp_protocol.proofs.Chosen.{grants_at, runs_at, choice_made}

-- What holds is a resource of the set, and what runs is on a processor of the set.
resource_within : (m : MachineDef) (rows : ℕ → RowDef) (held : ℕ → Option ℕ) (q j : ℕ) → Shows m rows
    → Granted (grants_at m) (length m.list.set.tasks) held → held q ≡ Some j → q < length m.list.set.resources
resource_within m rows held q j shows g e =
    let asks : is_requester (under m rows) m.tick q j ≡ true =
    sym (requests_shown fmlp_plus (grants_at m) (under m rows) m.tick q j (scene_shown fmlp_plus issue_now issue_now m rows issue_gives shows))
    ∙ g.asks q j e in
    let r : Requester (under m rows) m.tick q j = requester_is (under m rows) m.tick q j asks in
    open_resource m.list.set (under m rows) m.tick j r.number q
    (shows.machine.lawful.each j (requester_listed (under m rows) m.tick q j asks)) r.phase

processor_within : (m : MachineDef) (rows : ℕ → RowDef) (held running : ℕ → Option ℕ) (k r : ℕ) → Shows m rows
    → IsAccepted m.list.set → EachHasHome m.list.set → Placed (runs_at m) held (length m.list.set.tasks) running → running k ≡ Some r
    → (1 ≤ k) × (k ≤ m.list.set.processors)
processor_within m rows held running k r shows accepted homes p e =
    let active : is_active (under m rows) m.tick r ≡ true = sym (active_shown m rows r shows) ∙ p.active k r e in
    let w : (1 ≤ column_now m r) × (column_now m r ≤ m.list.set.processors) = column_within m rows r shows accepted homes active in
    (omega (arith, w.0, p.column k r e), omega (arith, w.1, p.column k r e))

-- The row that a machine's value leads to.
record Row (m : MachineDef) : Type 0 where
  row : RowDef
  sized : IsSized m.list.set row
  holders : Granted (grants_at m) (length m.list.set.tasks) (place_in row.holders)
  running : Placed (runs_at m) (place_in row.holders) (length m.list.set.tasks) (running_in row.running)

row_of : (m : MachineDef) (rows : ℕ → RowDef) → Shows m rows → IsAccepted m.list.set → EachHasHome m.list.set → Row m
row_of m rows shows accepted homes = record {
  row = record { running = places_of (λ c. runs (suc c)) m.list.set.processors; holders = holders };
  sized = record {
    processors = places_length (λ c. runs (suc c)) m.list.set.processors;
    resources = places_length held (length m.list.set.resources);
  };
  holders = granted_same (grants_at m) (length m.list.set.tasks) held (place_in holders) all_granted
      (λ q. place_of_list held (length m.list.set.resources) q (λ j e. resource_within m rows held q j shows all_granted e));
  running = placed_same (runs_at m) (place_in holders) (length m.list.set.tasks) runs
      (running_in (places_of (λ c. runs (suc c)) m.list.set.processors)) placed there;
} where
  held : ℕ → Option ℕ
  held = held_at (grants_at m) (current_now m) (length m.list.set.tasks)

  all_granted : Granted (grants_at m) (length m.list.set.tasks) held
  all_granted = granted_at (grants_at m) (current_now m) (length m.list.set.tasks)
      (λ x l. active_job_now m (issue_now m) (issue_now m) x shows.machine l)

  holders : List (Option ℕ)
  holders = places_of held (length m.list.set.resources)

  runs : ℕ → Option ℕ
  runs = running_at (runs_at m) (place_in holders) (current_now m) (length m.list.set.tasks)

  placed : Placed (runs_at m) (place_in holders) (length m.list.set.tasks) runs
  placed = placed_at (runs_at m) (place_in holders) (current_now m) (length m.list.set.tasks)
      (λ x l. active_job_in m (column_now m) (issue_now m) (issue_now m) x shows.machine l)

  there : (k : ℕ) → running_in (places_of (λ c. runs (suc c)) m.list.set.processors) k ≡ runs k
  there = running_placed runs m.list.set.processors []
      (λ k r e. processor_within m rows (place_in holders) runs k r shows accepted homes placed e)

choice_at : (m : MachineDef) (rows : ℕ → RowDef) → Shows m rows → IsAccepted m.list.set → EachHasHome m.list.set
    → HasChoice (under m rows) m.tick
choice_at m rows shows accepted homes = record {
  row = r.row;
  chosen = choice_made m (with_row (under m rows) m.tick r.row).row r.row
      (reads_before m rows (with_row (under m rows) m.tick r.row).row agree.rows shows)
      (row_there (under m rows) m.tick r.row) r.sized r.holders r.running;
} where
  r : Row m
  r = row_of m rows shows accepted homes

  agree : AgreeBefore (under m rows) (with_row (under m rows) m.tick r.row) m.tick
  agree = same_before (under m rows) m.tick r.row

pub next_row : (w : Trace) (t : ℕ) → IsAccepted w.set → EachHasHome w.set → AreLawfulJobs (jobs_of w) → CanBeTakenBefore w t → HasChoice w t
next_row w t accepted homes lawful taken =
    let s : Shown w t = shown w t lawful (λ x l. numbers_of_accepted w.set x accepted l) taken in
    choice_at (record { list = jobs_of w; tick = t; places = s.places; holders = s.holders; coming = s.coming }) w.row
    s.shows accepted homes

pub next_lawful_row : (w : Trace) (t : ℕ) → IsAccepted w.set → EachHasHome w.set → AreLawfulJobs (jobs_of w)
    → ((u : ℕ) → u < t → IsSized w.set (w.row u)) → KeepsBefore dflp_rule w t → HasChoice w t
next_lawful_row w t accepted homes lawful sized keeps =
    next_row w t accepted homes lawful (λ u l. sound_taken is_dpcp_interference w u (sized u l) (dflp_sound_row w u (keeps u l)))
