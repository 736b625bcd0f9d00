-- After any rows that can be taken there is a chosen row.
use Rattle.std.proofs.Common.{◌≡◌, ◌⊎◌, ℕ, ◌<◌, ◌≤◌, zero, suc, true, List, length, refl, ◌∙◌, arith, inl, inr, []}
use Rattle.std.proofs.Common.{Option, Some, None, subst, add-one, min, replicate}
use Rattle.std.proofs.Math.ListN.{set}
use Rattle.std.proofs.lemmas.Bool.{cases_lt}
use Rattle.std.proofs.lemmas.List.{get_or-set_same, get_or-set_other, length-set, length-replicate}
use Rattle.std.proofs.lemmas.Option.{same_Some}
use Rattle.sporadic_model.specs.Homes.{EachHasHome}
use Rattle.sporadic_model.specs.Accepted.{IsAccepted}
use Rattle.schedule_model.specs.LawfulJobs.{AreLawfulJobs}
use Rattle.schedule_model.specs.RowDef.{RowDef, Trace, jobs_of}
use Rattle.schedule_model.specs.TakenRows.{CanBeTakenBefore}
use Rattle.schedule_model.specs.Protocols.{dpcp_rule}
use Rattle.schedule_model.specs.Keeping.{KeepsBefore}
use Rattle.schedule_model.specs.Chosen.{IsSized}
use Rattle.schedule_laws.specs.Agreement.{AgreeBefore}
use Rattle.schedule_laws.proofs.ActiveJobs.{active_listed, Requester, requester_is}
use Rattle.schedule_laws.proofs.Segments.{open_resource}
use Rattle.schedule_laws.proofs.TakenRows.{sound_taken}
use Rattle.schedule_laws.proofs.DpcpLaws.{dpcp_sound_row}
use Rattle.schedule_model.specs.BlockedTicks.{is_dpcp_interference}
use Rattle.sporadic_model.proofs.Laws.{numbers_of_accepted}
use Rattle.phase_machine.specs.MachineDef.{MachineDef, under}
use Rattle.phase_machine.specs.Now.{active_now, current_now, holder_now, requester_now}
use Rattle.phase_machine.specs.Shows.{Shows, Shown}
use Rattle.phase_machine.proofs.Existence.{shown}
use Rattle.phase_machine.proofs.Facts.{active_true, reads_before}
use Rattle.phase_machine.specs.Now.{is_local_now, holds_now}
use Rattle.shared_choosing.specs.Scene.{stays, place_in, running_in}
use Rattle.shared_choosing.specs.NextRow.{with_row}
use Rattle.shared_rules.proofs.HolderTests.{held_within}
use Rattle.shared_choosing.proofs.NextRow.{places_of, place_of_list, running_placed, places_length, same_before, row_there}
use Rattle.dpcp_rules.specs.Homes.{ceiling_now, column_now, waiting_place, kept_place, entry_at, IsLeast}
use Rattle.dpcp_rules.specs.declared.tables.TheConstants.{PLACES}
use Rattle.dpcp_rules.specs.Choosing.{grant_claim, holder_claim, local_claim, AreHolders, IsRunning}
use Rattle.dpcp_rules.specs.NextRow.{HasChoice}
use Rattle.dpcp_rules.proofs.Shown.{column_within}
use Rattle.dpcp_rules.proofs.Least.{least_first, least_next, least_skip}
use Rattle.shared_choosing.proofs.Filling.{filled_at, all_filled, filled_same, running_read}
use Rattle.dpcp_rules.proofs.Chosen.{stays_is, cond_some, Due, due_of}
use Rattle.dpcp_rules.proofs.Written.{choice_made}

-- Each table can be made.
record Table (place key : ℕ → ℕ) (most n : ℕ) : Type 0 where
  entries : List ℕ
  size : length entries ≡ PLACES
  least : IsLeast place key most n entries

table_of : (place key : ℕ → ℕ) (most n : ℕ) → Table place key most n
table_of place key most zero = record {
  entries = replicate PLACES most;
  size = length-replicate PLACES most;
  least = least_first place key most (replicate PLACES most) refl;
}
table_of place key most (suc n) = go (table_of place key most n) (cases_lt (place n) PLACES) where
  go : Table place key most n → (place n < PLACES) ⊎ (PLACES ≤ place n) → Table place key most (suc n)
  go t (inl here) = record {
    entries = set t.entries (place n) (min (entry_at t.entries (place n)) (key n));
    size = length-set t.entries (place n) (min (entry_at t.entries (place n)) (key n)) ∙ t.size;
    least = subst (λ c. IsLeast place key most c (set t.entries (place n) (min (entry_at t.entries (place n)) (key n)))) (add-one n)
        (least_next place key most n (place n) t.entries (set t.entries (place n) (min (entry_at t.entries (place n)) (key n))) refl t.least
        (get_or-set_same t.entries (place n) (min (entry_at t.entries (place n)) (key n)) 0 (omega (arith, here, t.size)))
        (λ r other. get_or-set_other t.entries (place n) r (min (entry_at t.entries (place n)) (key n)) 0 other));
  }
  go t (inr past) = record {
    entries = t.entries;
    size = t.size;
    least = subst (λ c. IsLeast place key most c t.entries) (add-one n) (least_skip place key most n t.entries t.least past);
  }

-- What holds is a resource of the set, and what runs is on a processor of the set.
resource_within : (m : MachineDef) (rows : ℕ → RowDef) (first bars : List ℕ) (held : ℕ → Option ℕ) (q j : ℕ)
    → Shows m rows → AreHolders m first bars held → held q ≡ Some j → q < length m.list.set.resources
resource_within m rows first bars held q j shows g e = elim (g.from q j e) [
  | inl old ↦ held_within m rows q j shows (stays_is (requester_now m q) (holder_now m q) j old).0
  | inr taken ↦
      let d : Due m rows first bars q j = due_of m rows first bars q j shows taken.active taken.claims in
      let r : Requester (under m rows) m.tick q j = requester_is (under m rows) m.tick q j d.asks in
      open_resource m.list.set (under m rows) m.tick j r.number q
      (shows.machine.lawful.each j (active_listed (under m rows) m.tick j r.active)) r.phase
]

processor_within : (m : MachineDef) (rows : ℕ → RowDef) (held running : ℕ → Option ℕ) (k j : ℕ) → Shows m rows
    → IsAccepted m.list.set → EachHasHome m.list.set → IsRunning m held running → running k ≡ Some j
    → (1 ≤ k) × (k ≤ m.list.set.processors)
processor_within m rows held running k j shows accepted homes p e = elim (p.locals.from k j e) [
  | inr local ↦ there local.active (cond_some (is_local_now m j) (Some (column_now m j)) k local.claims).1
  | inl before ↦ elim (p.holders.from k j before) [
    | inr holder ↦ there holder.active (cond_some (holds_now m held j) (Some (column_now m j)) k holder.claims).1
    | inl nothing ↦ absurd (cc)
  ]
] where
  there : active_now m j ≡ true → Some (column_now m j) ≡ Some k → (1 ≤ k) × (k ≤ m.list.set.processors)
  there a f =
      let w : (1 ≤ column_now m j) × (column_now m j ≤ m.list.set.processors) =
      column_within m rows j shows accepted homes (active_true m rows j shows a) in
      let same : column_now m j ≡ k = same_Some (column_now m j) k f in
      (omega (arith, w.0, same), omega (arith, w.1, same))

-- The row that a machine's value leads to.
record Row (m : MachineDef) (first bars : List ℕ) : Type 0 where
  row : RowDef
  sized : IsSized m.list.set row
  holders : AreHolders m first bars (place_in row.holders)
  running : IsRunning m (place_in row.holders) (running_in row.running)

row_of : (m : MachineDef) (rows : ℕ → RowDef) (first bars : List ℕ) → Shows m rows → IsAccepted m.list.set
    → EachHasHome m.list.set → Row m first bars
row_of m rows first bars shows accepted homes = record {
  row = record { running = places_of (λ c. runs (suc c)) m.list.set.processors; holders = holders };
  sized = record {
    processors = places_length (λ c. runs (suc c)) m.list.set.processors;
    resources = places_length held (length m.list.set.resources);
  };
  holders = filled_same m (grant_claim m first bars) (λ q. stays (requester_now m q) (holder_now m q))
      (length m.list.set.tasks) held (place_in holders) all_held
      (λ q. place_of_list held (length m.list.set.resources) q (λ j e. resource_within m rows first bars held q j shows all_held e));
  running = running_read m (holder_claim m (place_in holders)) (local_claim m) runs (running_in (places_of (λ c. runs (suc c)) m.list.set.processors)) all_running there;
} where
  held : ℕ → Option ℕ
  held = filled_at (grant_claim m first bars) (λ q. stays (requester_now m q) (holder_now m q)) (current_now m) (length m.list.set.tasks)

  all_held : AreHolders m first bars held
  all_held = all_filled m (grant_claim m first bars) (λ q. stays (requester_now m q) (holder_now m q))
      (length m.list.set.tasks) shows.machine (omega arith)

  holders : List (Option ℕ)
  holders = places_of held (length m.list.set.resources)

  before : ℕ → Option ℕ
  before = filled_at (holder_claim m (place_in holders)) (λ k. None) (current_now m) (length m.list.set.tasks)

  runs : ℕ → Option ℕ
  runs = filled_at (local_claim m) before (current_now m) (length m.list.set.tasks)

  all_running : IsRunning m (place_in holders) runs
  all_running = record {
    before = before;
    holders = all_filled m (holder_claim m (place_in holders)) (λ k. None) (length m.list.set.tasks) shows.machine (omega arith);
    locals = all_filled m (local_claim m) before (length m.list.set.tasks) shows.machine (omega arith);
  }

  there : (k : ℕ) → running_in (places_of (λ c. runs (suc c)) m.list.set.processors) k ≡ runs k
  there = running_placed runs m.list.set.processors []
      (λ k r e. processor_within m rows (place_in holders) runs k r shows accepted homes all_running e)

choice_at : (m : MachineDef) (rows : ℕ → RowDef) → Shows m rows → IsAccepted m.list.set → EachHasHome m.list.set
    → HasChoice (under m rows) m.tick
choice_at m rows shows accepted homes = record {
  row = r.row;
  chosen = choice_made m (with_row (under m rows) m.tick r.row).row r.row waiting.entries kept.entries
      (record {
        shows = reads_before m rows (with_row (under m rows) m.tick r.row).row agree.rows shows;
        accepted = accepted;
        homes = homes;
        waiting = waiting.least;
        kept = kept.least;
      })
      (row_there (under m rows) m.tick r.row) r.sized r.holders r.running;
} where
  waiting : Table (waiting_place m) (λ x. x) (length m.list.set.tasks) (length m.list.set.tasks)
  waiting = table_of (waiting_place m) (λ x. x) (length m.list.set.tasks) (length m.list.set.tasks)

  kept : Table (kept_place m) (ceiling_now m) (length m.list.set.tasks) (length m.list.set.resources)
  kept = table_of (kept_place m) (ceiling_now m) (length m.list.set.tasks) (length m.list.set.resources)

  r : Row m waiting.entries kept.entries
  r = row_of m rows waiting.entries kept.entries shows accepted homes

  agree : AgreeBefore (under m rows) (with_row (under m rows) m.tick r.row) m.tick
  agree = same_before (under m rows) m.tick r.row

pub next_row : (w : Trace) (t : ℕ) → IsAccepted w.set → EachHasHome w.set → AreLawfulJobs (jobs_of w) → CanBeTakenBefore w t → HasChoice w t
next_row w t accepted homes lawful taken =
    let s : Shown w t = shown w t lawful (λ x l. numbers_of_accepted w.set x accepted l) taken in
    choice_at (record { list = jobs_of w; tick = t; places = s.places; holders = s.holders; coming = s.coming }) w.row
    s.shows accepted homes

pub next_lawful_row : (w : Trace) (t : ℕ) → IsAccepted w.set → EachHasHome w.set → AreLawfulJobs (jobs_of w)
    → ((u : ℕ) → u < t → IsSized w.set (w.row u)) → KeepsBefore dpcp_rule w t → HasChoice w t
next_lawful_row w t accepted homes lawful sized keeps =
    next_row w t accepted homes lawful (λ u l. sound_taken is_dpcp_interference w u (sized u l) (dpcp_sound_row w u (keeps u l)))
