-- What an active job does, at a machine and in a schedule that it shows.
use Rattle.std.proofs.Common.{◌≡◌, ℕ, ◌<◌, ◌≤◌, true, length, refl, sym, ap, ◌∙◌, Option, Some, None}
use Rattle.std.specs.Prelude.{IsSome, unwrap_or}
use Rattle.std.proofs.lemmas.Bool.{and_parts, and_from, both_ways, eq-eqb}
use Rattle.sporadic_model.specs.SetDef.{SetDef, resource_at}
use Rattle.sporadic_model.specs.Homes.{home_in, EachHasHome}
use Rattle.sporadic_model.specs.Accepted.{KeepsRanges, IsAccepted, TaskNumbers}
use Rattle.sporadic_model.specs.declared.limits.TheConstants.{MOST_PROCESSORS}
use Rattle.schedule_model.specs.RowDef.{Trace, RowDef, holder_in}
use Rattle.schedule_model.specs.Phase.{Phase, is_finished, phase_of}
use Rattle.schedule_model.specs.Phase.Phase.{Local, Asking, Finished}
use Rattle.schedule_model.specs.Activity.{is_active, holds_by}
use Rattle.schedule_model.specs.DpcpRules.{home_of, is_at, has_request_at, holds_at}
use Rattle.schedule_laws.proofs.ActiveJobs.{Active, active_is, active_listed}
use Rattle.schedule_laws.proofs.Rows.{job_named, holds_from}
use Rattle.schedule_laws.proofs.Segments.{open_resource}
use Rattle.schedule_laws.proofs.DpcpStretches.{RequestAt, request_at_is}
use Rattle.phase_machine.specs.MachineDef.{MachineDef, task_in, under}
use Rattle.phase_machine.specs.Now.{phase_now, processor_now}
use Rattle.phase_machine.specs.Shows.{Shows}
use Rattle.phase_machine.proofs.Lawful.{task_listed}
use Rattle.phase_machine.proofs.Facts.{phase_shown}
use Rattle.dpcp_rules.specs.Homes.{column_in, column_now}

-- An active job is in a phase at the machine that is its phase in the schedule.
pub phase_is : (m : MachineDef) (rows : ℕ → RowDef) (j : ℕ) (p : Phase) → Shows m rows
    → is_active (under m rows) m.tick j ≡ true → phase_of (under m rows) m.tick j ≡ p → phase_now m j ≡ p
phase_is m rows j p shows a e = phase_shown m rows j shows (active_listed (under m rows) m.tick j a) ∙ e

pub column_is : (m : MachineDef) (rows : ℕ → RowDef) (j : ℕ) (p : Phase) → Shows m rows
    → is_active (under m rows) m.tick j ≡ true → phase_of (under m rows) m.tick j ≡ p → column_now m j ≡ column_in m j p
column_is m rows j p shows a e = ap (column_in m j) (phase_is m rows j p shows a e)

-- An active job isn't finished.
pub unfinished : (w : Trace) (t j : ℕ) → is_active w t j ≡ true → phase_of w t j ≡ Finished → ⊥
unfinished w t j a e = let act : Active w t j = active_is w t j a in
    both_ways (is_finished (phase_of w t j)) act.unfinished (ap is_finished e)

-- What makes a request at a processor.
pub request_at_from : (w : Trace) (t k j n q : ℕ) → is_active w t j ≡ true → phase_of w t j ≡ Asking n q
    → home_of w q ≡ k → has_request_at w t k j ≡ true
unfolding has_request_at
request_at_from w t k j n q a e h = and_from (is_active w t j) (is_at w k (phase_of w t j)) a (ap (is_at w k) e ∙ eq-eqb (home_of w q) k h)

-- What a holder at a processor is.
pub record HolderAt (w : Trace) (t k j : ℕ) : Type 0 where
  pub request : RequestAt w t k j
  pub holds : holder_in (w.row t) request.resource ≡ Some j

pub holds_at_is : (w : Trace) (t k j : ℕ) → holds_at w t k j ≡ true → HolderAt w t k j
unfolding holds_at
holds_at_is w t k j h =
    let parts : (has_request_at w t k j ≡ true) × (holds_by (holder_in (w.row t)) j (phase_of w t j) ≡ true) =
    and_parts (has_request_at w t k j) (holds_by (holder_in (w.row t)) j (phase_of w t j)) h in
    let r : RequestAt w t k j = request_at_is w t k j parts.0 in
    record {
      request = r;
      holds =
          job_named j (holder_in (w.row t) r.resource) (sym (ap (holds_by (holder_in (w.row t)) j) r.phase) ∙ parts.1);
    }

pub holds_at_from : (w : Trace) (t k j n q : ℕ) → is_active w t j ≡ true → phase_of w t j ≡ Asking n q → home_of w q ≡ k
    → holder_in (w.row t) q ≡ Some j → holds_at w t k j ≡ true
unfolding holds_at
holds_at_from w t k j n q a e h held =
    and_from (has_request_at w t k j) (holds_by (holder_in (w.row t)) j (phase_of w t j))
    (request_at_from w t k j n q a e h) (holds_from (holder_in (w.row t)) j (phase_of w t j) n q e held)

-- The home of a resource of the set, and the processor of a task, are processors.
home_least : (o : Option ℕ) → IsSome o → ((k : ℕ) → o ≡ Some k → 1 ≤ k) → 1 ≤ unwrap_or o 0
home_least None h f = absurd (cc)
home_least (Some k) h f = f k refl

home_most : (o : Option ℕ) (most : ℕ) → IsSome o → ((k : ℕ) → o ≡ Some k → k ≤ most) → unwrap_or o 0 ≤ most
home_most None most h f = absurd (cc)
home_most (Some k) most h f = f k refl

pub homes_within : (set : SetDef) (q : ℕ) → IsAccepted set → EachHasHome set → q < length set.resources
    → (1 ≤ home_in set q) × (home_in set q ≤ set.processors)
unfolding IsAccepted
homes_within set q accepted suits l =
    let ranges : KeepsRanges set = accepted in (
      home_least (resource_at set q).home (suits q l) (λ k e. ranges.homes.homes_from q k l e),
      home_most (resource_at set q).home set.processors (suits q l) (λ k e. ranges.homes.homes_to q k l e),
    )

pub processors_within : (set : SetDef) → IsAccepted set → set.processors ≤ MOST_PROCESSORS
unfolding IsAccepted
processors_within set accepted = let ranges : KeepsRanges set = accepted in ranges.sizes.processors_to

-- So is where an active job runs.
pub column_within : (m : MachineDef) (rows : ℕ → RowDef) (j : ℕ) → Shows m rows → IsAccepted m.list.set
    → EachHasHome m.list.set → is_active (under m rows) m.tick j ≡ true
    → (1 ≤ column_now m j) × (column_now m j ≤ m.list.set.processors)
unfolding IsAccepted
column_within m rows j shows accepted suits a = go (phase_of (under m rows) m.tick j) refl where
  ranges : KeepsRanges m.list.set
  ranges = accepted

  listed : j < length m.list.jobs
  listed = active_listed (under m rows) m.tick j a

  own : (1 ≤ processor_now m j) × (processor_now m j ≤ m.list.set.processors)
  own =
      let numbers : TaskNumbers m.list.set (task_in m.list.jobs j) =
      ranges.numbers (task_in m.list.jobs j) (task_listed m.list j shows.machine.lawful listed) in
      (numbers.processor_from, numbers.processor_to)

  go : (p : Phase) → phase_of (under m rows) m.tick j ≡ p → (1 ≤ column_now m j) × (column_now m j ≤ m.list.set.processors)
  go Local e = rw (column_is m rows j Local shows a e) own
  go Finished e = rw (column_is m rows j Finished shows a e) own
  go (Asking n q) e = rw (column_is m rows j (Asking n q) shows a e)
      (homes_within m.list.set q accepted suits
      (open_resource m.list.set (under m rows) m.tick j n q (shows.machine.lawful.each j listed) e))
