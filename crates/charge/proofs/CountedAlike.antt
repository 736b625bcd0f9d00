-- The ticks of a steady stretch are counted alike, as far as no active job's bound ends within it.
use Rattle.std.proofs.Common.{◌≡◌, ℕ, ◌+◌, ◌<◌, ◌≤◌, true, List, length, refl, sym, ap, ◌∙◌, arith, inl, inr, Option, Some, None}
use Rattle.std.specs.Prelude.{nat_lt, slice_index, option_map, if◌then◌else◌}
use Rattle.std.specs.Option.{option_and_then}
use Rattle.std.proofs.lemmas.Bool.{cases_lt, cases_Bool, both_ways, lt-ltb, le-ltb}
use Rattle.schedule_model.specs.RowDef.{RowDef, Trace}
use Rattle.schedule_model.specs.Phase.{phase_of}
use Rattle.schedule_model.specs.Activity.{is_active}
use Rattle.schedule_laws.proofs.ActiveJobs.{active_listed}
use Rattle.schedule_laws.specs.Steady.{IsSteady}
use Rattle.schedule_laws.proofs.Alike.{IsAlike, alike_through, active_alike, phase_through}
use Rattle.phase_machine.specs.MachineDef.{MachineDef, task_in, under}
use Rattle.phase_machine.specs.Shows.{Shows}
use Rattle.phase_machine.proofs.Facts.{current_from}
use Rattle.phase_machine.proofs.Lawful.{task_listed}
use Rattle.charge_laws.specs.Charges.{Charge}
use Rattle.charge_laws.specs.Windows.{bound_end}
use Rattle.charge.specs.Requests.{ChargedRequest, request_in, charged_request}
use Rattle.charge.specs.Tally.{AreCountedAlike, place_of}
use Rattle.charge.specs.Due.{IsClearBelow}
use Rattle.charge.proofs.TallyLaws.{Charges, OfActive, uncharged_nowhere, inactive_uncharged}

-- The request of a charge at a tick.
abbrev request_at : Trace → ℕ → Option Charge → Option ChargedRequest
request_at w t o = option_and_then (λ charge. request_in charge (phase_of w t charge.job)) o

-- Ticks with the same charge, at which each job is in the same phase, are charged to the same request.
pub request_stays : (charges : Charges) (w : Trace) (t u j : ℕ) → charges w u j ≡ charges w t j
    → ((k : ℕ) → phase_of w u k ≡ phase_of w t k) → charged_request charges w u j ≡ charged_request charges w t j
request_stays charges w t u j same phase = ap (request_at w u) same ∙ go (charges w t j) where
  go : (o : Option Charge) → request_at w u o ≡ request_at w t o
  go None = refl
  go (Some c) = ap (request_in c) (phase c.job)

-- The bound of a job that is active at the first tick has ended by then, or ends after all of them.
ends_later : (m : MachineDef) (rows : ℕ → RowDef) (bounds : List ℕ) (n k : ℕ) → Shows m rows
    → IsClearBelow m bounds n (length m.list.set.tasks) → is_active (under m rows) m.tick k ≡ true
    → m.tick < bound_end (under m rows) (slice_index bounds) k → m.tick + n ≤ bound_end (under m rows) (slice_index bounds) k
ends_later m rows bounds n k shows clear active later =
    clear (task_in m.list.jobs k) k
    (task_listed m.list k shows.machine.lawful (active_listed (under m rows) m.tick k active)) (current_from m rows k shows active) later

-- So the ticks are counted alike.
pub counted_alike : (charges : Charges) (m : MachineDef) (rows : ℕ → RowDef) (bounds : List ℕ) (n : ℕ) → Shows m rows
    → OfActive charges (under m rows) m.tick → IsSteady (under m rows) m.tick n
    → ((i j : ℕ) → i < n → charges (under m rows) (m.tick + i) j ≡ charges (under m rows) m.tick j)
    → IsClearBelow m bounds n (length m.list.set.tasks) → AreCountedAlike charges (under m rows) (slice_index bounds) m.tick n
counted_alike charges m rows bounds n shows only steady same clear i j l = elim (cases_Bool (is_active w m.tick j)) [
  | inl active ↦
      ap (λ b. if b then option_map (place_of j) (charged_request charges w (m.tick + i) j) else None) (within active)
      ∙ ap (λ o. if nat_lt m.tick (bound_end w bound j) then option_map (place_of j) o else None)
      (request_stays charges w m.tick (m.tick + i) j (same i j l) (λ k. phase_through w m.tick n i k steady l))
  | inr idle ↦
      let none : charges w m.tick j ≡ None = inactive_uncharged charges w m.tick j only (λ h. both_ways _ idle h) in
      uncharged_nowhere charges w bound (m.tick + i) j (same i j l ∙ none) ∙ sym (uncharged_nowhere charges w bound m.tick j none)
] where
  w : Trace
  w = under m rows

  bound : ℕ → ℕ
  bound = slice_index bounds

  within : is_active w m.tick j ≡ true → nat_lt (m.tick + i) (bound_end w bound j) ≡ nat_lt m.tick (bound_end w bound j)
  within active = elim (cases_lt m.tick (bound_end w bound j)) [
    | inl later ↦
        let all : m.tick + n ≤ bound_end w bound j = ends_later m rows bounds n j shows clear active later in
        lt-ltb (m.tick + i) (bound_end w bound j) (omega (arith, all, l)) ∙ sym (lt-ltb m.tick (bound_end w bound j) later)
    | inr past ↦
        le-ltb (m.tick + i) (bound_end w bound j) (omega (arith, past)) ∙ sym (le-ltb m.tick (bound_end w bound j) past)
  ]

-- And no job is active at the end of its bound between the first of them and the last.
pub ends_elsewhere : (m : MachineDef) (rows : ℕ → RowDef) (bounds : List ℕ) (n : ℕ) → Shows m rows → IsSteady (under m rows) m.tick n
    → IsClearBelow m bounds n (length m.list.set.tasks) → (k i : ℕ) → 0 < i → i < n → is_active (under m rows) (m.tick + i) k ≡ true
    → bound_end (under m rows) (slice_index bounds) k ≡ m.tick + i → ⊥
ends_elsewhere m rows bounds n shows steady clear k i some l active e =
    let a : IsAlike (under m rows) m.tick (m.tick + i) = alike_through (under m rows) m.tick n i steady some l in
    let first : is_active (under m rows) m.tick k ≡ true = sym (active_alike (under m rows) m.tick (m.tick + i) k a) ∙ active in
    let later : m.tick < bound_end (under m rows) (slice_index bounds) k = omega (arith, e, some) in
    absurd (omega (arith, e, l, ends_later m rows bounds n k shows clear first later))
