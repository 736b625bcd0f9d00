-- The test of Grant says that the row keeps it.
use Rattle.std.proofs.Common.{◌≡◌, ℕ, ◌<◌, not, Bool, true, false, List, length, refl, sym, ap, ◌∙◌, inl, inr, Option, Some, None, cond}
use Rattle.std.specs.Option.{option_map_or}
use Rattle.std.proofs.lemmas.Bool.{cases_Bool, and_parts, and_from, not_from_false, or_left, or_right}
use Rattle.number_laws.specs.Tests.{all_below}
use Rattle.number_laws.proofs.TestLaws.{all_below-each, all_below-from}
use Rattle.sporadic_model.specs.Homes.{EachHasHome}
use Rattle.sporadic_model.specs.Accepted.{IsAccepted}
use Rattle.schedule_model.specs.RowDef.{RowDef, is_job, holder_in, held_before}
use Rattle.schedule_model.specs.Phase.Phase.{Asking}
use Rattle.schedule_model.specs.Activity.{is_active, is_requester, holds_by}
use Rattle.schedule_model.specs.DpcpRules.{home_of, waits_at, is_first_waiting, is_granted, KeepsGrant}
use Rattle.schedule_model.proofs.RuleTests.{or_other}
use Rattle.schedule_laws.proofs.ActiveJobs.{Requester, requester_is, requester_listed}
use Rattle.schedule_laws.proofs.Rows.{job_named, named_job}
use Rattle.phase_machine.specs.MachineDef.{MachineDef, under}
use Rattle.phase_machine.specs.Now.{requester_now, waiting_now}
use Rattle.phase_machine.specs.Shows.{Shows}
use Rattle.phase_machine.proofs.Facts.{requester_shown}
use Rattle.phase_machine.specs.Now.{holds_now}
use Rattle.shared_rules.specs.RowTests.{each_current, holder_passes}
use Rattle.shared_rules.proofs.Currents.{each_is, each_from}
use Rattle.dpcp_rules.specs.Homes.{ceiling_now, waiting_place, kept_place, IsLeast}
use Rattle.dpcp_rules.specs.RowTests.{is_due, request_passes, passes_grant}
use Rattle.dpcp_rules.proofs.Shown.{phase_is, column_is}
use Rattle.dpcp_rules.proofs.Waiting.{Requesting, waiting_asks, waits_new, waiting_of}
use Rattle.dpcp_rules.proofs.Entries.{due_shown}

-- What the tests of Grant are made under: the schedule's machine, its set, and the two tables.
pub record Noted (m : MachineDef) (rows : ℕ → RowDef) (first bars : List ℕ) : Type 0 where
  pub shows : Shows m rows
  pub accepted : IsAccepted m.list.set
  pub homes : EachHasHome m.list.set
  pub waiting : IsLeast (waiting_place m) (λ x. x) (length m.list.set.tasks) (length m.list.set.tasks) first
  pub kept : IsLeast (kept_place m) (ceiling_now m) (length m.list.set.tasks) (length m.list.set.resources) bars

-- Who is granted waits.
pub granted_waits : (m : MachineDef) (rows : ℕ → RowDef) (k j : ℕ) → is_granted (under m rows) m.tick k j ≡ true
    → waits_at (under m rows) m.tick k j ≡ true
unfolding is_granted is_first_waiting
granted_waits m rows k j h = (and_parts _ _ (and_parts _ _ h).0).0

-- Where a request's resource has its home it is granted exactly where it is due, if it waits.
pub due_at : (m : MachineDef) (rows : ℕ → RowDef) (first bars : List ℕ) (q j : ℕ) → Noted m rows first bars
    → is_requester (under m rows) m.tick q j ≡ true → waiting_now m j ≡ true
    → is_due m first bars j ≡ is_granted (under m rows) m.tick (home_of (under m rows) q) j
due_at m rows first bars q j noted asks w =
    let r : Requester (under m rows) m.tick q j = requester_is (under m rows) m.tick q j asks in
    due_shown m rows first bars j noted.shows noted.accepted noted.homes noted.waiting noted.kept r.active w
    ∙ ap (λ k. is_granted (under m rows) m.tick k j) (column_is m rows j (Asking r.number q) noted.shows r.active r.phase)

-- Whether a requester of q holds it.
pub holds_at_q : (m : MachineDef) (rows : ℕ → RowDef) (held : ℕ → Option ℕ) (q j : ℕ) → Shows m rows
    → is_requester (under m rows) m.tick q j ≡ true → holds_now m held j ≡ is_job j (held q)
holds_at_q m rows held q j shows asks =
    let r : Requester (under m rows) m.tick q j = requester_is (under m rows) m.tick q j asks in
    ap (holds_by held j) (phase_is m rows j (Asking r.number q) shows r.active r.phase)

-- What a test of this form says.
due_holds : (due held : Bool) → cond due held (not held) ≡ true → due ≡ true → held ≡ true
due_holds true held h e = h
due_holds false held h e = absurd (cc)

holds_due : (due held : Bool) → cond due held (not held) ≡ true → held ≡ true → due ≡ true
holds_due true held h e = refl
holds_due false true h e = absurd (cc)
holds_due false false h e = absurd (cc)

both_or_none : (due held : Bool) → (due ≡ true → held ≡ true) → (held ≡ true → due ≡ true) → cond due held (not held) ≡ true
both_or_none true held f g = f refl
both_or_none false true f g = let x : false ≡ true = g refl in absurd (cc)
both_or_none false false f g = refl

pub grant_is : (m : MachineDef) (rows : ℕ → RowDef) (first bars : List ℕ) → Noted m rows first bars
    → ((q j : ℕ) → holder_in (rows m.tick) q ≡ Some j → q < length m.list.set.resources)
    → passes_grant m first bars (rows m.tick) ≡ true → KeepsGrant (under m rows) m.tick
unfolding passes_grant
grant_is m rows first bars noted within h = record {
  requests = λ q j e. requests q j e;
  new = λ q j e fresh. new q j e fresh;
  granted = λ q j l asks g. granted q j asks g;
} where
  parts : (all_below (length m.list.set.resources) (holder_passes m (rows m.tick)) ≡ true)
      × (each_current m (request_passes m first bars (rows m.tick)) ≡ true)
  parts = and_parts (all_below (length m.list.set.resources) (holder_passes m (rows m.tick)))
      (each_current m (request_passes m first bars (rows m.tick))) h

  requests : (q j : ℕ) → holder_in (rows m.tick) q ≡ Some j → is_requester (under m rows) m.tick q j ≡ true
  requests q j e =
      sym (requester_shown m rows q j noted.shows) ∙ sym (ap (λ o. option_map_or (requester_now m q) o true) e)
      ∙ all_below-each (length m.list.set.resources) (holder_passes m (rows m.tick)) parts.0 q (within q j e)

  test : (q j : ℕ) → is_requester (under m rows) m.tick q j ≡ true → waiting_now m j ≡ true
      → cond (is_due m first bars j) (holds_now m (holder_in (rows m.tick)) j) (not (holds_now m (holder_in (rows m.tick)) j)) ≡ true
  test q j asks w =
      let r : Requester (under m rows) m.tick q j = requester_is (under m rows) m.tick q j asks in
      or_other (not (waiting_now m j)) (cond (is_due m first bars j) (holds_now m (holder_in (rows m.tick)) j)
      (not (holds_now m (holder_in (rows m.tick)) j)))
      (each_is m rows (request_passes m first bars (rows m.tick)) j noted.shows parts.1 r.active) (ap not w)

  new : (q j : ℕ) → holder_in (rows m.tick) q ≡ Some j → (held_before (under m rows) m.tick q ≡ Some j → ⊥)
      → is_granted (under m rows) m.tick (home_of (under m rows) q) j ≡ true
  new q j e fresh =
      let asks : is_requester (under m rows) m.tick q j ≡ true = requests q j e in
      let w : waiting_now m j ≡ true = waits_new m rows q j noted.shows asks fresh in
      let holds : holds_now m (holder_in (rows m.tick)) j ≡ true =
      holds_at_q m rows (holder_in (rows m.tick)) q j noted.shows asks ∙ named_job j (holder_in (rows m.tick) q) e in
      sym (due_at m rows first bars q j noted asks w)
      ∙ holds_due (is_due m first bars j) (holds_now m (holder_in (rows m.tick)) j) (test q j asks w) holds

  granted : (q j : ℕ) → is_requester (under m rows) m.tick q j ≡ true
      → is_granted (under m rows) m.tick (home_of (under m rows) q) j ≡ true → holder_in (rows m.tick) q ≡ Some j
  granted q j asks g =
      let w : waiting_now m j ≡ true = waiting_of m rows (home_of (under m rows) q) q j noted.shows asks
      (granted_waits m rows (home_of (under m rows) q) j g) in
      let holds : holds_now m (holder_in (rows m.tick)) j ≡ true = due_holds (is_due m first bars j)
      (holds_now m (holder_in (rows m.tick)) j) (test q j asks w) (due_at m rows first bars q j noted asks w ∙ g) in
      job_named j (holder_in (rows m.tick) q) (sym (holds_at_q m rows (holder_in (rows m.tick)) q j noted.shows asks) ∙ holds)

pub grant_from : (m : MachineDef) (rows : ℕ → RowDef) (first bars : List ℕ) → Noted m rows first bars
    → KeepsGrant (under m rows) m.tick → passes_grant m first bars (rows m.tick) ≡ true
unfolding passes_grant
grant_from m rows first bars noted grant =
    and_from (all_below (length m.list.set.resources) (holder_passes m (rows m.tick)))
    (each_current m (request_passes m first bars (rows m.tick)))
    (all_below-from (length m.list.set.resources) (holder_passes m (rows m.tick)) (λ q l. at_resource q (holder_in (rows m.tick) q) refl))
    (each_from m rows (request_passes m first bars (rows m.tick)) noted.shows (λ j a. at_job j a)) where
      at_resource : (q : ℕ) (o : Option ℕ) → holder_in (rows m.tick) q ≡ o → holder_passes m (rows m.tick) q ≡ true
      at_resource q None e = ap (λ o. option_map_or (requester_now m q) o true) e
      at_resource q (Some j) e = ap (λ o. option_map_or (requester_now m q) o true) e
          ∙ requester_shown m rows q j noted.shows ∙ grant.requests q j e

      waits : (j : ℕ) → is_active (under m rows) m.tick j ≡ true → waiting_now m j ≡ true
          → cond (is_due m first bars j) (holds_now m (holder_in (rows m.tick)) j) (not (holds_now m (holder_in (rows m.tick)) j)) ≡ true
      waits j a w =
          let r : Requesting m rows j = waiting_asks m rows j noted.shows a w in
          let asks : is_requester (under m rows) m.tick r.resource j ≡ true = r.asks in
          let due : is_due m first bars j ≡ is_granted (under m rows) m.tick (home_of (under m rows) r.resource) j =
          due_at m rows first bars r.resource j noted asks w in
          let holds : holds_now m (holder_in (rows m.tick)) j ≡ is_job j (holder_in (rows m.tick) r.resource) =
          holds_at_q m rows (holder_in (rows m.tick)) r.resource j noted.shows asks in
          both_or_none (is_due m first bars j) (holds_now m (holder_in (rows m.tick)) j)
          (λ d. holds ∙ named_job j (holder_in (rows m.tick) r.resource)
          (grant.granted r.resource j (requester_listed (under m rows) m.tick r.resource j asks) asks (sym due ∙ d)))
          (λ h. due ∙ grant.new r.resource j (job_named j (holder_in (rows m.tick) r.resource) (sym holds ∙ h)) r.fresh)

      at_job : (j : ℕ) → is_active (under m rows) m.tick j ≡ true → request_passes m first bars (rows m.tick) j ≡ true
      at_job j a = elim (cases_Bool (waiting_now m j)) [
        | inl w ↦ or_right (not (waiting_now m j))
            (cond (is_due m first bars j) (holds_now m (holder_in (rows m.tick)) j)
            (not (holds_now m (holder_in (rows m.tick)) j))) (waits j a w)
        | inr fails ↦ or_left (not (waiting_now m j))
            (cond (is_due m first bars j) (holds_now m (holder_in (rows m.tick)) j)
            (not (holds_now m (holder_in (rows m.tick)) j))) (not_from_false (waiting_now m j) fails)
      ]
