-- The tests of Keep and of Grant say that the row keeps them.
use Rattle.std.proofs.Common.{◌≡◌, ℕ, ◌<◌, ◌≤◌, not, true, false, length, refl, sym, ap, ◌∙◌, arith, inl}
use Rattle.std.proofs.Common.{inr, Option, Some, None}
use Rattle.std.specs.Option.{option_map_or}
use Rattle.std.proofs.lemmas.Bool.{cases_Bool, and_parts, and_from, or_left, or_right, not_from_false, both_ways}
use Rattle.std.proofs.lemmas.Bool.{false_from_ne_true, leb-true, le-leb}
use Rattle.number_laws.specs.Tests.{all_below}
use Rattle.number_laws.proofs.TestLaws.{all_below-each, all_below-from}
use Rattle.schedule_model.specs.RowDef.{RowDef, is_job, holder_in, held_before}
use Rattle.schedule_model.specs.Phase.{Phase}
use Rattle.schedule_model.specs.Phase.Phase.{Local, Asking, Finished}
use Rattle.schedule_model.specs.Activity.{is_active, is_requester}
use Rattle.schedule_model.specs.SharedRules.{Ranks, KeepsKeep, KeepsGrant}
use Rattle.schedule_model.proofs.RuleTests.{or_other}
use Rattle.schedule_laws.proofs.ActiveJobs.{active_listed, requester_listed, requester_from, Requester, requester_is}
use Rattle.schedule_laws.proofs.Rows.{job_named, named_job}
use Rattle.phase_machine.specs.MachineDef.{MachineDef, under}
use Rattle.phase_machine.specs.Now.{phase_now, holder_now, requester_now}
use Rattle.phase_machine.specs.Shows.{Shows}
use Rattle.phase_machine.proofs.Facts.{phase_shown, requester_shown}
use Rattle.phase_machine.specs.Order.{GivesRanks}
use Rattle.phase_machine.proofs.Stretches.{place_within}
use Rattle.shared_rules.specs.RowTests.{each_current, stays_holder, kept_passes, passes_keep, holder_passes}
use Rattle.shared_rules.specs.RowTests.{goes_before, is_served, request_passes, passes_grant}
use Rattle.shared_rules.proofs.Currents.{each_is, each_from}

-- Who held a resource in the last row held one of the set.
pub held_within : (m : MachineDef) (rows : ℕ → RowDef) (q j : ℕ) → Shows m rows → holder_now m q ≡ Some j → q < length m.list.set.resources
held_within m rows q j shows e = omega (arith, place_within m.holders q j e, shows.machine.holders_length)

pub keep_is : (m : MachineDef) (rows : ℕ → RowDef) → Shows m rows → passes_keep m (rows m.tick) ≡ true → KeepsKeep (under m rows) m.tick
unfolding passes_keep
keep_is m rows shows h q j e asks =
    let held : holder_now m q ≡ Some j = shows.holders q ∙ e in
    let p : kept_passes m (rows m.tick) q ≡ true = all_below-each (length m.list.set.resources)
    (kept_passes m (rows m.tick)) h q (held_within m rows q j shows held) in
    let stays : stays_holder m (rows m.tick) q j ≡ true = sym (ap (λ o. option_map_or (stays_holder m (rows m.tick) q) o true) held) ∙ p in
    let no : not (requester_now m q j) ≡ false = ap not (requester_shown m rows q j shows ∙ asks) in
    job_named j (holder_in (rows m.tick) q) (or_other (not (requester_now m q j)) (is_job j (holder_in (rows m.tick) q)) stays no)

pub keep_from : (m : MachineDef) (rows : ℕ → RowDef) → Shows m rows → KeepsKeep (under m rows) m.tick → passes_keep m (rows m.tick) ≡ true
unfolding passes_keep
keep_from m rows shows keep = all_below-from (length m.list.set.resources) (kept_passes m (rows m.tick))
    (λ q l. at_resource q (holder_now m q) refl)
  where
    stays : (q j : ℕ) → holder_now m q ≡ Some j → stays_holder m (rows m.tick) q j ≡ true
    stays q j e = elim (cases_Bool (requester_now m q j)) [
      | inl asks ↦ or_right (not (requester_now m q j)) (is_job j (holder_in (rows m.tick) q))
          (named_job j (holder_in (rows m.tick) q) (keep q j (sym (shows.holders q) ∙ e) (sym (requester_shown m rows q j shows) ∙ asks)))
      | inr ends ↦ or_left (not (requester_now m q j)) (is_job j (holder_in (rows m.tick) q)) (not_from_false _ ends)
    ]

    at_resource : (q : ℕ) (o : Option ℕ) → holder_now m q ≡ o → kept_passes m (rows m.tick) q ≡ true
    at_resource q None e = ap (λ o. option_map_or (stays_holder m (rows m.tick) q) o true) e
    at_resource q (Some j) e = ap (λ o. option_map_or (stays_holder m (rows m.tick) q) o true) e ∙ stays q j e

-- A requester's request is served where it passes.
served_at : (m : MachineDef) (rows : ℕ → RowDef) (grant : ℕ → ℕ) (q i : ℕ) → Shows m rows
    → is_requester (under m rows) m.tick q i ≡ true → request_passes m grant (rows m.tick) i ≡ true
    → goes_before m grant q i (holder_in (rows m.tick) q) ≡ true
served_at m rows grant q i shows asks passes =
    let r : Requester (under m rows) m.tick q i = requester_is (under m rows) m.tick q i asks in
    let phase : phase_now m i ≡ Asking r.number q = phase_shown m rows i shows (active_listed (under m rows) m.tick i r.active) ∙ r.phase in
    sym (ap (is_served m grant (rows m.tick) i) phase) ∙ passes

pub grant_is : (o : Ranks) (grants runs : MachineDef → ℕ → ℕ) (m : MachineDef) (rows : ℕ → RowDef) → GivesRanks o grants runs → Shows m rows
    → ((q j : ℕ) → holder_in (rows m.tick) q ≡ Some j → q < length m.list.set.resources)
    → passes_grant m (grants m) (rows m.tick) ≡ true → KeepsGrant o (under m rows) m.tick
unfolding passes_grant
grant_is o grants runs m rows gives shows within h = record {
  requests = asks;
  first = λ q j e new i l a. first q j i e new a;
  free = λ q e i l. false_from_ne_true (is_requester (under m rows) m.tick q i) (λ a. both_ways
      (goes_before m (grants m) q i (holder_in (rows m.tick) q)) (ap (goes_before m (grants m) q i) e) (served q i a));
} where
  parts : (all_below (length m.list.set.resources) (holder_passes m (rows m.tick)) ≡ true)
      × (each_current m (request_passes m (grants m) (rows m.tick)) ≡ true)
  parts = and_parts _ _ h

  asks : (q j : ℕ) → holder_in (rows m.tick) q ≡ Some j → is_requester (under m rows) m.tick q j ≡ true
  asks q j e =
      let p : holder_passes m (rows m.tick) q ≡ true =
      all_below-each (length m.list.set.resources) (holder_passes m (rows m.tick)) parts.0 q (within q j e) in
      let now : requester_now m q j ≡ true = sym (ap (λ o. option_map_or (requester_now m q) o true) e) ∙ p in
      sym (requester_shown m rows q j shows) ∙ now

  served : (q i : ℕ) → is_requester (under m rows) m.tick q i ≡ true → goes_before m (grants m) q i (holder_in (rows m.tick) q) ≡ true
  served q i a =
      let r : Requester (under m rows) m.tick q i = requester_is (under m rows) m.tick q i a in
      served_at m rows (grants m) q i shows a (each_is m rows (request_passes m (grants m) (rows m.tick)) i shows parts.1 r.active)

  first : (q j i : ℕ) → holder_in (rows m.tick) q ≡ Some j → (held_before (under m rows) m.tick q ≡ Some j → ⊥)
      → is_requester (under m rows) m.tick q i ≡ true
      → o.grant (under m rows) m.tick j ≤ o.grant (under m rows) m.tick i
  first q j i e new a =
      let before : goes_before m (grants m) q i (Some j) ≡ true = sym (ap (goes_before m (grants m) q i) e) ∙ served q i a in
      let is_new : is_job j (holder_now m q) ≡ false = false_from_ne_true (is_job j (holder_now m q))
      (λ f. new (sym (shows.holders q) ∙ job_named j (holder_now m q) f)) in
      let le : grants m j ≤ grants m i = leb-true _ _ (or_other (is_job j (holder_now m q)) _ before is_new) in
      omega (arith, le, gives.grant m rows shows q j (asks q j e), gives.grant m rows shows q i a)

pub grant_from : (o : Ranks) (grants runs : MachineDef → ℕ → ℕ) (m : MachineDef) (rows : ℕ → RowDef)
    → GivesRanks o grants runs → Shows m rows → KeepsGrant o (under m rows) m.tick
    → passes_grant m (grants m) (rows m.tick) ≡ true
unfolding passes_grant
grant_from o grants runs m rows gives shows grant =
    and_from _ _
    (all_below-from (length m.list.set.resources) (holder_passes m (rows m.tick)) (λ q l. at_resource q (holder_in (rows m.tick) q) refl))
    (each_from m rows (request_passes m (grants m) (rows m.tick)) shows (λ i a. at_job i a (phase_now m i) refl)) where
      at_resource : (q : ℕ) (o : Option ℕ) → holder_in (rows m.tick) q ≡ o → holder_passes m (rows m.tick) q ≡ true
      at_resource q None e = ap (λ o. option_map_or (requester_now m q) o true) e
      at_resource q (Some j) e =
          ap (λ o. option_map_or (requester_now m q) o true) e ∙ requester_shown m rows q j shows ∙ grant.requests q j e

      before : (q i : ℕ) → is_requester (under m rows) m.tick q i ≡ true → (p : Option ℕ)
          → holder_in (rows m.tick) q ≡ p → goes_before m (grants m) q i p ≡ true
      before q i a None e = absurd (both_ways (is_requester (under m rows) m.tick q i)
          (grant.free q e i (requester_listed (under m rows) m.tick q i a)) a)
      before q i a (Some h) e = elim (cases_Bool (is_job h (holder_now m q))) [
        | inl old ↦ or_left (is_job h (holder_now m q)) _ old
        | inr new ↦
            let le : o.grant (under m rows) m.tick h ≤ o.grant (under m rows) m.tick i =
            grant.first q h e
            (λ f. both_ways (is_job h (holder_now m q)) new (named_job h (holder_now m q) (shows.holders q ∙ f))) i
            (requester_listed (under m rows) m.tick q i a) a in
            let now : grants m h ≤ grants m i =
            omega (arith, le, gives.grant m rows shows q h (grant.requests q h e), gives.grant m rows shows q i a) in
            or_right (is_job h (holder_now m q)) _ (le-leb _ _ now)
      ]

      at_job : (i : ℕ) → is_active (under m rows) m.tick i ≡ true → (p : Phase) → phase_now m i ≡ p
          → request_passes m (grants m) (rows m.tick) i ≡ true
      at_job i a Local e = ap (is_served m (grants m) (rows m.tick) i) e
      at_job i a Finished e = ap (is_served m (grants m) (rows m.tick) i) e
      at_job i a (Asking n q) e =
          ap (is_served m (grants m) (rows m.tick) i) e
          ∙ before q i
          (requester_from (under m rows) m.tick q i n a
          (sym (phase_shown m rows i shows (active_listed (under m rows) m.tick i a)) ∙ e)) (holder_in (rows m.tick) q)
          refl
