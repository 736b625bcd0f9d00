-- Jobs that wait for what they request.
use Rattle.std.proofs.Common.{◌≡◌, ℕ, ◌&&◌, ◌||◌, not, Bool, true, false, refl, sym, ap, ◌∙◌, Option, Some}
use Rattle.std.proofs.lemmas.Bool.{and_parts, both_ways, false_from_ne_true, not-true}
use Rattle.schedule_model.specs.RowDef.{RowDef, is_job, held_before}
use Rattle.schedule_model.specs.Phase.{Phase, is_local, phase_of}
use Rattle.schedule_model.specs.Phase.Phase.{Local, Asking, Finished}
use Rattle.schedule_model.specs.Activity.{is_active, is_requester, holds_by}
use Rattle.schedule_model.specs.DpcpRules.{has_request_at, waits_at}
use Rattle.schedule_laws.proofs.ActiveJobs.{Requester, requester_is, requester_from}
use Rattle.schedule_laws.proofs.Rows.{job_named, named_job}
use Rattle.phase_machine.specs.MachineDef.{MachineDef, under}
use Rattle.phase_machine.specs.Now.{waiting_now, is_ready_before, is_waiting_before}
use Rattle.phase_machine.specs.Shows.{Shows}
use Rattle.phase_machine.proofs.Facts.{waiting_shown}
use Rattle.dpcp_rules.proofs.Shown.{unfinished}

-- A request that isn't its resource's last holder's.
pub record Requesting (m : MachineDef) (rows : ℕ → RowDef) (j : ℕ) : Type 0 where
  pub resource : ℕ
  pub asks : is_requester (under m rows) m.tick resource j ≡ true
  pub fresh : held_before (under m rows) m.tick resource ≡ Some j → ⊥

not_ready : (held : ℕ → Option ℕ) (j : ℕ) (a : Bool) (p : Phase)
    → (a && not (a && (is_local p || holds_by held j p))) ≡ true → (is_local p || holds_by held j p) ≡ false
not_ready held j true p h = not-true (is_local p || holds_by held j p) h
not_ready held j false p h = absurd (cc)

-- What a job that waits does.
pub waiting_asks : (m : MachineDef) (rows : ℕ → RowDef) (j : ℕ) → Shows m rows
    → is_active (under m rows) m.tick j ≡ true → waiting_now m j ≡ true → Requesting m rows j
unfolding is_waiting_before is_ready_before
waiting_asks m rows j shows a h = go (phase_of (under m rows) m.tick j) refl where
  stays : (is_local (phase_of (under m rows) m.tick j)
      || holds_by (held_before (under m rows) m.tick) j (phase_of (under m rows) m.tick j)) ≡ false
  stays = not_ready (held_before (under m rows) m.tick) j (is_active (under m rows) m.tick j)
      (phase_of (under m rows) m.tick j) (sym (waiting_shown m rows j shows) ∙ h)

  go : (p : Phase) → phase_of (under m rows) m.tick j ≡ p → Requesting m rows j
  go Local e =
      let x : true ≡ false = sym (ap (λ p. is_local p || holds_by (held_before (under m rows) m.tick) j p) e) ∙ stays in
      absurd (cc)
  go Finished e = absurd (unfinished (under m rows) m.tick j a e)
  go (Asking n q) e =
      let no : is_job j (held_before (under m rows) m.tick q) ≡ false =
      sym (ap (λ p. is_local p || holds_by (held_before (under m rows) m.tick) j p) e) ∙ stays in
      record {
        resource = q;
        asks = requester_from (under m rows) m.tick q j n a e;
        fresh = λ f. both_ways (is_job j (held_before (under m rows) m.tick q)) no (named_job j (held_before (under m rows) m.tick q) f);
      }

waits_by : (held : ℕ → Option ℕ) (j n q : ℕ) (a : Bool) (p : Phase) → a ≡ true → p ≡ Asking n q
    → is_job j (held q) ≡ false → (a && not (a && (is_local p || holds_by held j p))) ≡ true
waits_by held j n q a p e f h = rw (e, f, h) refl

-- A requester that isn't the last holder waits.
pub waits_new : (m : MachineDef) (rows : ℕ → RowDef) (q j : ℕ) → Shows m rows
    → is_requester (under m rows) m.tick q j ≡ true → (held_before (under m rows) m.tick q ≡ Some j → ⊥)
    → waiting_now m j ≡ true
unfolding is_waiting_before is_ready_before
waits_new m rows q j shows asks fresh =
    let r : Requester (under m rows) m.tick q j = requester_is (under m rows) m.tick q j asks in
    let no : is_job j (held_before (under m rows) m.tick q) ≡ false =
    false_from_ne_true (is_job j (held_before (under m rows) m.tick q))
    (λ e. fresh (job_named j (held_before (under m rows) m.tick q) e)) in
    waiting_shown m rows j shows ∙ waits_by (held_before (under m rows) m.tick) j r.number q
    (is_active (under m rows) m.tick j) (phase_of (under m rows) m.tick j) r.active r.phase no

-- So does one that waits at a processor.
pub waiting_of : (m : MachineDef) (rows : ℕ → RowDef) (k q j : ℕ) → Shows m rows
    → is_requester (under m rows) m.tick q j ≡ true → waits_at (under m rows) m.tick k j ≡ true → waiting_now m j ≡ true
unfolding waits_at
waiting_of m rows k q j shows asks h = waits_new m rows q j shows asks (λ e. held e) where
  held : held_before (under m rows) m.tick q ≡ Some j → ⊥
  held e =
      let r : Requester (under m rows) m.tick q j = requester_is (under m rows) m.tick q j asks in
      let no : holds_by (held_before (under m rows) m.tick) j (phase_of (under m rows) m.tick j) ≡ false =
      not-true (holds_by (held_before (under m rows) m.tick) j (phase_of (under m rows) m.tick j))
      (and_parts (has_request_at (under m rows) m.tick k j)
      (not (holds_by (held_before (under m rows) m.tick) j (phase_of (under m rows) m.tick j))) h).1 in
      both_ways (holds_by (held_before (under m rows) m.tick) j (phase_of (under m rows) m.tick j)) no
      (ap (holds_by (held_before (under m rows) m.tick) j) r.phase ∙ named_job j (held_before (under m rows) m.tick q) e)
