-- The test of Run says that the row keeps it.
use Rattle.std.proofs.Common.{◌≡◌, ℕ, ◌+◌, ◌==◌, ◌||◌, suc, true, false, refl, sym, ap, ◌∙◌, arith}
use Rattle.std.proofs.Common.{Option, Some, None, get_or}
use Rattle.std.proofs.lemmas.Bool.{and_from, eq-eqb, eqb-true}
use Rattle.schedule_model.specs.RowDef.{RowDef, running_on, holder_in}
use Rattle.schedule_model.specs.Phase.{Phase, is_local, is_asking, phase_of}
use Rattle.schedule_model.specs.Phase.Phase.{Local, Asking, Finished}
use Rattle.schedule_model.specs.Activity.{processor_of, is_active, holds_by}
use Rattle.schedule_model.specs.DpcpRules.{home_of, KeepsRun}
use Rattle.schedule_laws.proofs.Rows.{job_named, named_job}
use Rattle.phase_machine.specs.MachineDef.{MachineDef, under}
use Rattle.phase_machine.specs.Now.{active_now}
use Rattle.phase_machine.specs.Shows.{Shows}
use Rattle.phase_machine.proofs.Facts.{active_shown}
use Rattle.phase_machine.specs.Now.{may_run_now}
use Rattle.shared_rules.specs.RowTests.{may_stand}
use Rattle.shared_rules.proofs.RunTest.{Stands, stands, stands_from}
use Rattle.dpcp_rules.specs.Homes.{column_now}
use Rattle.dpcp_rules.specs.RowTests.{passes_run}
use Rattle.dpcp_rules.proofs.Shown.{phase_is, column_is, unfinished}

-- A job in a request that may run holds what it requests.
pub ready_holds : (held : ℕ → Option ℕ) (j n q : ℕ) → (is_local (Asking n q) || holds_by held j (Asking n q)) ≡ true → held q ≡ Some j
ready_holds held j n q h = job_named j (held q) h

pub run_is : (m : MachineDef) (rows : ℕ → RowDef) → Shows m rows → passes_run m (rows m.tick) ≡ true → KeepsRun (under m rows) m.tick
run_is m rows shows h = record {
  active = λ k j e. active k j e;
  local = λ k j e l. local k j e l;
  request = λ k j q e asks. request k j q e asks;
} where
  active : (k j : ℕ) → running_on (rows m.tick) k ≡ Some j → is_active (under m rows) m.tick j ≡ true
  active k j e = let s : Stands m (column_now m) (rows m.tick) k j = stands m (column_now m) (rows m.tick) k j h e in sym (active_shown m rows j shows) ∙ s.active

  local : (k j : ℕ) → running_on (rows m.tick) k ≡ Some j → is_local (phase_of (under m rows) m.tick j) ≡ true
      → k ≡ processor_of (under m rows) j
  local k j e l = go (phase_of (under m rows) m.tick j) refl where
    s : Stands m (column_now m) (rows m.tick) k j
    s = stands m (column_now m) (rows m.tick) k j h e

    go : (p : Phase) → phase_of (under m rows) m.tick j ≡ p → k ≡ processor_of (under m rows) j
    go Local f = sym s.column ∙ column_is m rows j Local shows (active k j e) f
    go (Asking n q) f = let x : false ≡ true = sym (ap is_local f) ∙ l in absurd (cc)
    go Finished f = let x : false ≡ true = sym (ap is_local f) ∙ l in absurd (cc)

  request : (k j q : ℕ) → running_on (rows m.tick) k ≡ Some j → is_asking q (phase_of (under m rows) m.tick j) ≡ true
      → (k ≡ home_of (under m rows) q) × (holder_in (rows m.tick) q ≡ Some j)
  request k j q e asks = go (phase_of (under m rows) m.tick j) refl where
    s : Stands m (column_now m) (rows m.tick) k j
    s = stands m (column_now m) (rows m.tick) k j h e

    go : (p : Phase) → phase_of (under m rows) m.tick j ≡ p → (k ≡ home_of (under m rows) q) × (holder_in (rows m.tick) q ≡ Some j)
    go Local f = let x : false ≡ true = sym (ap (is_asking q) f) ∙ asks in absurd (cc)
    go Finished f = let x : false ≡ true = sym (ap (is_asking q) f) ∙ asks in absurd (cc)
    go (Asking n r) f =
        let same : r ≡ q = eqb-true r q (sym (ap (is_asking q) f) ∙ asks) in
        let home : k ≡ home_of (under m rows) r = sym s.column ∙ column_is m rows j (Asking n r) shows (active k j e) f in
        let held : holder_in (rows m.tick) r ≡ Some j =
        ready_holds (holder_in (rows m.tick)) j n r (sym (ap (λ p. is_local p || holds_by (holder_in (rows m.tick)) j p)
        (phase_is m rows j (Asking n r) shows (active k j e) f)) ∙ s.ready) in
        (home ∙ ap (home_of (under m rows)) same, sym (ap (holder_in (rows m.tick)) same) ∙ held)

pub run_from : (m : MachineDef) (rows : ℕ → RowDef) → Shows m rows → KeepsRun (under m rows) m.tick → passes_run m (rows m.tick) ≡ true
run_from m rows shows run =
    stands_from m (column_now m) (rows m.tick) (λ c j e. stand c j (phase_of (under m rows) m.tick j) e refl) where
      stand : (c j : ℕ) (p : Phase) → get_or (rows m.tick).running c None ≡ Some j → phase_of (under m rows) m.tick j ≡ p
          → may_stand m (column_now m) (rows m.tick) c j ≡ true
      stand c j p e f = and_from (active_now m j) _ (active_shown m rows j shows ∙ active)
          (and_from (may_run_now m (holder_in (rows m.tick)) j) (column_now m j == c + 1) (ready p f)
          (eq-eqb (column_now m j) (c + 1) (own p f)))
        where
          active : is_active (under m rows) m.tick j ≡ true
          active = run.active (suc c) j e

          asks : (n q : ℕ) → phase_of (under m rows) m.tick j ≡ Asking n q
              → (suc c ≡ home_of (under m rows) q) × (holder_in (rows m.tick) q ≡ Some j)
          asks n q g = run.request (suc c) j q e (ap (is_asking q) g ∙ eq-eqb q q refl)

          ready : (r : Phase) → phase_of (under m rows) m.tick j ≡ r → may_run_now m (holder_in (rows m.tick)) j ≡ true
          ready Local g = ap (λ s. is_local s || holds_by (holder_in (rows m.tick)) j s) (phase_is m rows j Local shows active g)
          ready (Asking n q) g = ap (λ s. is_local s || holds_by (holder_in (rows m.tick)) j s)
              (phase_is m rows j (Asking n q) shows active g) ∙ named_job j (holder_in (rows m.tick) q) (asks n q g).1
          ready Finished g = absurd (unfinished (under m rows) m.tick j active g)

          own : (r : Phase) → phase_of (under m rows) m.tick j ≡ r → column_now m j ≡ c + 1
          own Local g =
              let here : suc c ≡ processor_of (under m rows) j = run.local (suc c) j e (ap is_local g) in
              let column : column_now m j ≡ processor_of (under m rows) j = column_is m rows j Local shows active g in
              omega arith
          own (Asking n q) g =
              let here : suc c ≡ home_of (under m rows) q = (asks n q g).0 in
              let column : column_now m j ≡ home_of (under m rows) q = column_is m rows j (Asking n q) shows active g in
              omega arith
          own Finished g = absurd (unfinished (under m rows) m.tick j active g)
