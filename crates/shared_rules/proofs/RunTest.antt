-- The test of Run says that the row keeps it.
use Rattle.std.proofs.Common.{◌≡◌, ℕ, ◌+◌, zero, suc, true, length, refl, sym, ap, ◌∙◌, arith}
use Rattle.std.proofs.Common.{Option, Some, None, get_or}
use Rattle.std.specs.Option.{option_map_or}
use Rattle.std.proofs.lemmas.Bool.{and_parts, and_from, eq-eqb, eqb-true}
use Rattle.number_laws.proofs.TestLaws.{all_below-each, all_below-from}
use Rattle.schedule_model.specs.RowDef.{RowDef, running_on, holder_in}
use Rattle.schedule_model.specs.Activity.{is_ready, is_active}
use Rattle.schedule_model.specs.SharedRules.{KeepsRun}
use Rattle.schedule_laws.proofs.Rows.{ready_active}
use Rattle.phase_machine.specs.MachineDef.{MachineDef, under}
use Rattle.phase_machine.specs.Now.{active_now}
use Rattle.phase_machine.specs.Shows.{Shows}
use Rattle.phase_machine.proofs.Facts.{active_shown}
use Rattle.phase_machine.specs.Now.{processor_now, may_run_now}
use Rattle.phase_machine.proofs.Stretches.{place_within}
use Rattle.shared_rules.specs.RowTests.{may_stand, column_passes, each_stands, passes_run}
use Rattle.shared_rules.proofs.Currents.{may_run_shown}

-- What the test says of a job that runs.
pub record Stands (m : MachineDef) (place : ℕ → ℕ) (row : RowDef) (k j : ℕ) : Type 0 where
  pub active : active_now m j ≡ true
  pub ready : may_run_now m (holder_in row) j ≡ true
  pub column : place j ≡ k

pub stands : (m : MachineDef) (place : ℕ → ℕ) (row : RowDef) (k j : ℕ) → each_stands m place row ≡ true
    → running_on row k ≡ Some j → Stands m place row k j
unfolding each_stands
stands m place row zero j h e = absurd (cc)
stands m place row (suc c) j h e =
    let p : column_passes m place row c ≡ true =
    all_below-each (length row.running) (column_passes m place row) h c (place_within row.running c j e) in
    let q : may_stand m place row c j ≡ true = sym (ap (λ o. option_map_or (may_stand m place row c) o true) e) ∙ p in
    let a = and_parts _ _ q in
    let b = and_parts _ _ a.1 in
    let column : place j ≡ c + 1 = eqb-true _ _ b.1 in
    record { active = a.0; ready = b.0; column = omega arith }

-- If each running job may be in its column, the test passes.
pub stands_from : (m : MachineDef) (place : ℕ → ℕ) (row : RowDef)
    → ((c j : ℕ) → get_or row.running c None ≡ Some j → may_stand m place row c j ≡ true) → each_stands m place row ≡ true
unfolding each_stands
stands_from m place row stand =
    all_below-from (length row.running) (column_passes m place row) (λ c l. at_column c (get_or row.running c None) refl) where
      at_column : (c : ℕ) (o : Option ℕ) → get_or row.running c None ≡ o → column_passes m place row c ≡ true
      at_column c None e = ap (λ o. option_map_or (may_stand m place row c) o true) e
      at_column c (Some j) e = ap (λ o. option_map_or (may_stand m place row c) o true) e ∙ stand c j e

pub run_is : (m : MachineDef) (rows : ℕ → RowDef) → Shows m rows → passes_run m (rows m.tick) ≡ true → KeepsRun (under m rows) m.tick
run_is m rows shows h = record {
  ready = λ k j e. ready k j (stands m (processor_now m) (rows m.tick) k j h e);
  column = λ k j e.
      let s : Stands m (processor_now m) (rows m.tick) k j = stands m (processor_now m) (rows m.tick) k j h e in sym s.column;
} where
  ready : (k j : ℕ) → Stands m (processor_now m) (rows m.tick) k j → is_ready (under m rows) m.tick j ≡ true
  ready k j s = sym (may_run_shown m rows j shows (sym (active_shown m rows j shows) ∙ s.active)) ∙ s.ready

pub run_from : (m : MachineDef) (rows : ℕ → RowDef) → Shows m rows → KeepsRun (under m rows) m.tick → passes_run m (rows m.tick) ≡ true
run_from m rows shows run = stands_from m (processor_now m) (rows m.tick) (λ c j e. stand c j e) where
  stand : (c j : ℕ) → get_or (rows m.tick).running c None ≡ Some j → may_stand m (processor_now m) (rows m.tick) c j ≡ true
  stand c j e =
      let ready : is_ready (under m rows) m.tick j ≡ true = run.ready (suc c) j e in
      let active : is_active (under m rows) m.tick j ≡ true = ready_active (under m rows) m.tick j ready in
      let column : suc c ≡ processor_now m j = run.column (suc c) j e in
      let own : processor_now m j ≡ c + 1 = omega arith in
      and_from _ _ (active_shown m rows j shows ∙ active) (and_from _ _ (may_run_shown m rows j shows active ∙ ready) (eq-eqb _ _ own))
