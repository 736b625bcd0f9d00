-- The first test that fails is that of the first rule that the row breaks.
use Rattle.std.proofs.Common.{◌≡◌, ℕ, ◌<◌, Bool, true, false, length, refl, sym, subst, arith, Some, None}
use Rattle.schedule_model.specs.declared.rule.Rule.{Rule}
use Rattle.schedule_model.specs.declared.rule.Rule.TheVariants as rule
use Rattle.schedule_model.specs.RowDef.{RowDef, Trace, holder_in}
use Rattle.schedule_model.specs.SharedRules.{Ranks}
use Rattle.schedule_model.specs.Protocols.{shared_rule}
use Rattle.schedule_model.specs.Keeping.{rule_number, KeepsRow, Breaks}
use Rattle.phase_machine.specs.MachineDef.{MachineDef, under}
use Rattle.phase_machine.specs.Shows.{Shows}
use Rattle.phase_machine.specs.Taking.{IsRowFor}
use Rattle.phase_machine.specs.Order.{GivesRanks}
use Rattle.phase_machine.proofs.Stretches.{place_within}
use Rattle.shared_rules.specs.RowTests.{passes_run, passes_keep, passes_grant, passes_idle, passes_priority, first_of, first_failed}
use Rattle.shared_rules.proofs.RunTest.{run_is, run_from}
use Rattle.shared_rules.proofs.HolderTests.{keep_is, keep_from, grant_is, grant_from}
use Rattle.shared_rules.proofs.ReadyTests.{idle_is, idle_from, priority_is, priority_from}

-- Five tests that say of the rules whether they are kept, the last where the first is.
pub record Tests (keeps : Rule → Trace → ℕ → Type 0) (w : Trace) (t : ℕ) (a b c d e : Bool) : Type 0 where
  pub run_is : a ≡ true → keeps rule.Run w t
  pub run_from : keeps rule.Run w t → a ≡ true
  pub keep_is : b ≡ true → keeps rule.Keep w t
  pub keep_from : keeps rule.Keep w t → b ≡ true
  pub grant_is : c ≡ true → keeps rule.Grant w t
  pub grant_from : keeps rule.Grant w t → c ≡ true
  pub idle_is : d ≡ true → keeps rule.Idle w t
  pub idle_from : keeps rule.Idle w t → d ≡ true
  pub priority_is : a ≡ true → e ≡ true → keeps rule.Priority w t
  pub priority_from : keeps rule.Run w t → keeps rule.Priority w t → e ≡ true

pub all_kept : (keeps : Rule → Trace → ℕ → Type 0) (w : Trace) (t : ℕ) (a b c d e : Bool) → Tests keeps w t a b c d e
    → first_of a b c d e ≡ None → KeepsRow keeps w t
all_kept keeps w t false b c d e tests h = absurd (cc)
all_kept keeps w t true false c d e tests h = absurd (cc)
all_kept keeps w t true true false d e tests h = absurd (cc)
all_kept keeps w t true true true false e tests h = absurd (cc)
all_kept keeps w t true true true true false tests h = absurd (cc)
all_kept keeps w t true true true true true tests h = λ r. each r where
  each : (r : Rule) → keeps r w t
  each rule.Run = tests.run_is refl
  each rule.Keep = tests.keep_is refl
  each rule.Grant = tests.grant_is refl
  each rule.Idle = tests.idle_is refl
  each rule.Priority = tests.priority_is refl refl

-- The rules before one of the five, where those before it are kept.
up_to : (keeps : Rule → Trace → ℕ → Type 0) (w : Trace) (t n : ℕ) → (1 < n → keeps rule.Run w t)
    → (2 < n → keeps rule.Keep w t) → (3 < n → keeps rule.Grant w t) → (4 < n → keeps rule.Idle w t)
    → n < 6 → (s : Rule) → rule_number s < n → keeps s w t
up_to keeps w t n a b c d most rule.Run l = a l
up_to keeps w t n a b c d most rule.Keep l = b l
up_to keeps w t n a b c d most rule.Grant l = c l
up_to keeps w t n a b c d most rule.Idle l = d l
up_to keeps w t n a b c d most rule.Priority l = absurd (omega arith)

pub first_broken : (keeps : Rule → Trace → ℕ → Type 0) (w : Trace) (t : ℕ) (a b c d e : Bool) (r : Rule)
    → Tests keeps w t a b c d e → first_of a b c d e ≡ Some r → Breaks keeps w t r
first_broken keeps w t false b c d e r tests h =
    let same : rule.Run ≡ r = cc in
    subst (λ s. Breaks keeps w t s) same (record {
      earlier = up_to keeps w t 1 (λ l. absurd (omega arith)) (λ l. absurd (omega arith)) (λ l. absurd (omega arith))
          (λ l. absurd (omega arith)) (omega arith);
      broken = λ k. let x : false ≡ true = tests.run_from k in absurd (cc);
    })
first_broken keeps w t true false c d e r tests h =
    let same : rule.Keep ≡ r = cc in
    subst (λ s. Breaks keeps w t s) same (record {
      earlier = up_to keeps w t 2 (λ l. tests.run_is refl) (λ l. absurd (omega arith)) (λ l. absurd (omega arith))
          (λ l. absurd (omega arith)) (omega arith);
      broken = λ k. let x : false ≡ true = tests.keep_from k in absurd (cc);
    })
first_broken keeps w t true true false d e r tests h =
    let same : rule.Grant ≡ r = cc in
    subst (λ s. Breaks keeps w t s) same (record {
      earlier = up_to keeps w t 3 (λ l. tests.run_is refl) (λ l. tests.keep_is refl) (λ l. absurd (omega arith))
          (λ l. absurd (omega arith)) (omega arith);
      broken = λ k. let x : false ≡ true = tests.grant_from k in absurd (cc);
    })
first_broken keeps w t true true true false e r tests h =
    let same : rule.Idle ≡ r = cc in
    subst (λ s. Breaks keeps w t s) same (record {
      earlier = up_to keeps w t 4 (λ l. tests.run_is refl) (λ l. tests.keep_is refl) (λ l. tests.grant_is refl)
          (λ l. absurd (omega arith)) (omega arith);
      broken = λ k. let x : false ≡ true = tests.idle_from k in absurd (cc);
    })
first_broken keeps w t true true true true false r tests h =
    let same : rule.Priority ≡ r = cc in
    subst (λ s. Breaks keeps w t s) same (record {
      earlier = up_to keeps w t 5 (λ l. tests.run_is refl) (λ l. tests.keep_is refl) (λ l. tests.grant_is refl)
          (λ l. tests.idle_is refl) (omega arith);
      broken = λ k. let x : false ≡ true = tests.priority_from (tests.run_is refl) k in absurd (cc);
    })
first_broken keeps w t true true true true true r tests h = absurd (cc)

tests_say : (o : Ranks) (grants runs : MachineDef → ℕ → ℕ) (m : MachineDef) (rows : ℕ → RowDef)
    → GivesRanks o grants runs → Shows m rows → IsRowFor m.list (rows m.tick)
    → Tests (shared_rule o) (under m rows) m.tick (passes_run m (rows m.tick)) (passes_keep m (rows m.tick))
    (passes_grant m (grants m) (rows m.tick)) (passes_idle m (rows m.tick)) (passes_priority m (runs m) (rows m.tick))
tests_say o grants runs m rows gives shows fits = record {
  run_is = run_is m rows shows;
  run_from = run_from m rows shows;
  keep_is = keep_is m rows shows;
  keep_from = keep_from m rows shows;
  grant_is = grant_is o grants runs m rows gives shows within;
  grant_from = grant_from o grants runs m rows gives shows;
  idle_is = idle_is m rows shows;
  idle_from = idle_from m rows shows;
  priority_is = λ a e. priority_is o grants runs m rows gives shows (run_is m rows shows a) e;
  priority_from = priority_from o grants runs m rows gives shows;
} where
  within : (q j : ℕ) → holder_in (rows m.tick) q ≡ Some j → q < length m.list.set.resources
  within q j e = omega (arith, place_within (rows m.tick).holders q j e, fits.sized.resources)

pub judged_none : (o : Ranks) (grants runs : MachineDef → ℕ → ℕ) (m : MachineDef) (rows : ℕ → RowDef) (row : RowDef)
    → GivesRanks o grants runs → Shows m rows → IsRowFor m.list row
    → rows m.tick ≡ row → first_failed m (grants m) (runs m) row ≡ None → KeepsRow (shared_rule o) (under m rows) m.tick
judged_none o grants runs m rows row gives shows fits e h =
    all_kept (shared_rule o) (under m rows) m.tick (passes_run m (rows m.tick)) (passes_keep m (rows m.tick))
    (passes_grant m (grants m) (rows m.tick)) (passes_idle m (rows m.tick))
    (passes_priority m (runs m) (rows m.tick)) (tests_say o grants runs m rows gives shows (subst (λ r. IsRowFor m.list r) (sym e) fits))
    (subst (λ r. first_failed m (grants m) (runs m) r ≡ None) (sym e) h)

pub judged_some : (o : Ranks) (grants runs : MachineDef → ℕ → ℕ) (m : MachineDef) (rows : ℕ → RowDef) (row : RowDef)
    (r : Rule) → GivesRanks o grants runs → Shows m rows → IsRowFor m.list row
    → rows m.tick ≡ row → first_failed m (grants m) (runs m) row ≡ Some r → Breaks (shared_rule o) (under m rows) m.tick r
judged_some o grants runs m rows row r gives shows fits e h =
    first_broken (shared_rule o) (under m rows) m.tick (passes_run m (rows m.tick)) (passes_keep m (rows m.tick))
    (passes_grant m (grants m) (rows m.tick)) (passes_idle m (rows m.tick))
    (passes_priority m (runs m) (rows m.tick)) r (tests_say o grants runs m rows gives shows (subst (λ r. IsRowFor m.list r) (sym e) fits))
    (subst (λ s. first_failed m (grants m) (runs m) s ≡ Some r) (sym e) h)
