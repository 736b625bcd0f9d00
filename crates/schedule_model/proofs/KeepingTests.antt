-- From tests of the rules to a schedule that keeps them, and to the first row that breaks one.
use Rattle.std.proofs.Common.{◌≡◌, ℕ, ◌<◌, ◌&&◌, ◌||◌, Bool, true, leb}
use Rattle.std.proofs.lemmas.Bool.{and_parts, lt-leb}
use Rattle.number_laws.specs.Tests.{all_below}
use Rattle.number_laws.proofs.TestLaws.{all_below-each}
use Rattle.schedule_model.specs.RowDef.{Trace}
use Rattle.schedule_model.specs.Keeping.{rule_number, KeepsBefore, Breaks, IsFirstUnlawful}
use Rattle.schedule_model.specs.declared.rule.Rule.{Rule}
use Rattle.schedule_model.specs.declared.rule.Rule.TheVariants as rule
use Rattle.schedule_model.proofs.RuleTests.{or_other}

-- Does each rule pass, and does each rule before r?
abbrev pub each_rule : (Rule → Bool) → Bool
each_rule p = p rule.Run && (p rule.Keep && (p rule.Grant && (p rule.Idle && p rule.Priority)))

abbrev pub each_earlier : Rule → (Rule → Bool) → Bool
each_earlier r p = each_rule (λ s. leb (rule_number r) (rule_number s) || p s)

-- The five answers, one by one.
pub record AllPass (p : Rule → Bool) : Type 0 where
  pub run : p rule.Run ≡ true
  pub keep : p rule.Keep ≡ true
  pub grant : p rule.Grant ≡ true
  pub idle : p rule.Idle ≡ true
  pub priority : p rule.Priority ≡ true

all_pass : (p : Rule → Bool) → each_rule p ≡ true → AllPass p
all_pass p h =
    let one : (p rule.Run ≡ true) × ((p rule.Keep && (p rule.Grant && (p rule.Idle && p rule.Priority))) ≡ true) =
    and_parts (p rule.Run) (p rule.Keep && (p rule.Grant && (p rule.Idle && p rule.Priority))) h in
    let two : (p rule.Keep ≡ true) × ((p rule.Grant && (p rule.Idle && p rule.Priority)) ≡ true) =
    and_parts (p rule.Keep) (p rule.Grant && (p rule.Idle && p rule.Priority)) one.1 in
    let three : (p rule.Grant ≡ true) × ((p rule.Idle && p rule.Priority) ≡ true) =
    and_parts (p rule.Grant) (p rule.Idle && p rule.Priority) two.1 in
    let four : (p rule.Idle ≡ true) × (p rule.Priority ≡ true) = and_parts (p rule.Idle) (p rule.Priority) three.1 in
    record { run = one.0; keep = two.0; grant = three.0; idle = four.0; priority = four.1 }

passes_of : (p : Rule → Bool) → AllPass p → (r : Rule) → p r ≡ true
passes_of p all rule.Run = all.run
passes_of p all rule.Keep = all.keep
passes_of p all rule.Grant = all.grant
passes_of p all rule.Idle = all.idle
passes_of p all rule.Priority = all.priority

pub each_rule-passes : (p : Rule → Bool) → each_rule p ≡ true → (r : Rule) → p r ≡ true
each_rule-passes p h r = passes_of p (all_pass p h) r

-- If each test of the rows before tick n passes, these rows keep the rules.
pub keeps_from : (keeps : Rule → Trace → ℕ → Type 0) (w : Trace) (p : ℕ → Rule → Bool) → ((t : ℕ) (r : Rule) → p t r ≡ true → keeps r w t)
    → (n : ℕ) → all_below n (λ t. each_rule (p t)) ≡ true → KeepsBefore keeps w n
keeps_from keeps w p sound n h t l r = sound t r (each_rule-passes (p t) (all_below-each n (λ u. each_rule (p u)) h t l) r)

-- If each test before rule r passes and r is broken, r is the first that is.
pub breaks_from : (keeps : Rule → Trace → ℕ → Type 0) (w : Trace) (p : ℕ → Rule → Bool) → ((t : ℕ) (r : Rule) → p t r ≡ true → keeps r w t)
    → (t : ℕ) (r : Rule) → each_earlier r (p t) ≡ true → (keeps r w t → ⊥) → Breaks keeps w t r
breaks_from keeps w p sound t r h broken = record {
  earlier = λ s l. sound t s (or_other (leb (rule_number r) (rule_number s)) (p t s)
      (each_rule-passes (λ x. leb (rule_number r) (rule_number x) || p t x) h s) (lt-leb _ _ l));
  broken = broken;
}

-- If the rows before tick t pass, and t is the first to break a rule.
pub first_from : (keeps : Rule → Trace → ℕ → Type 0) (w : Trace) (p : ℕ → Rule → Bool) → ((t : ℕ) (r : Rule) → p t r ≡ true → keeps r w t)
    → (n t : ℕ) (r : Rule) → t < n → all_below t (λ u. each_rule (p u)) ≡ true → each_earlier r (p t) ≡ true
    → (keeps r w t → ⊥) → IsFirstUnlawful keeps w n t r
first_from keeps w p sound n t r l h e broken = record {
  within = l;
  before = keeps_from keeps w p sound t h;
  breaks = breaks_from keeps w p sound t r e broken;
}
