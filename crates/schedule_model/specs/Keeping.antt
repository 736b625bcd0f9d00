-- Which schedules keep the rules of a protocol, and where is a rule broken first?
use Rattle.std.specs.Prelude.{ℕ, ◌<◌}
use Rattle.schedule_model.specs.RowDef.{Trace}
use Rattle.schedule_model.specs.declared.rule.Rule.{Rule}
use Rattle.schedule_model.specs.declared.rule.Rule.TheVariants as rule

-- The number of a rule, in the order of trying.
abbrev pub rule_number : Rule → ℕ
rule_number rule.Run = 1
rule_number rule.Keep = 2
rule_number rule.Grant = 3
rule_number rule.Idle = 4
rule_number rule.Priority = 5

-- Does the row at tick t keep all five rules?
abbrev pub KeepsRow : (Rule → Trace → ℕ → Type 0) → Trace → ℕ → Type 0
KeepsRow keeps w t = (r : Rule) → keeps r w t

-- Do the rows before tick n keep the rules?
abbrev pub KeepsBefore : (Rule → Trace → ℕ → Type 0) → Trace → ℕ → Type 0
KeepsBefore keeps w n = (t : ℕ) → t < n → KeepsRow keeps w t

-- Is r the first rule that the row at tick t breaks?
pub record Breaks (keeps : Rule → Trace → ℕ → Type 0) (w : Trace) (t : ℕ) (r : Rule) : Type 0 where
  pub earlier : (s : Rule) → rule_number s < rule_number r → keeps s w t
  pub broken : keeps r w t → ⊥

-- Of n rows, is the one at tick t the first that breaks a rule, and is r the first rule that it breaks?
pub record IsFirstUnlawful (keeps : Rule → Trace → ℕ → Type 0) (w : Trace) (n t : ℕ) (r : Rule) : Type 0 where
  pub within : t < n
  pub before : KeepsBefore keeps w t
  pub breaks : Breaks keeps w t r
