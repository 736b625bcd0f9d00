-- The five rules of each of the three protocols.
use Rattle.std.specs.Prelude.{ℕ}
use Rattle.sporadic_model.specs.SetDef.{SetDef}
use Rattle.schedule_model.specs.RowDef.{Trace}
use Rattle.schedule_model.specs.SharedRules as shared
use Rattle.schedule_model.specs.SharedRules.{Ranks}
use Rattle.schedule_model.specs.Ranks.{by_task}
use Rattle.schedule_model.specs.DpcpRules as distributed
use Rattle.schedule_model.specs.declared.rule.Rule.{Rule}
use Rattle.schedule_model.specs.declared.rule.Rule.TheVariants as rule

-- Five rules as one function of the rule. Keep is the same in each protocol.
abbrev pub five_rules : (run grant idle priority : Trace → ℕ → Type 0) → Rule → Trace → ℕ → Type 0
five_rules run grant idle priority rule.Run = run
five_rules run grant idle priority rule.Keep = shared.KeepsKeep
five_rules run grant idle priority rule.Grant = grant
five_rules run grant idle priority rule.Idle = idle
five_rules run grant idle priority rule.Priority = priority

-- The rules of a shared-memory protocol that grants requests and runs holders in these orders.
abbrev pub shared_rule : Ranks → Rule → Trace → ℕ → Type 0
shared_rule o r = five_rules shared.KeepsRun (shared.KeepsGrant o) shared.KeepsIdle (shared.KeepsPriority o) r

-- The rules of DPCP.
abbrev pub dpcp_rule : Rule → Trace → ℕ → Type 0
dpcp_rule r = five_rules distributed.KeepsRun distributed.KeepsGrant distributed.KeepsIdle (distributed.KeepsPriority by_task) r

-- Which sets suit a protocol that needs no homes? All of them. DPCP suits those in which each resource has a home (`EachHasHome`).
abbrev pub EachSetSuits : SetDef → Type 0
EachSetSuits set = Unit {0}
