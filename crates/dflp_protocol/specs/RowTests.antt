-- The rules of a row as tests of a machine's state and the next row. Run, Idle and Priority have the tests of DPCP, and Priority goes by
-- issue ticks. Keep and Grant have the tests of the protocols with an order of grants.
use Rattle.std.specs.Prelude.{Option}
use Rattle.schedule_model.specs.declared.rule.Rule.{Rule}
use Rattle.schedule_model.specs.RowDef.{RowDef}
use Rattle.phase_machine.specs.MachineDef.{MachineDef}
use Rattle.shared_rules.specs.RowTests.{passes_keep, passes_grant, first_of}
use Rattle.fmlp_rules.specs.IssueOrder.{issue_now}
use Rattle.dpcp_rules.specs.RowTests.{passes_run, passes_idle, passes_priority}

-- The first rule whose test fails.
abbrev pub first_failed : MachineDef → RowDef → Option Rule
first_failed m row = first_of (passes_run m row) (passes_keep m row) (passes_grant m (issue_now m) row) (passes_idle m row)
    (passes_priority m (issue_now m) row)
