-- What is answered of a machine's next row, whatever the rows before it.
use Rattle.std.specs.Prelude.{◌≡◌, ℕ, Result}
use Rattle.schedule_model.specs.RowDef.{RowDef}
use Rattle.schedule_model.specs.Chosen.{IsSized, IsDpcpChoice}
use Rattle.schedule_model.specs.Protocols.{dpcp_rule}
use Rattle.schedule_model.specs.declared.rule.Rule.{Rule}
use Rattle.phase_machine.specs.MachineDef.{MachineDef, under}
use Rattle.phase_machine.specs.Shows.{Shows}
use Rattle.phase_machine.specs.Judged.{Judged}

-- Is this the judgement of the row?
abbrev pub IsJudgement : {T : Type 0} → MachineDef → RowDef → Result T Rule → Type 0
IsJudgement m row answer = (rows : ℕ → RowDef) → Shows m rows → rows m.tick ≡ row → Judged dpcp_rule (under m rows) m.tick answer

-- Is the row the one that DPCP chooses?
pub record IsChosen (m : MachineDef) (row : RowDef) : Type 0 where
  pub sized : IsSized m.list.set row
  pub chosen : (rows : ℕ → RowDef) → Shows m rows → rows m.tick ≡ row → IsDpcpChoice (under m rows) m.tick
