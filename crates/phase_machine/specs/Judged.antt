-- What does a judgement say of the row at a tick?
use Rattle.std.specs.Prelude.{ℕ, Result, Ok, Err}
use Rattle.schedule_model.specs.RowDef.{Trace}
use Rattle.schedule_model.specs.Keeping.{KeepsRow, Breaks}
use Rattle.schedule_model.specs.declared.rule.Rule.{Rule}

-- Either the row keeps all five rules. Or it breaks the named rule, and no rule before it.
abbrev pub Judged : {T : Type 0} → (Rule → Trace → ℕ → Type 0) → Trace → ℕ → Result T Rule → Type 0
Judged keeps w t (Ok _) = KeepsRow keeps w t
Judged keeps w t (Err r) = Breaks keeps w t r
