-- How far a schedule is walked: each row before the machine's tick keeps the rules, and this is kept of them.
use Rattle.std.specs.Prelude.{◌≡◌, ℕ, ◌+◌, ◌≤◌, Result, Ok, Err}
use Rattle.schedule_model.specs.RowDef.{RowDef, Trace, row_in}
use Rattle.schedule_model.specs.Fitting.{RowsDef}
use Rattle.schedule_model.specs.Keeping.{KeepsBefore, IsFirstUnlawful}
use Rattle.schedule_model.specs.declared.rule.Rule.{Rule}
use Rattle.phase_machine.specs.MachineDef.{MachineDef, under}
use Rattle.phase_machine.specs.Shows.{Shows}
use Rattle.schedule_answers.specs.declared.judged.Unlawful.{Unlawful}
use Rattle.schedule_answers.specs.declared.judged.Unlawful.TheVariants as stop

-- Has the machine taken the rows before its tick, do they keep the rules, and is this kept of them?
pub record IsReached {R : Type 0} (keeps : Rule → Trace → ℕ → Type 0) (kept : Trace → ℕ → R → Type 0) (rows : ℕ → RowDef)
    (m : MachineDef) (now : R) : Type 0
  where
    pub shows : Shows m rows
    pub keeps_before : KeepsBefore keeps (under m rows) m.tick
    pub are_kept : kept (under m rows) m.tick now

-- Is the machine at tick n, with all rows before it keeping the rules? Or does the answer name the first row that breaks one?
abbrev pub GoesOn : {R : Type 0} {T : Type 0} → (Rule → Trace → ℕ → Type 0) → (Trace → ℕ → R → Type 0) → (ℕ → RowDef) → ℕ → MachineDef
    → MachineDef → R → Result T Unlawful → Type 0
GoesOn keeps kept rows n before after now (Ok _) = (after.tick ≡ n) × IsReached keeps kept rows after now
GoesOn keeps kept rows n before after now (Err (stop.Broken b)) = IsFirstUnlawful keeps (under before rows) n b.tick b.rule
GoesOn keeps kept rows n before after now (Err stop.Memory) = Unit {0}

-- Has the machine taken some of the next `left` rows, with all of these keeping the rules? Or does the answer name the first of them that
-- breaks one?
abbrev pub GoesSome : {R : Type 0} → (Rule → Trace → ℕ → Type 0) → (Trace → ℕ → R → Type 0) → (ℕ → RowDef) → ℕ → MachineDef → MachineDef
    → R → Result ℕ Unlawful → Type 0
GoesSome keeps kept rows left before after now (Ok n) =
    (1 ≤ n) × (n ≤ left) × (after.tick ≡ before.tick + n) × IsReached keeps kept rows after now
GoesSome keeps kept rows left before after now (Err (stop.Broken b)) =
    IsFirstUnlawful keeps (under before rows) (before.tick + left) b.tick b.rule
GoesSome keeps kept rows left before after now (Err stop.Memory) = Unit {0}

-- Are the jobs the same as before, and did the machine walk to tick n, or is this the first unlawful row?
pub record WalksTo {R : Type 0} {T : Type 0} (keeps : Rule → Trace → ℕ → Type 0) (kept : Trace → ℕ → R → Type 0) (rows : RowsDef) (n : ℕ)
    (before after : MachineDef) (now : R) (answer : Result T Unlawful) : Type 0
  where
    pub list : after.list ≡ before.list
    pub walked : GoesOn keeps kept (row_in rows.runs) n before after now answer

-- Are they, and did it walk some of the next rows, or is this the first unlawful one?
pub record WalksSome {R : Type 0} (keeps : Rule → Trace → ℕ → Type 0) (kept : Trace → ℕ → R → Type 0) (rows : RowsDef) (left : ℕ)
    (before after : MachineDef) (now : R) (answer : Result ℕ Unlawful) : Type 0
  where
    pub list : after.list ≡ before.list
    pub walked : GoesSome keeps kept (row_in rows.runs) left before after now answer
