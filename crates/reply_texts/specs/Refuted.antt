-- The texts of refusals, and of answers in place of one. Each line ends with one line end.
use Rattle.std.specs.Prelude.{ℕ, List, [], ◌++◌, codes, decimal}
use Rattle.refusal_confirm.specs.declared.fault.Fault.{Fault}
use Rattle.refusal_confirm.specs.declared.fault.Fault.TheVariants as fault

-- A schedulable set, if you asked for a refusal of it.
abbrev pub schedulable_text : List ℕ
schedulable_text = codes "schedulable\n"

-- A refusal that holds.
abbrev pub confirmed_text : List ℕ
confirmed_text = codes "confirmed\n"

-- A refusal with this step, which fails the test of this word.
abbrev pub step_text : ℕ → List ℕ → List ℕ
step_text step word = codes "invalid step " ++ (decimal step ++ (codes " " ++ (word ++ codes "\n")))

-- A refusal with this step, whose point breaks this row of its program.
abbrev pub row_text : ℕ → ℕ → List ℕ
row_text step row = codes "invalid step " ++ (decimal step ++ (codes " row " ++ (decimal row ++ codes "\n")))

-- A refusal that doesn't hold: the first test that fails, at the first step that fails one. Steps and rows are counted from 1 in the text.
abbrev pub unconfirmed_text : Fault → List ℕ
unconfirmed_text (fault.After step) = step_text step (codes "after")
unconfirmed_text (fault.Task step) = step_text step (codes "task")
unconfirmed_text (fault.Rising step) = step_text step (codes "rising")
unconfirmed_text (fault.Size step) = step_text step (codes "size")
unconfirmed_text (fault.Row step row) = row_text step row
unconfirmed_text (fault.Low step) = step_text step (codes "low")
unconfirmed_text fault.Open = codes "invalid open\n"
unconfirmed_text fault.Memory = []
