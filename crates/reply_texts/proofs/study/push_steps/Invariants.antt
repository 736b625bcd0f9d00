use Rattle.std.proofs.Common.{◌≡◌, ◌++◌, []}
use Rattle.std.specs.Prelude.{slice_index_or}
use Rattle.number_laws.specs.Sums.{collect_below}
use Rattle.reply_texts.specs.Texts.{step_line}
use Rattle.reply_texts.proofs.study.push_steps.Given as goal

-- the lines of the steps so far are written
abbrev pub invariant-loop-i : goal.invariant-loop-i
invariant-loop-i l = l.text.items ≡ l.initial.text.items ++ collect_below l.i (λ i. step_line i (slice_index_or l.rows i []))
