use Rattle.std.proofs.Common.{◌≡◌, ℕ, ◌<◌, Some, None, Ok}
use Rattle.std.specs.Prelude.{slice_get}
use Rattle.refusal_confirm.proofs.batches.first_fault.Given as goal

-- none so far names a test
abbrev pub invariant-loop-j : goal.invariant-loop-j
invariant-loop-j l = (k : ℕ) → k < l.j → slice_get l.tested k ≡ Some (Ok None)
