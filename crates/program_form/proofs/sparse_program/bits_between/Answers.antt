use Rattle.std.proofs.Common.{◌≤◌, inl, inr, arith}
use Rattle.std.proofs.lemmas.Bool.{cases_eq}
use Rattle.std.proofs.lemmas.Nat.{le_or_l, le_or_r}
use Rattle.program_form.specs.Program.{entry}
use Rattle.program_form.proofs.sparse_program.bits_between.Goals as goal

pub loop-c-preserved : goal.loop-c-preserved
loop-c-preserved c v l below = elim (cases_eq v c.loop-c.c) [
  | inl here ↦ rw (here, ← c.entry-bits.ensures.value) (le_or_r c.loop-c.bits c.entry-bits.result)
  | inr earlier ↦
      let before : entry c.args.program.now c.args.r v ≤ c.loop-c.bits = c.loop-c.invariant v l (omega arith) in
      omega (arith, before, le_or_l c.loop-c.bits c.entry-bits.result)
]
