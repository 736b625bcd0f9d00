use Rattle.std.proofs.Common.{◌≡◌, replicate}
use Rattle.audit_figures.specs.Sums.{no_sums}
use Rattle.audit_figures.proofs.sums.no_sums.Given as goal

abbrev pub invariant-loop : goal.invariant-loop
invariant-loop l = l.sums.items ≡ replicate l.counter no_sums
