use Rattle.std.proofs.Common.{◌≡◌, true}
use Rattle.number_laws.specs.Tests.{all_below}
use Rattle.shared_rules.specs.RowTests.{current_passes}
use Rattle.shared_rules.proofs.walking.each_passes.Given as goal

abbrev pub invariant-loop-x : goal.invariant-loop-x
invariant-loop-x g l = all_below l.x (current_passes l.machine (g.T.JobTest.passes l.test l.machine)) ≡ true
