-- The exit status of each way in which a run ends.
use Rattle.std.specs.Prelude.{ℕ}
use Rattle.command_inputs.specs.declared.status.Status.{Status}
use Rattle.command_inputs.specs.declared.status.Status.TheVariants as status

abbrev pub number_of : Status → ℕ
number_of status.Done = 0
number_of status.No = 1
number_of status.RefusedWords = 2
number_of status.RefusedInput = 3
number_of status.Fault = 4
number_of status.Wide = 5
number_of status.Allowance = 6
number_of status.Memory = 7
