-- The value of a limit of the code that definitions use.
use Rattle.std.specs.Prelude.{◌≡◌, refl}
use Rattle.outside_ports.specs.declared.whole.TheConstants.{GREATEST_INPUT_BYTES}

-- an input has at most 64 MiB
pub greatest_input_bytes : GREATEST_INPUT_BYTES ≡ 67108864
greatest_input_bytes = refl
