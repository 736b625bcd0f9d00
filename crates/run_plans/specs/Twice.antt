-- Completeness over a shelf that promises that no call fails.
use Rattle.std.specs.Prelude.{◌≡◌, ◌-◌, ◌^◌, ◌<◌, ◌⊎◌, true, Some, IsSome, is_some}
use Rattle.outside_ports.specs.Counts.{Rose}
use Rattle.outside_ports.specs.Names.{Inputs}
use Rattle.run_plans.specs.Plans.{EndsWell}
use Rattle.command_words.specs.Words.{Form, form_of}
use Rattle.run_plans.specs.Commands.{plan_of}
use Rattle.command_inputs.specs.Known.{told}
use Rattle.command_inputs.specs.Got.{Keeps}
use Rattle.run_plans.specs.Headline.{Call}

-- Two calls over one shelf and one sink. The second one finds the shelf as the first one left it. The shelf promises that no call fails,
-- each call keeps what a run keeps, and the sink tells its bytes.
pub record AreSteady (first second : Call) : Type 0 where
  pub steady : first.shelf_before.steady ≡ true
  pub count : first.shelf_before.faults < 2 ^ 64 - 1
  pub tells : IsSome first.sink_before.written
  pub tells_still : is_some second.sink_before.written ≡ is_some first.sink_before.written
  pub keeps : Keeps first.shelf_before first.shelf_now
  pub keeps_still : Keeps second.shelf_before second.shelf_now
  pub same_shelf : second.shelf_before ≡ first.shelf_now

-- Let the words have a form, each input that it names be there and accepted, the work on them end with status 0 or 1, and the sink's count
-- not rise. Then the status is 0 or 1, or 7 if memory runs out.
abbrev pub IsCompleteCall : Call → Type 0
IsCompleteCall call = (inputs : Inputs) (form : Form) → form_of call.words ≡ Some form → call.shelf_before.names ≡ Some inputs
    → EndsWell (told inputs) (plan_of form) → (Rose call.sink_before.faults call.sink_now.faults → ⊥)
    → (call.status ≡ 0) ⊎ ((call.status ≡ 1) ⊎ (call.status ≡ 7))
