-- What a call of `confirm` makes of what a call of `refute` or `settle` wrote, and that no set is both accepted and refused.
use Rattle.std.specs.Prelude.{◌≡◌, ℕ, List}
use Rattle.outside_ports.specs.Names.{Inputs, bytes_of}
use Rattle.protocol_names.specs.declared.ProtocolName.{ProtocolName}
use Rattle.command_words.specs.Spelled.{refute_words, settle_words, check_words, confirm_words}
use Rattle.run_plans.specs.Refuting.{confirmed_answer}
use Rattle.run_plans.specs.Headline.{Call, HasInputs}
use Rattle.run_plans.specs.Checked.{ReadsWhatWasWritten, Finds}

-- Does the second call confirm the refusal that the first one wrote, with status 0, when it refuted a set?
pub record ConfirmsWhatWasWritten (first second : Call) : Type 0 where
  pub protocol : ProtocolName
  pub set : List ℕ
  pub more : List (List ℕ)
  pub refutes : first.words ≡ refute_words protocol set more
  pub after : ReadsWhatWasWritten first second 0 confirm_words protocol set

-- The same if the first call settled a set, with status 1.
pub record ConfirmsWhatWasSettled (first second : Call) : Type 0 where
  pub protocol : ProtocolName
  pub set : List ℕ
  pub more : List (List ℕ)
  pub settles : first.words ≡ settle_words protocol set more
  pub after : ReadsWhatWasWritten first second 1 confirm_words protocol set

-- It finds the refusal confirmed.
abbrev pub FindsConfirmed : Call → Type 0
FindsConfirmed call = Finds call confirmed_answer

-- Does the first call find a certificate valid, and the second a refusal confirmed, for the same protocol and the same bytes of a set?
-- Each call has its inputs.
pub record ChecksAndConfirms (first second : Call) : Type 0 where
  pub protocol : ProtocolName
  pub set : List ℕ
  pub certificate : List ℕ
  pub inputs : Inputs
  pub checks : first.words ≡ check_words protocol set certificate
  pub has : HasInputs first inputs
  pub valid : first.status ≡ 0
  pub same_set : List ℕ
  pub refusal : List ℕ
  pub later : Inputs
  pub confirms : second.words ≡ confirm_words protocol same_set refusal
  pub has_later : HasInputs second later
  pub confirmed : second.status ≡ 0
  pub set_again : bytes_of later same_set ≡ bytes_of inputs set
