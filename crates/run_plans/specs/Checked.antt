-- What a call of `check` makes of what a call of `analyse`, `settle` or `upgrade` wrote.
use Rattle.std.specs.Prelude.{◌≡◌, ◌≢◌, ℕ, ◌≤◌, ◌⊎◌, List, length, Some, IsSome}
use Rattle.std.specs.Io.KnownBytes.{Appends}
use Rattle.outside_ports.specs.Counts.{Rose}
use Rattle.outside_ports.specs.Names.{Inputs, bytes_of}
use Rattle.outside_ports.specs.declared.whole.TheConstants.{GREATEST_INPUT_BYTES}
use Rattle.protocol_names.specs.declared.ProtocolName.{ProtocolName}
use Rattle.command_words.specs.Spelled.{analyse_words, settle_words, upgrade_words, check_words}
use Rattle.sha2.specs.Sha256.{sha256}
use Rattle.sporadic_model.specs.SetDef.{SetDef}
use Rattle.command_inputs.specs.Known.{Answer}
use Rattle.run_plans.specs.Commands.{checked_answer, other_set_answer}
use Rattle.run_plans.specs.Headline.{Call, HasInputs, RanOut, ReadsSome}
use Rattle.run_plans.specs.Run.{Gives}

-- Does the second call read what the first one wrote? The first writes to a sink that tells its bytes, and ends with this status. The
-- second has these words, with a set and a file, for the same protocol. In its inputs the set's name has the same bytes, and the file's
-- name has those that the first call wrote. Each call has its inputs.
pub record ReadsWhatWasWritten (first second : Call) (status : ℕ) (words : ProtocolName → List ℕ → List ℕ → List (List ℕ))
    (protocol : ProtocolName) (set : List ℕ) : Type 0 where
  pub inputs : Inputs
  pub has : HasInputs first inputs
  pub tells : IsSome first.sink_before.written
  pub ended : first.status ≡ status
  pub text : List ℕ
  pub wrote : Appends first.sink_before.written first.sink_now.written text
  pub short : length text ≤ GREATEST_INPUT_BYTES
  pub same_set : List ℕ
  pub file : List ℕ
  pub later : Inputs
  pub reads : second.words ≡ words protocol same_set file
  pub has_later : HasInputs second later
  pub set_again : bytes_of later same_set ≡ bytes_of inputs set
  pub text_again : bytes_of later file ≡ Some text

-- Does the second call check the certificate that the first one wrote, with status 0, when it analysed a set?
pub record ChecksWhatWasWritten (first second : Call) : Type 0 where
  pub protocol : ProtocolName
  pub set : List ℕ
  pub more : List (List ℕ)
  pub analyses : first.words ≡ analyse_words protocol set more
  pub after : ReadsWhatWasWritten first second 0 check_words protocol set

-- The same if the first call settled a set.
pub record ChecksWhatWasSettled (first second : Call) : Type 0 where
  pub protocol : ProtocolName
  pub set : List ℕ
  pub more : List (List ℕ)
  pub settles : first.words ≡ settle_words protocol set more
  pub after : ReadsWhatWasWritten first second 0 check_words protocol set

-- The same if the first call upgraded a certificate.
pub record ChecksWhatWasUpgraded (first second : Call) : Type 0 where
  pub protocol : ProtocolName
  pub set : List ℕ
  pub old : List ℕ
  pub upgrades : first.words ≡ upgrade_words protocol set old
  pub after : ReadsWhatWasWritten first second 0 check_words protocol set

-- Does the second call check what a call of `analyse` wrote, for a set of other bytes with another digest? The rest is as above, and the
-- second set is accepted too.
pub record ChecksForAnotherSet (first second : Call) : Type 0 where
  pub protocol : ProtocolName
  pub set : List ℕ
  pub more : List (List ℕ)
  pub inputs : Inputs
  pub analyses : first.words ≡ analyse_words protocol set more
  pub has : HasInputs first inputs
  pub tells : IsSome first.sink_before.written
  pub schedulable : first.status ≡ 0
  pub text : List ℕ
  pub wrote : Appends first.sink_before.written first.sink_now.written text
  pub short : length text ≤ GREATEST_INPUT_BYTES
  pub bytes : List ℕ
  pub named : bytes_of inputs set ≡ Some bytes
  pub other_set : List ℕ
  pub certificate : List ℕ
  pub later : Inputs
  pub checks : second.words ≡ check_words protocol other_set certificate
  pub has_later : HasInputs second later
  pub tasks : SetDef
  pub read : ReadsSome second protocol other_set tasks
  pub named_later : bytes_of later other_set ≡ Some read.bytes
  pub apart : sha256 read.bytes ≢ sha256 bytes
  pub text_again : bytes_of later certificate ≡ Some text

-- The call gives this answer. Or a count of faults rose, with status 4. Or memory ran out.
abbrev pub Finds : Call → Answer → Type 0
Finds call answer = Gives call answer
    ⊎ (((call.status ≡ 4) × (Rose call.shelf_before.faults call.shelf_now.faults ⊎ Rose call.sink_before.faults call.sink_now.faults)) ⊎ RanOut call)

-- It finds the certificate valid, or of another set.
abbrev pub FindsValid : Call → Type 0
FindsValid call = Finds call checked_answer

abbrev pub FindsOtherSet : Call → Type 0
FindsOtherSet call = Finds call other_set_answer
