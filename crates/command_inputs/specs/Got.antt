-- The result of getting an input: its value, or the answer that says why there is none.
use Rattle.std.specs.Prelude.{◌≡◌, ℕ, ◌<◌, ◌≤◌, ◌⊎◌, true, List, [], ◌∷◌, length, is_some, Vec, Result, Ok, Err, codes}
use Rattle.std.specs.Global.{Global}
use Rattle.outside_ports.specs.Counts.{Rose}
use Rattle.outside_ports.specs.Past.{Asked, wholly, partly, unbegun}
use Rattle.outside_ports.specs.Ports.{ShelfDef}
use Rattle.outside_ports.specs.declared.shelf.ShelfFault.TheVariants.{Absent}
use Rattle.outside_ports.specs.declared.whole.TheConstants.{GREATEST_INPUT_BYTES}
use Rattle.sporadic_model.specs.SetDef.{SetDef}
use Rattle.protocol_names.specs.declared.ProtocolName.{ProtocolName}
use Rattle.taskset_json.specs.declared.refusal.SetRefusal.{SetRefusal}
use Rattle.taskset_json.specs.declared.refusal.SetRefusal.TheVariants as refusal
use Rattle.sha2.specs.Sha256.{sha256}
use Rattle.command_inputs.specs.Known.{Answer, Input, Shown, shown_by, refused, read_fault, IsStopped, IsRead}
use Rattle.command_inputs.specs.Inputs.{ReadsSet, set_input}
use Rattle.command_inputs.specs.Halts.{HaltsWith}
use Rattle.command_inputs.specs.declared.halt.Halt.{Halt}

-- Could the input of this name not be read, so that the shelf's count rose? It was asked for, and nothing else.
abbrev pub IsFailed : Shown → List ℕ → List ℕ → Answer → Type 0
IsFailed shelf word name answer = Rose shelf.before shelf.now × (shelf.given ≤ GREATEST_INPUT_BYTES)
    × ((one : Asked) × (one.name ≡ name) × (shown_by shelf).asked (one ∷ [])) × (answer ≡ read_fault word)

-- Is this the answer to an input that isn't loaded? It couldn't be read, or it is absent or too long.
abbrev pub IsUnloaded : Shown → List ℕ → List ℕ → Answer → Type 0
IsUnloaded shelf word name answer = IsFailed shelf word name answer
    ⊎ (((shown_by shelf).absent name × (shown_by shelf).asked (unbegun name Absent ∷ []) × (answer ≡ refused word (codes "absent")))
    ⊎ ((part : List ℕ) × (shown_by shelf).longer name × (GREATEST_INPUT_BYTES < length part)
    × (shown_by shelf).asked (partly name part ∷ []) × (answer ≡ refused word (codes "toolong"))))

-- The result of loading an input. Either these are the bytes that the shelf gave of it, and nothing else was asked for. Or this is the
-- answer that says why there are none.
abbrev pub IsLoaded : Shown → List ℕ → List ℕ → Result (Vec ℕ Global) Halt → Type 0
IsLoaded shelf word name (Ok bytes) = (shown_by shelf).has name bytes.items × (length bytes.items ≡ shelf.given)
    × (shown_by shelf).asked (wholly name bytes.items ∷ [])
IsLoaded shelf word name (Err h) = HaltsWith h (IsUnloaded shelf word name)

-- Is this the answer that refuses the bytes of an input?
abbrev pub IsRefusal : Input → List ℕ → Answer → Type 0
IsRefusal input bytes answer =
    (refusal : input.Refusal) × (input.reads bytes (Err refusal)) × (answer ≡ refused input.word (input.reason refusal))

-- The result of reading the bytes of an input: its value, or the answer that refuses them.
abbrev pub IsTaken : (input : Input) → List ℕ → Result input.Value Halt → Type 0
IsTaken input bytes (Ok value) = input.reads bytes (Ok value)
IsTaken input bytes (Err h) = HaltsWith h (IsRefusal input bytes)

-- Is this the answer to an input that gives nothing?
abbrev pub IsUngot : Shown → Input → List ℕ → Answer → Type 0
IsUngot shelf input name answer = IsFailed shelf input.word name answer ⊎ IsStopped (shown_by shelf) input name answer

-- Is this the input's value, read from the bytes that the shelf gave of it? Nothing else was asked for.
abbrev pub IsGiven : Shown → (input : Input) → List ℕ → input.Value → Type 0
IsGiven shelf input name value = (bytes : List ℕ) × IsRead (shown_by shelf) input name bytes value × (length bytes ≡ shelf.given)
    × (shown_by shelf).asked (wholly name bytes ∷ [])

-- The result of both: the value, or the answer that says why there is none.
abbrev pub IsGot : Shown → (input : Input) → List ℕ → Result input.Value Halt → Type 0
IsGot shelf input name (Ok value) = IsGiven shelf input name value
IsGot shelf input name (Err h) = HaltsWith h (IsUngot shelf input name)

-- The result of getting a set with the digest of its bytes.
abbrev pub IsGotTied : Shown → ProtocolName → List ℕ → Result (SetDef × List ℕ) Halt → Type 0
IsGotTied shelf protocol name (Ok got) = (given : IsGiven shelf (set_input protocol) name got.0) × (got.1 ≡ sha256 given.0)
IsGotTied shelf protocol name (Err h) = HaltsWith h (IsUngot shelf (set_input protocol) name)

-- What contracts see of the result of an input, from what they see of its value.
abbrev pub taken : {A B : Type 0} → (A → B) → Result A Halt → Result B Halt
taken seen (Ok value) = Ok (seen value)
taken seen (Err h) = Err h

-- What reading says of a set for a protocol. Running out of memory says nothing.
abbrev pub ReadsSetFor : ProtocolName → List ℕ → Result SetDef SetRefusal → Type 0
ReadsSetFor protocol bytes (Err refusal.Memory) = Unit {0}
ReadsSetFor protocol bytes r = ReadsSet protocol bytes r

-- What a shelf keeps over a call: its names, and whether it tells the rest. Its count never falls. A shelf that promises that no call
-- fails still promises it, and its count stays.
pub record Keeps (old new : ShelfDef) : Type 0 where
  pub names : new.names ≡ old.names
  pub tells : is_some new.rest ≡ is_some old.rest
  pub later : old.faults ≤ new.faults
  pub steady : old.steady ≡ true → (new.steady ≡ true) × (new.faults ≡ old.faults)
