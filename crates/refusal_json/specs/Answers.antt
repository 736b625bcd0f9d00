-- What do the answers of reading say?
use Rattle.std.specs.Prelude.{◌≡◌, ℕ, true, false, List, Result, Ok, Err}
use Rattle.serde_json.specs.Data.{Data}
use Rattle.taskset_json.specs.Answers.{IsValue}
use Rattle.cert_json.specs.FormParts.{is_for}
use Rattle.cert_json.specs.Written.{digest_written}
use Rattle.refusal_laws.specs.declared.refusal.Refusal.{Refusal}
use Rattle.refusal_laws.specs.Steps.{StepDef}
use Rattle.refusal_laws.specs.Seen.{steps_seen}
use Rattle.refusal_json.specs.declared.fault.ReadFault.{ReadFault}
use Rattle.refusal_json.specs.declared.fault.ReadFault.TheVariants as fault
use Rattle.refusal_json.specs.Form.{is_refusal}
use Rattle.refusal_json.specs.Written.{steps_written}

-- What the answer on a value says of it. The value has the form of a refusal for the protocol of the word, and these are its steps and its
-- digest. Or it hasn't the form. Or it is for another protocol. Only want of memory says nothing of it.
abbrev pub JudgesValue : Result (Refusal × List ℕ) ReadFault → List ℕ → Data → Type 0
JudgesValue (Ok given) word d =
    (is_refusal d ≡ true) × (is_for word d ≡ true) × (steps_seen given.0 ≡ steps_written d) × (given.1 ≡ digest_written d)
JudgesValue (Err fault.NotJson) word d = ⊥
JudgesValue (Err fault.Shape) word d = is_refusal d ≡ false
JudgesValue (Err fault.OtherProtocol) word d = (is_refusal d ≡ true) × (is_for word d ≡ false)
JudgesValue (Err fault.Memory) word d = Unit {0}

-- What the answer of reading says of the bytes: they are no JSON text, or what it says of their value. Only want of memory says nothing of
-- them.
abbrev pub Reads : Result (Refusal × List ℕ) ReadFault → List ℕ → List ℕ → Type 0
Reads (Err fault.NotJson) word bytes = (d : Data) → IsValue bytes d → ⊥
Reads (Err fault.Memory) word bytes = Unit {0}
Reads answer word bytes = (d : Data) × IsValue bytes d × JudgesValue answer word d

-- Does the answer give these steps with this digest, except for want of memory?
abbrev pub Gives : Result (Refusal × List ℕ) ReadFault → List StepDef → List ℕ → Type 0
Gives (Ok given) steps digest = (steps_seen given.0 ≡ steps) × (given.1 ≡ digest)
Gives (Err f) steps digest = f ≡ fault.Memory
