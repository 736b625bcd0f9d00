-- What do the answers of this crate's calls say?
use Rattle.std.specs.Prelude.{◌≡◌, ℕ, true, List, Option, None, Some, Result, Ok, Err, IsUtf8, is_none, position}
use Rattle.serde_json.specs.Data.{Data}
use Rattle.serde_json.specs.Read.{read}
use Rattle.sporadic_model.specs.SetDef.{SetDef}
use Rattle.sporadic_model.specs.Refusals.{first_refusal}
use Rattle.sporadic_model.specs.Accepted.{IsAccepted}
use Rattle.sporadic_model.specs.declared.ids.Protocol.{Protocol}
use Rattle.sporadic_model.specs.declared.ids.Protocol.TheVariants as protocol
use Rattle.sporadic_model.specs.declared.refusal.ModelRefusal.TheVariants as model
use Rattle.taskset_json.specs.declared.refusal.SetRefusal.{SetRefusal}
use Rattle.taskset_json.specs.declared.refusal.SetRefusal.TheVariants as refusal
use Rattle.taskset_json.specs.Form.{has_set_form}
use Rattle.taskset_json.specs.FormFaults.{first_misshapen}
use Rattle.taskset_json.specs.Written.{set_written}

-- Are the bytes a JSON text, and is this its value?
abbrev pub IsValue : List ℕ → Data → Type 0
IsValue bytes d = IsUtf8 bytes × (read bytes ≡ Some d)

-- What the answer on a value says of it. The value has the form, its set is accepted, and this is the set. Or this is the first place at
-- which it breaks the form. Or it has the form, and this is the first refusal that is due. Only want of memory says nothing of it.
abbrev pub JudgesValue : Result SetDef SetRefusal → Data → Type 0
JudgesValue (Ok set) d = (has_set_form d ≡ true) × IsAccepted (set_written d) × (set ≡ set_written d)
JudgesValue (Err refusal.NotJson) d = ⊥
JudgesValue (Err (refusal.Shape place)) d = first_misshapen d ≡ Some place
JudgesValue (Err (refusal.Model model.Memory)) d = ⊥
JudgesValue (Err (refusal.Model r)) d = (has_set_form d ≡ true) × (first_refusal (set_written d) ≡ Some r)
JudgesValue (Err (refusal.NoHome q)) d = ⊥
JudgesValue (Err refusal.Memory) d = Unit {0}

-- What the answer of reading says of the bytes: they are no JSON text, or what it says of their value. Only want of memory says nothing of
-- them.
abbrev pub Reads : Result SetDef SetRefusal → List ℕ → Type 0
Reads (Err refusal.NotJson) bytes = (d : Data) → IsValue bytes d → ⊥
Reads (Err refusal.Memory) bytes = Unit {0}
Reads answer bytes = (d : Data) × IsValue bytes d × JudgesValue answer d

-- The first resource that lacks the home that the protocol asks for. Only DPCP asks for one.
abbrev pub first_homeless : SetDef → Protocol → Option ℕ
first_homeless set protocol.Dpcp = position (λ r. is_none r.home) set.resources
first_homeless set protocol.Mpcp = None
first_homeless set protocol.FmlpPlus = None

-- What the answer on the homes says: each home that the protocol asks for is there, or this resource lacks it.
abbrev pub JudgesHomes : {T : Type 0} → Result T SetRefusal → SetDef → Protocol → Type 0
JudgesHomes (Ok done) set protocol = first_homeless set protocol ≡ None
JudgesHomes (Err (refusal.NoHome q)) set protocol = first_homeless set protocol ≡ Some q.0
JudgesHomes (Err _) set protocol = ⊥
