-- The bytes of a set are read in one way.
use Rattle.std.proofs.Common.{◌≡◌, ℕ, List, refl, sym, ◌∙◌, ap, inl, inr, Ok, Err, Some, None}
use Rattle.std.specs.Prelude.{Option, Result}
use Rattle.serde_json.specs.Data.{Data}
use Rattle.sporadic_model.specs.SetDef.{SetDef}
use Rattle.sporadic_model.specs.Refusals.{first_refusal}
use Rattle.sporadic_model.proofs.Acceptance.{free_from_accepted}
use Rattle.protocol_names.specs.Names.{homes_as}
use Rattle.protocol_names.specs.declared.ProtocolName.{ProtocolName}
use Rattle.sporadic_model.specs.declared.refusal.Place.{Place}
use Rattle.sporadic_model.specs.declared.refusal.ModelRefusal.{ModelRefusal}
use Rattle.sporadic_model.specs.declared.refusal.ModelRefusal.TheVariants as model
use Rattle.taskset_json.specs.Answers.{Reads, JudgesValue, first_homeless}
use Rattle.taskset_json.specs.FormFaults.{first_misshapen}
use Rattle.taskset_json.proofs.FormRelation.{none_from_form}
use Rattle.taskset_json.specs.Written.{set_written}
use Rattle.taskset_json.specs.declared.refusal.SetRefusal.{SetRefusal}
use Rattle.taskset_json.specs.declared.refusal.SetRefusal.TheVariants as refusal
use Rattle.command_inputs.specs.Inputs.{ReadsSet, set_input}
use Rattle.run_plans.proofs.OneReading.{Says, one_saying}
use Rattle.run_plans.proofs.PlanLaws.{ReadsOnce}

-- Does the answer of reading say something of the bytes?
abbrev pub Tells : Result SetDef SetRefusal → Type 0
Tells (Err refusal.Memory) = ⊥
Tells _ = Unit {0}

-- What reading says of a value, as a function of the value.
judge_set : Option ModelRefusal → SetDef → Result SetDef SetRefusal
judge_set None set = Ok set
judge_set (Some r) set = Err (refusal.Model r)

judge_form : Option Place → SetDef → Result SetDef SetRefusal
unfolding judge_set
judge_form None set = judge_set (first_refusal set) set
judge_form (Some place) set = Err (refusal.Shape place)

judgement : Data → Result SetDef SetRefusal
judgement d = judge_form (first_misshapen d) (set_written d)

model_judged : (m : ModelRefusal) (d : Data) → JudgesValue (Err (refusal.Model m)) d → Err (refusal.Model m) ≡ judgement d
unfolding judgement judge_form judge_set
model_judged model.Memory d j = absurd j
model_judged m d (form, due) = let shape : first_misshapen d ≡ None = none_from_form d form in rw (shape, due) refl

judged : (r : Result SetDef SetRefusal) (d : Data) → JudgesValue r d → Tells r → r ≡ judgement d
unfolding judgement judge_form judge_set
judged (Ok set) d (form, accepted, same) tells =
    let shape : first_misshapen d ≡ None = none_from_form d form in
    let none : first_refusal (set_written d) ≡ None = free_from_accepted (set_written d) accepted in
    rw (shape, none) (ap (λ s. Ok s) same)
judged (Err refusal.NotJson) d j tells = absurd j
judged (Err (refusal.Shape place)) d shape tells = rw shape refl
judged (Err (refusal.Model m)) d j tells = model_judged m d j
judged (Err (refusal.NoHome q)) d j tells = absurd j
judged (Err refusal.Memory) d j tells = absurd tells

-- Either the bytes have no value, or the answer is the judgement on their value.
says : (r : Result SetDef SetRefusal) (bytes : List ℕ) → Reads r bytes → Tells r → Says refusal.NotJson judgement r bytes
says (Ok set) bytes reads tells = inr (record { value = reads.0; is_value = reads.1; is = judged (Ok set) reads.0 reads.2 tells })
says (Err refusal.NotJson) bytes reads tells = inl (record { none = reads; is = refl })
says (Err (refusal.Shape place)) bytes reads tells =
    inr (record { value = reads.0; is_value = reads.1; is = judged (Err (refusal.Shape place)) reads.0 reads.2 tells })
says (Err (refusal.Model m)) bytes reads tells =
    inr (record { value = reads.0; is_value = reads.1; is = judged (Err (refusal.Model m)) reads.0 reads.2 tells })
says (Err (refusal.NoHome q)) bytes reads tells = absurd reads.2
says (Err refusal.Memory) bytes reads tells = absurd tells

-- Bytes are read in one way.
pub one_reading : (r s : Result SetDef SetRefusal) (bytes : List ℕ) → Reads r bytes → Reads s bytes → Tells r → Tells s → r ≡ s
one_reading r s bytes p q a b = one_saying refusal.NotJson judgement r s bytes (says r bytes p a) (says s bytes q b)

-- What reading for a protocol says, from what reading says. The first resource without a home refuses a set.
abbrev pub with_homes : Option ℕ → SetDef → Result SetDef SetRefusal
with_homes None set = Ok set
with_homes (Some q) set = Err (refusal.NoHome (record { 0 = q }))

abbrev pub for_protocol : ProtocolName → Result SetDef SetRefusal → Result SetDef SetRefusal
for_protocol protocol (Ok set) = with_homes (first_homeless set (homes_as protocol)) set
for_protocol protocol (Err r) = Err r

record ReadFor (protocol : ProtocolName) (bytes : List ℕ) (r : Result SetDef SetRefusal) : Type 0 where
  said : Result SetDef SetRefusal
  reads : Reads said bytes
  tells : Tells said
  is : r ≡ for_protocol protocol said

read_for : (protocol : ProtocolName) (bytes : List ℕ) (r : Result SetDef SetRefusal) → ReadsSet protocol bytes r → ReadFor protocol bytes r
read_for protocol bytes (Ok set) (reads, none) =
    record { said = Ok set; reads = reads; tells = tt; is = sym (ap (λ o. with_homes o set) none) }
read_for protocol bytes (Err (refusal.NoHome q)) (set, reads, some) =
    record { said = Ok set; reads = reads; tells = tt; is = sym (ap (λ o. with_homes o set) some) }
read_for protocol bytes (Err refusal.NotJson) reads = record { said = Err refusal.NotJson; reads = reads; tells = tt; is = refl }
read_for protocol bytes (Err (refusal.Shape place)) reads =
    record { said = Err (refusal.Shape place); reads = reads; tells = tt; is = refl }
read_for protocol bytes (Err (refusal.Model m)) reads = record { said = Err (refusal.Model m); reads = reads; tells = tt; is = refl }
read_for protocol bytes (Err refusal.Memory) reads = absurd reads

pub set_reads_once : (protocol : ProtocolName) → ReadsOnce (set_input protocol)
set_reads_once protocol bytes r s p q =
    let x = read_for protocol bytes r p in
    let y = read_for protocol bytes s q in
    x.is ∙ ap (for_protocol protocol) (one_reading x.said y.said bytes x.reads y.reads x.tells y.tells) ∙ sym y.is
