-- The bytes of a refusal are read in one way, and what was written is read again.
use Rattle.std.proofs.Common.{◌≡◌, ℕ, Bool, true, false, List, refl, sym, ap, ap₂, inl, inr, Ok, Err}
use Rattle.std.specs.Prelude.{Result}
use Rattle.serde_json.specs.Data.{Data}
use Rattle.sha2.specs.Sha256.{sha256}
use Rattle.cert_json.proofs.DigestBytes.{is_digest}
use Rattle.protocol_names.specs.Names.{word_of}
use Rattle.protocol_names.specs.declared.ProtocolName.{ProtocolName}
use Rattle.cert_json.specs.FormParts.{is_for}
use Rattle.cert_json.specs.Written.{digest_written}
use Rattle.cert_json.proofs.ReadBack.{same_word}
use Rattle.refusal_laws.specs.declared.refusal.Refusal.{Refusal}
use Rattle.refusal_laws.specs.Steps.{StepDef}
use Rattle.refusal_laws.specs.Seen.{steps_seen}
use Rattle.refusal_json.specs.Form.{is_refusal}
use Rattle.refusal_json.specs.Written.{steps_written}
use Rattle.refusal_json.specs.Ranges.{IsWritable}
use Rattle.refusal_json.specs.Text.{refusal_text}
use Rattle.refusal_json.specs.Value.{refusal_data}
use Rattle.refusal_json.specs.Answers.{Reads}
use Rattle.refusal_json.specs.declared.fault.ReadFault.{ReadFault}
use Rattle.refusal_json.specs.declared.fault.ReadFault.TheVariants as fault
use Rattle.refusal_json.proofs.ReadBack.{is_value, formed, steps-written, digest-written}
use Rattle.named_laws.proofs.EachName.{named_word_is_text}
use Rattle.command_inputs.specs.RefusalDef.{RefusalDef}
use Rattle.command_inputs.specs.Inputs.{IsRefusalText, ReadsRefusal, refusal_input}
use Rattle.run_plans.proofs.OneReading.{Says, one_saying}
use Rattle.run_plans.proofs.PlanLaws.{ReadsOnce}

-- What reading says of a value, as a function of the value.
judge : Bool → Bool → RefusalDef → Result RefusalDef ReadFault
judge false mine file = Err fault.Shape
judge true false file = Err fault.OtherProtocol
judge true true file = Ok file

judgement : ProtocolName → Data → Result RefusalDef ReadFault
judgement p d = judge (is_refusal d) (is_for (word_of p) d) (record { steps = steps_written d; digest = digest_written d })

-- Either the bytes have no value, or the answer is the judgement on their value.
says : (p : ProtocolName) (r : Result RefusalDef ReadFault) (bytes : List ℕ) → ReadsRefusal p bytes r
    → Says fault.NotJson (judgement p) r bytes
unfolding judgement judge
says p (Ok file) bytes (d, is, form, mine, same) =
    inr (record { value = d; is_value = is; is = rw (form, mine) (ap (λ x. Ok x) same) })
says p (Err fault.NotJson) bytes none = inl (record { none = none; is = refl })
says p (Err fault.Shape) bytes (d, is, form) = inr (record { value = d; is_value = is; is = rw form refl })
says p (Err fault.OtherProtocol) bytes (d, is, form, other) =
    inr (record { value = d; is_value = is; is = rw (form, other) refl })
says p (Err fault.Memory) bytes reads = absurd reads

pub refusal_reads_once : (p : ProtocolName) → ReadsOnce (refusal_input p)
refusal_reads_once p bytes r s a b = one_saying fault.NotJson (judgement p) r s bytes (says p r bytes a) (says p s bytes b)

-- What the reader says of bytes, in the words of the input: a refusal, or why it is refused.
pub read_refusal_file : (p : ProtocolName) (bytes : List ℕ) (given : Refusal × List ℕ) → Reads (Ok given) (word_of p) bytes
    → ReadsRefusal p bytes (Ok (record { steps = steps_seen given.0; digest = given.1 }))
read_refusal_file p bytes given reads = (
  reads.0,
  reads.1,
  reads.2.0,
  reads.2.1,
  ap₂ (λ (s : List StepDef) (d : List ℕ). record { steps = s; digest = d }) reads.2.2 reads.2.3,
)

pub refused_refusal : (p : ProtocolName) (bytes : List ℕ) (r : ReadFault) → Reads (Err r) (word_of p) bytes → (r ≡ fault.Memory → ⊥)
    → ReadsRefusal p bytes (Err r)
refused_refusal p bytes fault.NotJson reads other = reads
refused_refusal p bytes fault.Shape reads other = reads
refused_refusal p bytes fault.OtherProtocol reads other = (reads.0, reads.1, reads.2.0, reads.2.1)
refused_refusal p bytes fault.Memory reads other = absurd (other refl)

-- The text of steps that can be written is read as these steps.
pub text_is_read : (p : ProtocolName) (bytes : List ℕ) (steps : List StepDef) → IsWritable steps
    → IsRefusalText p (refusal_text (word_of p) (sha256 bytes) steps) (record { steps = steps; digest = sha256 bytes })
text_is_read p bytes steps w =
    let word : List ℕ = word_of p in
    let digest : List ℕ = sha256 bytes in (
      refusal_data word digest steps,
      is_value word digest steps (named_word_is_text p) w,
      formed word digest steps (is_digest bytes) w,
      same_word word,
      ap₂ (λ (s : List StepDef) (d : List ℕ). record { steps = s; digest = d }) (sym (steps-written steps))
          (sym (digest-written word digest steps (is_digest bytes))),
    )
