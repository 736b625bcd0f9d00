-- What is read of the text of a refusal is the refusal.
use Rattle.std.proofs.Common.{◌≡◌, ℕ, ◌≤◌, ◌&&◌, true, List, [], ◌∷◌, map, Some, option_map, option_and_then}
use Rattle.std.proofs.Common.{Result, Ok, Err, IsUtf8, codes, refl, ap, ap₂, unwrap_or, replicate, ◌∙◌, arith}
use Rattle.std.proofs.lemmas.List.Elements.{All-head, All-tail}
use Rattle.std.specs.List.{list_all}
use Rattle.std.proofs.lemmas.Bool.{both_ways}
use Rattle.json.specs.Tree as tree
use Rattle.json.proofs.Printed.Utf8.{IsUtf8-are_ascii}
use Rattle.serde_json.specs.Data.{Data, item}
use Rattle.serde_json.specs.Read.{of_json, of_items, max_depth}
use Rattle.serde_json.specs.View.{items_of}
use Rattle.serde_json.specs.Written.{outline, items_outline}
use Rattle.serde_json.proofs.Numbers.{number_of-decimal}
use Rattle.taskset_json.specs.Answers.{IsValue}
use Rattle.taskset_json.specs.Members.{values_of}
use Rattle.cert_json.specs.Digests.{size_of_digest, IsDigest}
use Rattle.cert_json.proofs.DigestTexts.{text_of_digest, read_again, text_is_utf8}
use Rattle.cert_json.specs.FormParts.{is_for}
use Rattle.cert_json.specs.Written.{digest_written}
use Rattle.cert_json.proofs.PlainTexts.{IsPlain, ArePlain, line_is_value}
use Rattle.cert_json.proofs.ReadBack.{each_64, dual-plain, dual-again, numbers-flat, dual_formed, dual-written, same_word, one_value}
use Rattle.refusal_laws.specs.declared.refusal.Refusal.{Refusal}
use Rattle.refusal_laws.specs.Steps.{StepDef}
use Rattle.refusal_json.specs.declared.fault.ReadFault.{ReadFault}
use Rattle.refusal_json.specs.declared.fault.ReadFault.TheVariants as fault
use Rattle.refusal_json.specs.Form.{is_step, is_refusal}
use Rattle.refusal_json.specs.Written.{step_written, steps_written}
use Rattle.refusal_json.specs.Ranges.{IsWritableStep, IsWritable}
use Rattle.refusal_json.specs.Text.{refusal_text}
use Rattle.refusal_json.specs.Value.{step_data, refusal_data}
use Rattle.refusal_json.specs.Answers.{Reads, Gives}

-- ---- its text is read as its value

step-plain : (s : StepDef) → IsWritableStep s → IsPlain (step_data s)
step-plain s h = (
  IsUtf8-are_ascii (codes "point") refl,
  (
    dual-plain s.point (each_64 s.point h.point),
    (
      IsUtf8-are_ascii (codes "task") refl,
      (h.task, (IsUtf8-are_ascii (codes "value") refl, (h.value, tt))),
    ),
  ),
)

steps-plain : (steps : List StepDef) → IsWritable steps → ArePlain (items_of (map step_data steps))
steps-plain [] h = tt
steps-plain (s ∷ steps) h =
    (step-plain s (All-head IsWritableStep s steps h), steps-plain steps (All-tail IsWritableStep s steps h))

refusal-plain : (word digest : List ℕ) (steps : List StepDef) → IsUtf8 word → IsWritable steps → IsPlain (refusal_data word digest steps)
refusal-plain word digest steps u h = (
  IsUtf8-are_ascii (codes "protocol") refl,
  (
    u,
    (
      IsUtf8-are_ascii (codes "set") refl,
      (
        text_is_utf8 digest,
        (
          IsUtf8-are_ascii (codes "steps") refl,
          (
            steps-plain steps h,
            (
              IsUtf8-are_ascii (codes "verdict") refl,
              (
                IsUtf8-are_ascii (codes "notshown") refl,
                (IsUtf8-are_ascii (codes "version") refl, (omega arith, tt)),
              ),
            ),
          ),
        ),
      ),
    ),
  ),
)

steps-flat : (steps : List StepDef) → tree.items_depth (items_outline (items_of (map step_data steps))) ≤ 3
steps-flat [] = omega arith
steps-flat (s ∷ steps) = rw (numbers-flat s.point.num) (omega (arith, steps-flat steps))

flat : (word digest : List ℕ) (steps : List StepDef) → tree.depth (outline (refusal_data word digest steps)) ≤ max_depth
flat word digest steps = omega (arith, steps-flat steps)

step-again : (s : StepDef) → IsWritableStep s → of_json (outline (step_data s)) ≡ Some (step_data s)
step-again s h =
    rw (dual-again s.point (each_64 s.point h.point), number_of-decimal s.task h.task, number_of-decimal s.value h.value) refl

steps-again : (steps : List StepDef) → IsWritable steps
    → of_items (items_outline (items_of (map step_data steps))) ≡ Some (items_of (map step_data steps))
steps-again [] h = refl
steps-again (s ∷ steps) h =
    let first : of_json (outline (step_data s)) ≡ Some (step_data s) = step-again s (All-head IsWritableStep s steps h) in
    ap₂ (λ o r. option_and_then (λ e. option_map (item e) r) o) first (steps-again steps (All-tail IsWritableStep s steps h))

again : (word digest : List ℕ) (steps : List StepDef) → IsWritable steps
    → of_json (outline (refusal_data word digest steps)) ≡ Some (refusal_data word digest steps)
again word digest steps h = rw (steps-again steps h, number_of-decimal 1 (omega arith)) refl

pub is_value : (word digest : List ℕ) (steps : List StepDef) → IsUtf8 word → IsWritable steps
    → IsValue (refusal_text word digest steps) (refusal_data word digest steps)
is_value word digest steps u h =
    line_is_value (refusal_data word digest steps) (refusal-plain word digest steps u h)
    (again word digest steps h) (flat word digest steps)

-- ---- the value has the form, and writes the refusal

are_steps : (steps : List StepDef) → IsWritable steps → list_all is_step (values_of (items_of (map step_data steps))) ≡ true
are_steps [] h = refl
are_steps (s ∷ steps) h =
    ap₂ (λ a b. a && b) (dual_formed s.point (All-head IsWritableStep s steps h).point)
    (are_steps steps (All-tail IsWritableStep s steps h))

pub formed : (word digest : List ℕ) (steps : List StepDef) → IsDigest digest → IsWritable steps
    → is_refusal (refusal_data word digest steps) ≡ true
formed word digest steps is h = rw (text_of_digest digest is, are_steps steps h) refl

step-written : (s : StepDef) → step_written (step_data s) ≡ s
step-written s = ap (λ p. record { task = s.task; value = s.value; point = p }) (dual-written s.point)

pub steps-written : (steps : List StepDef) → map step_written (values_of (items_of (map step_data steps))) ≡ steps
steps-written [] = refl
steps-written (s ∷ steps) = ap₂ (λ t l. t ∷ l) (step-written s) (steps-written steps)

pub digest-written : (word digest : List ℕ) (steps : List StepDef) → IsDigest digest
    → digest_written (refusal_data word digest steps) ≡ digest
digest-written word digest steps is = ap (λ o. unwrap_or o (replicate size_of_digest 0)) (read_again digest is)

-- ---- so it is read again

record IsWritten (word digest : List ℕ) (steps : List StepDef) : Type 0 where
  utf8 : IsUtf8 word
  bytes : IsDigest digest
  small : IsWritable steps

own_value : (word digest : List ℕ) (steps : List StepDef) → IsWritten word digest steps → (d : Data)
    → IsValue (refusal_text word digest steps) d → d ≡ refusal_data word digest steps
own_value word digest steps w d is =
    one_value (refusal_text word digest steps) d (refusal_data word digest steps) is (is_value word digest steps w.utf8 w.small)

gives_back : (word digest : List ℕ) (steps : List StepDef) (answer : Result (Refusal × List ℕ) ReadFault) → IsWritten word digest steps
    → Reads answer word (refusal_text word digest steps) → Gives answer steps digest
gives_back word digest steps (Ok given) w h =
    let same : h.0 ≡ refusal_data word digest steps = own_value word digest steps w h.0 h.1 in
    (h.2.2 ∙ ap steps_written same ∙ steps-written steps, h.2.3 ∙ ap digest_written same ∙ digest-written word digest steps w.bytes)
gives_back word digest steps (Err fault.NotJson) w h =
    absurd (h (refusal_data word digest steps) (is_value word digest steps w.utf8 w.small))
gives_back word digest steps (Err fault.Shape) w h =
    let same : h.0 ≡ refusal_data word digest steps = own_value word digest steps w h.0 h.1 in
    absurd (both_ways (is_refusal h.0) h.2 (ap is_refusal same ∙ formed word digest steps w.bytes w.small))
gives_back word digest steps (Err fault.OtherProtocol) w h =
    let same : h.0 ≡ refusal_data word digest steps = own_value word digest steps w h.0 h.1 in
    absurd (both_ways (is_for word h.0) h.2.1 (ap (is_for word) same ∙ same_word word))
gives_back word digest steps (Err fault.Memory) w h = refl

pub read_back : (word digest : List ℕ) (steps : List StepDef) (answer : Result (Refusal × List ℕ) ReadFault)
    → IsUtf8 word → IsDigest digest → IsWritable steps
    → Reads answer word (refusal_text word digest steps) → Gives answer steps digest
read_back word digest steps answer u is w h = gives_back word digest steps answer (record { utf8 = u; bytes = is; small = w }) h
