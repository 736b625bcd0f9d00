-- What is read has small points.
use Rattle.std.proofs.Common.{◌≡◌, ℕ, true, false, List, [], ◌∷◌, map, Option, Some, None, unwrap_or, Result, Ok, Err}
use Rattle.std.proofs.Common.{sym, subst, codes, All, IfOk}
use Rattle.std.proofs.lemmas.Bool.{and_parts}
use Rattle.std.proofs.lemmas.List.Elements.{All-nil, All-cons}
use Rattle.std.specs.List.{list_all}
use Rattle.std.specs.Option.{option_map_or}
use Rattle.serde_json.specs.Data.{Data, null}
use Rattle.serde_json.specs.Find.{get}
use Rattle.taskset_json.specs.Members.{text_at, list_at}
use Rattle.taskset_json.specs.Form.{is_object_of}
use Rattle.cert_json.specs.Digests.{is_digest_text}
use Rattle.cert_json.specs.Form.{is_dual}
use Rattle.cert_json.specs.Written.{dual_written}
use Rattle.cert_json.specs.Ranges.{IsSmallDual}
use Rattle.cert_json.proofs.SmallDuals.{small_dual}
use Rattle.refusal_laws.specs.declared.refusal.Refusal.{Refusal}
use Rattle.refusal_laws.specs.Steps.{StepDef}
use Rattle.refusal_laws.specs.Seen.{steps_seen}
use Rattle.refusal_json.specs.declared.fault.ReadFault.{ReadFault}
use Rattle.refusal_json.specs.Form.{refusal_form, step_form, is_step, is_version, is_verdict_word, is_refusal}
use Rattle.refusal_json.specs.Written.{step_written, steps_written}
use Rattle.refusal_json.specs.Ranges.{HasSmallPoints}
use Rattle.refusal_json.specs.Answers.{JudgesValue}

abbrev IsSmallStep : StepDef → Type 0
IsSmallStep s = IsSmallDual s.point

small_point : (o : Option Data) → option_map_or is_dual o false ≡ true → IsSmallDual (dual_written (unwrap_or o null))
small_point None h = absurd (cc)
small_point (Some d) h = small_dual d h

small_steps : (ds : List Data) → list_all is_step ds ≡ true → All IsSmallStep (map step_written ds)
small_steps [] h = All-nil IsSmallStep
small_steps (d ∷ ds) h =
    let first = and_parts (is_step d) _ h in
    let parts = and_parts (is_object_of step_form d) _ first.0 in
    All-cons IsSmallStep (step_written d) (map step_written ds) (small_point (get (codes "point") d) parts.1) (small_steps ds first.1)

small_of_form : (d : Data) → is_refusal d ≡ true → HasSmallPoints (steps_written d)
small_of_form d h =
    let members = and_parts (is_object_of refusal_form d) _ h in
    let digest = and_parts (is_digest_text (text_at (codes "set") d)) _ members.1 in
    let verdict = and_parts (is_verdict_word (text_at (codes "verdict") d)) _ digest.1 in
    small_steps (list_at (codes "steps") d) (and_parts (is_version d) _ verdict.1).1

pub small_if_judged : (r : Result (Refusal × List ℕ) ReadFault) (word : List ℕ) (d : Data) → JudgesValue r word d
    → IfOk r (λ given. HasSmallPoints (steps_seen given.0))
small_if_judged (Ok given) word d h = subst HasSmallPoints (sym h.2) (small_of_form d h.0)
small_if_judged (Err f) word d h = tt
