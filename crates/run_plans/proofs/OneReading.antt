-- A reader reads bytes in one way if it says one thing of their value, and one thing if they have none.
use Rattle.std.proofs.Common.{◌≡◌, ℕ, List, sym, ◌∙◌, ap, inl, inr, ◌⊎◌, Err}
use Rattle.std.specs.Prelude.{Result}
use Rattle.std.proofs.lemmas.Option.{same_Some}
use Rattle.serde_json.specs.Data.{Data}
use Rattle.taskset_json.specs.Answers.{IsValue}

-- The bytes have a value, and the answer is the judgement on it.
pub record IsOfValue {A R : Type 0} (judgement : Data → Result A R) (r : Result A R) (bytes : List ℕ) : Type 0 where
  pub value : Data
  pub is_value : IsValue bytes value
  pub is : r ≡ judgement value

-- The bytes have no value, and the answer is the refusal that says so.
pub record IsOfNone {A R : Type 0} (not_json : R) (r : Result A R) (bytes : List ℕ) : Type 0 where
  pub none : (d : Data) → IsValue bytes d → ⊥
  pub is : r ≡ Err not_json

abbrev pub Says : {A R : Type 0} → R → (Data → Result A R) → Result A R → List ℕ → Type 0
Says not_json judgement r bytes = IsOfNone not_json r bytes ⊎ IsOfValue judgement r bytes

pub one_saying : {A R : Type 0} (not_json : R) (judgement : Data → Result A R) (r s : Result A R) (bytes : List ℕ)
    → Says not_json judgement r bytes → Says not_json judgement s bytes → r ≡ s
one_saying not_json judgement r s bytes (inl x) (inl y) = x.is ∙ sym y.is
one_saying not_json judgement r s bytes (inl x) (inr y) = absurd (x.none y.value y.is_value)
one_saying not_json judgement r s bytes (inr x) (inl y) = absurd (y.none x.value x.is_value)
one_saying not_json judgement r s bytes (inr x) (inr y) =
    let same : x.value ≡ y.value = same_Some x.value y.value (sym x.is_value.1 ∙ y.is_value.1) in
    x.is ∙ ap judgement same ∙ sym y.is
