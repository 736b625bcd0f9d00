-- What the columns lack once one coefficient more, or one row more, is taken from them.
use Rattle.std.proofs.Common.{add-one, ◌≡◌, ◌≢◌, ◌∙◌, ℕ, ◌+◌, ◌-◌, ◌*◌, ◌<◌, List, [], ◌∷◌, ◌++◌, length, take, set, slice_index, refl, sym, ap, arith, inl, inr}
use Rattle.std.proofs.Common.{get_or-set_same, get_or-set_other}
use Rattle.std.proofs.lemmas.Bool.{cases_eq}
use Rattle.std.proofs.lemmas.List.{take_more}
use Rattle.program_form.specs.Certificate.{DualDef}
use Rattle.program_form.specs.Program.{ProgramDef, columns, row, entry}
use Rattle.program_form.specs.SparseRows.{number_at, full_row, coefficient_at, AreCoefficients}
use Rattle.program_form.specs.declared.sparse_rows.Coefficient.{Coefficient}
use Rattle.program_form.proofs.Coefficients.{coefficients_before, number_past, number_push, number_push_other, full_row_at}
use Rattle.dual_check.specs.Lacks.{lack, AreLacking}

-- The first k coefficients and the next.
one_more : (cs : List Coefficient) (k : ℕ) → k < length cs → take (k + 1) cs ≡ take k cs ++ coefficient_at cs k ∷ []
one_more cs k below = take_more cs k (record { column = 0; number = 0 }) below

-- The next has its number at its own column, at which the first k have none.
number_here : (n : ℕ) (cs : List Coefficient) (k : ℕ) → AreCoefficients n cs → k < length cs
    → number_at (take (k + 1) cs) (coefficient_at cs k).column ≡ (coefficient_at cs k).number
number_here n cs k are below = rw (one_more cs k below) (number_push (take k cs) (coefficient_at cs k) (coefficients_before n cs k are below))

number_before : (n : ℕ) (cs : List Coefficient) (k : ℕ) → AreCoefficients n cs → k < length cs
    → number_at (take k cs) (coefficient_at cs k).column ≡ 0
number_before n cs k are below =
    let c : ℕ = (coefficient_at cs k).column in
    number_past c (take k cs) c (coefficients_before n cs k are below) (omega arith)

-- At all other columns it changes nothing.
number_away : (cs : List Coefficient) (k v : ℕ) → k < length cs → (coefficient_at cs k).column ≢ v
    → number_at (take (k + 1) cs) v ≡ number_at (take k cs) v
number_away cs k v below away = rw (one_more cs k below) (number_push_other (take k cs) (coefficient_at cs k) v away)

taken_away : (x m a b : ℕ) → a ≡ 0 → (x - m * a) - m * b ≡ x - m * b
taken_away x m a b none = rw none (omega arith)

-- One coefficient more is taken.
pub one_more_taken : (xs lacks : List ℕ) (cs : List Coefficient) (m k : ℕ) → AreCoefficients (length xs) cs → k < length cs
    → length lacks ≡ length xs → ((v : ℕ) → slice_index lacks v ≡ slice_index xs v - m * number_at (take k cs) v)
    → (v : ℕ) → slice_index
    (set lacks (coefficient_at cs k).column (slice_index lacks (coefficient_at cs k).column - m * (coefficient_at cs k).number)) v
    ≡ slice_index xs v - m * number_at (take (k + 1) cs) v
one_more_taken xs lacks cs m k are below long each v =
    let c : ℕ = (coefficient_at cs k).column in
    let x : ℕ = (coefficient_at cs k).number in
    let within : c < length lacks = omega (arith, are.below k below, long) in
    let next : ℕ = slice_index lacks c - m * x in
    elim (cases_eq v c) [
      | inl here ↦
          let new : slice_index (set lacks c next) c ≡ next = get_or-set_same lacks c next 0 within in
          let before : slice_index lacks c ≡ slice_index xs c - m * number_at (take k cs) c = each c in
          let all : next ≡ slice_index xs c - m * x =
          ap (λ n. n - m * x) before ∙ taken_away (slice_index xs c) m (number_at (take k cs) c) x (number_before (length xs) cs k are below) in
          rw (here, number_here (length xs) cs k are below) (new ∙ all)
      | inr away ↦
          let other : c ≢ v = λ same. away (sym same) in
          rw (number_away cs k v below other) (get_or-set_other lacks c v next 0 away ∙ each v)
    ]

-- One more row is taken, times its numerator.
pub one_more_row : (p : ProgramDef) (d : DualDef) (n m : ℕ) (before lacks : List ℕ) (cs : List Coefficient) → AreLacking p d n before
    → m ≡ slice_index d.num n → full_row (columns p) cs ≡ row p n → length lacks ≡ length before
    → ((k : ℕ) → slice_index lacks k ≡ slice_index before k - m * number_at cs k) → AreLacking p d (n + 1) lacks
one_more_row p d n m before lacks cs are is listed long each = record {
  one_each = long ∙ are.one_each;
  each = λ k below.
      let number : number_at cs k ≡ entry p n k = sym (full_row_at (columns p) cs k below) ∙ ap (λ xs. slice_index xs k) listed in
      let taken : m * number_at cs k ≡ slice_index d.num n * entry p n k = rw (is, number) refl in
      let up : lack p d (n + 1) k ≡ lack p d n k - slice_index d.num n * entry p n k = rw add-one (omega arith) in
      each k ∙ rw (are.each k below, taken, up) refl;
}
