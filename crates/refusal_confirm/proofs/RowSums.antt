-- What a row comes to: its coefficients that aren't zero, each times the number of its column.
use Rattle.std.proofs.Common.{◌≡◌, ◌≢◌, ◌∙◌, ℕ, ◌+◌, ◌*◌, ◌<◌, List, [], ◌∷◌, ◌++◌, length, take, slice_index, refl, sym, ap, arith, inl, inr}
use Rattle.std.proofs.lemmas.Bool.{cases_eq}
use Rattle.std.proofs.lemmas.List.{take_more}
use Rattle.number_laws.specs.Sums.{sum_below}
use Rattle.number_laws.proofs.SumLaws.{sum_below-zero, sum_below-agree, sum_below-plus, sum_below-one}
use Rattle.program_form.specs.Program.{ProgramDef, columns, row, entry}
use Rattle.program_form.specs.SparseRows.{number_at, full_row, coefficient_at, AreCoefficients}
use Rattle.program_form.specs.declared.sparse_rows.Coefficient.{Coefficient}
use Rattle.program_form.proofs.Coefficients.{coefficients_none, coefficients_before, number_past, number_push, number_push_other, full_row_at}

-- A coefficient by itself has its number at its column, and zero at all others.
own_number : (c : Coefficient) → number_at (c ∷ []) c.column ≡ c.number
own_number c = number_push [] c (coefficients_none c.column)

own_zero : (c : Coefficient) (v : ℕ) → c.column ≢ v → number_at (c ∷ []) v ≡ 0
own_zero c v away = number_push_other [] c v away

-- Behind coefficients of columns below its own it adds that.
number_more : (cs : List Coefficient) (c : Coefficient) (v : ℕ) → AreCoefficients c.column cs
    → number_at (cs ++ c ∷ []) v ≡ number_at cs v + number_at (c ∷ []) v
number_more cs c v below = elim (cases_eq v c.column) [
  | inl here ↦
      let none : number_at cs c.column ≡ 0 = number_past c.column cs c.column below (omega arith) in
      rw here (omega (arith, number_push cs c below, none, own_number c))
  | inr away ↦
      let other : c.column ≢ v = λ same. away (sym same) in
      omega (arith, number_push_other cs c v other, own_zero c v other)
]

nothing : (m n : ℕ) → m ≡ 0 → m * n ≡ 0
nothing m n none = rw none (omega arith)

-- No coefficient makes nothing.
pub no_term : (n : ℕ) (f : ℕ → ℕ) → sum_below n (λ v. number_at [] v * f v) ≡ 0
no_term n f = sum_below-zero n (λ v. number_at [] v * f v) (λ v here. nothing 0 (f v) refl)

-- One coefficient more adds its own term.
pub one_more_term : (n : ℕ) (f : ℕ → ℕ) (cs : List Coefficient) (k : ℕ) → AreCoefficients n cs → k < length cs
    → sum_below n (λ v. number_at (take (k + 1) cs) v * f v)
    ≡ sum_below n (λ v. number_at (take k cs) v * f v) + (coefficient_at cs k).number * f (coefficient_at cs k).column
one_more_term n f cs k are below =
    let c : Coefficient = coefficient_at cs k in
    let before : List Coefficient = take k cs in
    let grown : take (k + 1) cs ≡ before ++ c ∷ [] = take_more cs k (record { column = 0; number = 0 }) below in
    let each : (v : ℕ) → number_at (before ++ c ∷ []) v * f v ≡ number_at before v * f v + number_at (c ∷ []) v * f v =
    λ v. rw (number_more before c v (coefficients_before n cs k are below)) (omega arith) in
    let both = sum_below-agree n (λ v. number_at (before ++ c ∷ []) v * f v) (λ v. number_at before v * f v + number_at (c ∷ []) v * f v)
    (λ v here. each v) ∙ sum_below-plus n (λ v. number_at before v * f v) (λ v. number_at (c ∷ []) v * f v) in
    let own : sum_below n (λ v. number_at (c ∷ []) v * f v) ≡ c.number * f c.column =
    sum_below-one n (λ v. number_at (c ∷ []) v * f v) c.column (are.below k below)
    (λ v here other. nothing (number_at (c ∷ []) v) (f v) (own_zero c v (λ same. other (sym same)))) ∙ ap (λ m. m * f c.column) (own_number c) in
    rw grown (both ∙ ap (λ m. sum_below n (λ v. number_at before v * f v) + m) own)

-- All its coefficients together make what the row comes to over all columns.
pub row_sum_is : (p : ProgramDef) (r n : ℕ) (f : ℕ → ℕ) (cs : List Coefficient) → n ≡ columns p → full_row (columns p) cs ≡ row p r
    → sum_below n (λ v. number_at cs v * f v) ≡ sum_below (columns p) (λ v. entry p r v * f v)
row_sum_is p r n f cs size is = rw size (sum_below-agree (columns p) (λ v. number_at cs v * f v) (λ v. entry p r v * f v)
    (λ v here. ap (λ m. m * f v) (sym (full_row_at (columns p) cs v here) ∙ ap (λ xs. slice_index xs v) is)))
