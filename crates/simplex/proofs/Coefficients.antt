-- The coefficients of a row as cells of the first table.
use Rattle.std.proofs.Common.{◌≡◌, inl, inr, ℕ, ◌<◌, ◌≤◌, ◌^◌, List, [], ◌∷◌, map, length, slice_index, slice_index_or, pos}
use Rattle.std.proofs.Common.{refl, sym, ◌∙◌, ap, arith}
use Rattle.std.proofs.lemmas.Bool.{cases_eq, eq-eqb, ne_eqb}
use Rattle.std.proofs.lemmas.List.{length-map, get_or-map, get_or_default}
use Rattle.fraction128.specs.Fraction.{whole}
use Rattle.fraction128.proofs.Forms.{form_of_whole}
use Rattle.program_form.specs.Program.{ProgramDef, IsProgram, columns, height, row, entry}
use Rattle.program_form.specs.SparseRows.{number_at, full_row, coefficient_at, AreCoefficients}
use Rattle.program_form.specs.declared.sparse_rows.Coefficient.{Coefficient}
use Rattle.program_form.proofs.Coefficients.{number_listed, full_row_at}
use Rattle.exchange_runs.proofs.FirstTable.{number_at_column}
use Rattle.simplex.specs.Entries.{listed_at, entry_at}
use Rattle.simplex.specs.Starts.{AreFirstEntries}
use Rattle.simplex.specs.declared.entries.Entry.{Entry}
use Rattle.simplex.proofs.Ending.{whole_apart}
use Rattle.simplex.proofs.Listed.{nothing}

-- a coefficient as a cell
abbrev pub entry_of : Coefficient → Entry
entry_of c = record { variable = c.column; value = whole (pos c.number) }

abbrev pub entries_of : List Coefficient → List Entry
entries_of cs = map entry_of cs

-- what is listed at a column
listed_number : (cs : List Coefficient) (v : ℕ) → listed_at (entries_of cs) v ≡ whole (pos (number_at cs v))
listed_number [] v = refl
listed_number (c ∷ cs) v = elim (cases_eq c.column v) [
  | inl here ↦ rw (eq-eqb c.column v here) refl
  | inr away ↦ rw (ne_eqb c.column v away) (listed_number cs v)
]

entry_is : (cs : List Coefficient) (k : ℕ) → k < length (entries_of cs) → entry_at (entries_of cs) k ≡ entry_of (coefficient_at cs k)
entry_is cs k l = get_or-map entry_of cs k (record { column = 0; number = 0 }) nothing (omega (arith, l, length-map cs entry_of))

-- the coefficient of a row at a column that is listed
number_of_row : (p : ProgramDef) (r : ℕ) (cs : List Coefficient) (v : ℕ) → v < columns p → full_row (columns p) cs ≡ row p r
    → number_at cs v ≡ entry p r v
number_of_row p r cs v l full = sym (full_row_at (columns p) cs v l) ∙ ap (λ (xs : List ℕ). slice_index xs v) full

-- a coefficient can be held by a `Frac`
pub coefficient_small : (p : ProgramDef) (r : ℕ) (cs : List Coefficient) (k : ℕ) (d : Coefficient) → IsProgram p
    → AreCoefficients (columns p) cs → full_row (columns p) cs ≡ row p r → k < length cs → (slice_index_or cs k d).number < 2 ^ 63
coefficient_small p r cs k d is h full l =
    let v = (coefficient_at cs k).column in
    let own : (coefficient_at cs k).number ≡ entry p r v
    = sym (number_listed (columns p) cs k h l) ∙ number_of_row p r cs v (h.below k l) full in
    let small : entry p r v ≤ 9223372036854775807 = is.small.entries r v in
    rw (get_or_default cs k d (record { column = 0; number = 0 }) l) (omega (arith, own, small))

-- the coefficients of a row are the nonzero numbers of its columns in the first table
pub first_entries : (p : ProgramDef) (r : ℕ) (cs : List Coefficient) → IsProgram p → r < height p
    → AreCoefficients (columns p) cs → full_row (columns p) cs ≡ row p r → AreFirstEntries p r (columns p) (entries_of cs)
first_entries p r cs is l h full = record {
  sparse = record {
    rise = λ j k lj lk.
        let inside : k < length cs = omega (arith, lk, length-map cs entry_of) in
        rw (entry_is cs j (omega arith), entry_is cs k lk) (h.rise j k lj inside);
    forms = λ k lk.
        let inside : k < length cs = omega (arith, lk, length-map cs entry_of) in
        rw (entry_is cs k lk)
        (form_of_whole (coefficient_at cs k).number
        (coefficient_small p r cs k (record { column = 0; number = 0 }) is h full inside));
    nonzero = λ k lk.
        let inside : k < length cs = omega (arith, lk, length-map cs entry_of) in
        let above = h.nonzero k inside in
        rw (entry_is cs k lk)
        (whole_apart (coefficient_at cs k).number (whole (pos (coefficient_at cs k).number)) refl (λ q. omega (arith, q, above)));
  };
  below = λ k lk.
      let inside : k < length cs = omega (arith, lk, length-map cs entry_of) in
      rw (entry_is cs k lk) (h.below k inside);
  numbers = λ v lv.
      listed_number cs v ∙ ap (λ m. whole (pos m)) (number_of_row p r cs v lv full ∙ sym (number_at_column p r v l lv));
}
