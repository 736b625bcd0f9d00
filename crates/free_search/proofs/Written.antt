-- Coefficients written at their columns.
use Rattle.std.proofs.Common.{◌≡◌, inl, inr, ℕ, ◌+◌, ◌<◌, List, ◌++◌, length, take, drop, set, slice_index_or, ℤ, pos}
use Rattle.std.proofs.Common.{sym, ◌∙◌, ap, arith, get_or-set_same, get_or-set_other}
use Rattle.std.proofs.lemmas.Bool.{cases_eq}
use Rattle.std.proofs.lemmas.List.{append-nil, take_more}
use Rattle.std.proofs.Math.Seq.{take-length}
use Rattle.std.proofs.Math.ListN.{drop_of_length-le}
use Rattle.program_form.specs.SparseRows.{number_at, coefficient_at, AreCoefficients}
use Rattle.program_form.specs.declared.sparse_rows.Coefficient.{Coefficient}
use Rattle.program_form.proofs.Coefficients.{number_push, number_push_other, coefficients_before}

-- what a slice of a whole list leaves
pub refilled : (n : ℕ) (xs ws : List ℤ) → n ≡ length xs → length ws ≡ n → take n (ws ++ drop (length ws) xs) ≡ ws
refilled n xs ws long same =
    ap (λ (rest : List ℤ). take n (ws ++ rest)) (drop_of_length-le xs (omega arith))
    ∙ (ap (take n) (append-nil ws) ∙ (ap (λ (m : ℕ). take m ws) (sym same) ∙ take-length ws))

-- one coefficient more is written at its column
pub written_more : (n i v : ℕ) (cs : List Coefficient) (nums : List ℤ) (x : ℤ) → AreCoefficients n cs → i < length cs
    → (coefficient_at cs i).column < length nums → x ≡ pos (coefficient_at cs i).number
    → ((v : ℕ) → slice_index_or nums v (pos 0) ≡ pos (number_at (take i cs) v))
    → slice_index_or (set nums (coefficient_at cs i).column x) v (pos 0) ≡ pos (number_at (take (i + 1) cs) v)
written_more n i v cs nums x are l within is h =
    let c = coefficient_at cs i in
    rw (take_more cs i (record { column = 0; number = 0 }) l) (elim (cases_eq v c.column) [
      | inl here ↦
          rw (here, get_or-set_same nums c.column x (pos 0) within)
          (is ∙ ap pos (sym (number_push (take i cs) c (coefficients_before n cs i are l))))
      | inr other ↦
          get_or-set_other nums c.column v x (pos 0) other
          ∙ (h v ∙ ap pos (sym (number_push_other (take i cs) c v (λ q. other (sym q)))))
    ])
