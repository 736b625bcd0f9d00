-- Rows from which the pivot row is taken one after another.
use Rattle.std.proofs.Common.{◌≡◌, ◌≢◌, inl, inr, ℕ, ◌+◌, ◌<◌, List, length, refl, sym, ap, ◌∙◌, subst, arith}
use Rattle.std.proofs.lemmas.Bool.{cases_eq}
use Rattle.whole_rows.specs.Rows.{RowDef, PivotDef, AreBelow, IsPivotOf}
use Rattle.free_search.specs.RowSteps.{IsTaken}
use Rattle.free_search.specs.Exchanges.{AreTakenTo, ExchangesRows}
use Rattle.free_search.specs.Rows.{IsDividedRow, IsLeftRow}
use Rattle.free_search.specs.Tables.{row_at, HavePlaces}

-- before any is taken from
pub taken_none : (rows : List RowDef) (k r : ℕ) (pivot : PivotDef) → AreTakenTo 0 rows rows k r pivot
taken_none rows k r pivot = record {
  as_many = refl;
  taken = λ i l. absurd (omega arith);
  own = refl;
  rest = λ i l. refl;
}

-- one row more
pub taken_more : (n : ℕ) (before rows next : List RowDef) (k r : ℕ) (pivot : PivotDef) → AreTakenTo n before rows k r pivot
    → length next ≡ length rows → ((j : ℕ) → j ≢ n → row_at next j ≡ row_at rows j) → (n ≡ r → row_at next n ≡ row_at rows n)
    → (n ≢ r → IsTaken (row_at rows n) k pivot (row_at next n)) → AreTakenTo (n + 1) before next k r pivot
taken_more n before rows next k r pivot h many others own left = record {
  as_many = many ∙ h.as_many;
  taken = λ i l away. elim (cases_eq i n) [
    | inl here ↦
        rw here
        (subst (λ (row : RowDef). IsTaken row k pivot (row_at next n)) (h.rest n (omega arith)) (left (λ same. away (here ∙ same))))
    | inr apart ↦
        subst (λ (row : RowDef). IsTaken (row_at before i) k pivot row) (sym (others i apart)) (h.taken i (omega arith) away)
  ];
  own = elim (cases_eq n r) [
    | inl here ↦ ap (row_at next) (sym here) ∙ (own here ∙ (ap (row_at rows) here ∙ h.own))
    | inr away ↦ others r (λ same. away (sym same)) ∙ h.own
  ];
  rest = λ i l. others i (λ same. omega arith) ∙ h.rest i (omega arith);
}

module _ (before divided : List RowDef) (k r : ℕ) (pivot : PivotDef) (as_many : length divided ≡ length before)
    (is : IsDividedRow (row_at before r) k (row_at divided r)) (others : (i : ℕ) → i ≢ r → row_at divided i ≡ row_at before i)
    (is_pivot : IsPivotOf pivot (row_at divided r)) where
  -- the divided row has as many places as before
  pub places_divided : (n : ℕ) → r < length before → HavePlaces n before → HavePlaces n divided
  places_divided n l places i li = elim (cases_eq i r) [
    | inl here ↦ rw here (is.as_many ∙ places r l)
    | inr away ↦ rw (others i away) (places i (omega arith))
  ]

  pub below_divided : (n : ℕ) → r < length before → HavePlaces n before → AreBelow n pivot.entries
  below_divided n l places =
      subst (λ (m : ℕ). AreBelow m pivot.entries) (places_divided n l places r (omega arith)) is_pivot.below

  -- and so the rows after the exchange
  pub exchanged_rows : (after : List RowDef) → r < length before → AreTakenTo (length divided) divided after k r pivot
      → ExchangesRows before after k r pivot
  exchanged_rows after l h = (
    record {
      as_many = h.as_many ∙ as_many;
      divided = rw h.own is;
      taken = λ i li away.
          rw h.own (subst (λ (row : RowDef). IsLeftRow row k (row_at divided r) (row_at after i)) (others i away)
          (h.taken i (omega arith) away (row_at divided r) is_pivot is.positive));
    },
    rw h.own is_pivot,
  )
