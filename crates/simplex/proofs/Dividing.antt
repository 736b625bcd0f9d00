-- A list of nonzero cells while each value is divided.
use Rattle.std.proofs.Common.{◌≡◌, ◌≢◌, inl, inr, ℕ, ◌+◌, ◌<◌, List, length, pos, ◌*ℤ◌, refl, sym}
use Rattle.std.proofs.Common.{ap, ◌∙◌, arith, [], ◌∷◌, ◌++◌}
use Rattle.std.proofs.lemmas.Bool.{cases_eq}
use Rattle.fraction128.proofs.Unique.{apart_of_positive}
use Rattle.number_laws.proofs.Ring.{zero-mul}
use Rattle.number_laws.proofs.Order.{times_apart}
use Rattle.fraction128.specs.Fraction.{Fraction, IsForm, IsQuotient, whole}
use Rattle.fraction128.specs.Gives.{HasNoForm}
use Rattle.exchange_runs.proofs.Loops.{quotient_of_zero}
use Rattle.simplex.specs.Entries.{listed_at, entry_at, AreSparse, AreBelow}
use Rattle.simplex.specs.CellSteps.{AreDivided}
use Rattle.simplex.specs.declared.entries.Entry.{Entry}
use Rattle.std.proofs.lemmas.List.{length_push}
use Rattle.simplex.proofs.Listed.{listed_entry, listed_none, found_or_none, push_entry, push_earlier}

-- the first i values are divided
pub record AreDividedTo (i : ℕ) (before now : List Entry) (by : Fraction) : Type 0 where
  pub as_many : length now ≡ i
  pub variables : (k : ℕ) → k < i → (entry_at now k).variable ≡ (entry_at before k).variable
  pub forms : (k : ℕ) → k < i → IsForm (entry_at now k).value
  pub quotients : (k : ℕ) → k < i → IsQuotient (entry_at before k).value by (entry_at now k).value

pub divided_more : (i : ℕ) (before now : List Entry) (by f : Fraction) (e : Entry) → AreDividedTo i before now by → entry_at before i ≡ e
    → IsForm f → IsQuotient e.value by f → AreDividedTo (i + 1) before (now ++ record { variable = e.variable; value = f } ∷ []) by
divided_more i before now by f e h read form is =
    let own : Entry = record { variable = e.variable; value = f } in
    let last : entry_at (now ++ own ∷ []) i ≡ own = rw (← h.as_many) (push_entry now own) in
    record {
      as_many = length_push now own ∙ ap (λ n. n + 1) h.as_many;
      variables = λ k lk. elim (cases_eq k i) [
        | inl same ↦ rw (same, last, read) refl
        | inr other ↦ rw (push_earlier now own k (omega (arith, h.as_many))) (h.variables k (omega arith))
      ];
      forms = λ k lk. elim (cases_eq k i) [
        | inl same ↦ rw (same, last) form
        | inr other ↦ rw (push_earlier now own k (omega (arith, h.as_many))) (h.forms k (omega arith))
      ];
      quotients = λ k lk. elim (cases_eq k i) [
        | inl same ↦ rw (same, last, read) is
        | inr other ↦ rw (push_earlier now own k (omega (arith, h.as_many))) (h.quotients k (omega arith))
      ];
    }

-- what isn't zero isn't zero when it is divided
quotient_apart : (a b c : Fraction) → IsForm b → IsForm c → a.num ≢ pos 0 → IsQuotient a b c → c.num ≢ pos 0
quotient_apart a b c hb hc some is none =
    times_apart (a.num *ℤ b.den) c.den
    (times_apart a.num b.den some (apart_of_positive b.den hb.positive)) (apart_of_positive c.den hc.positive)
    (sym is.same ∙ (ap (λ x. x *ℤ (a.den *ℤ b.num)) none ∙ zero-mul (a.den *ℤ b.num)))

module _ (i : ℕ) (before now : List Entry) (by : Fraction) (end : length before ≡ i) (h : AreSparse before) (form : IsForm by)
    (is : AreDividedTo i before now by) where
  pub divided_sparse : AreSparse now
  divided_sparse = record {
    rise = λ m j l lj.
        rw (is.variables m (omega (arith, is.as_many)), is.variables j (omega (arith, is.as_many)))
        (h.rise m j l (omega (arith, is.as_many)));
    forms = λ k l. is.forms k (omega (arith, is.as_many));
    nonzero = λ k l.
        let within : k < i = omega (arith, is.as_many) in
        quotient_apart (entry_at before k).value by (entry_at now k).value form (is.forms k within)
        (h.nonzero k (omega arith)) (is.quotients k within);
  }

  pub divided_whole : AreDivided before by now
  divided_whole = record {
    sparse = divided_sparse;
    below = λ most low k l. rw (is.variables k (omega (arith, is.as_many))) (low k (omega (arith, is.as_many)));
    quotient = λ v. elim (found_or_none before v) [
      | inl there ↦
          let within : there.0 < i = omega (arith, there.1) in
          rw (
            listed_entry before there.0 v h.rise there.1 there.2,
            listed_entry now there.0 v divided_sparse.rise (omega (arith, is.as_many)) (is.variables there.0 within ∙ there.2),
          )
          (is.quotients there.0 within)
      | inr none ↦
          let away : (k : ℕ) → k < length now → (entry_at now k).variable ≢ v
          = λ k l q. none k (omega (arith, is.as_many)) (sym (is.variables k (omega (arith, is.as_many))) ∙ q) in
          rw (listed_none before v none, listed_none now v away) (quotient_of_zero (whole (pos 0)) by refl)
    ];
  }

-- a quotient that has no form is one of the list
pub wide_divided : (i : ℕ) (before : List Entry) (by : Fraction) (e : Entry) → AreSparse before → i < length before
    → entry_at before i ≡ e → HasNoForm (IsQuotient e.value by)
    → (v : ℕ) × ((end : ℕ) → AreBelow end before → v < end) × HasNoForm (IsQuotient (listed_at before v) by)
wide_divided i before by e h l read wide = (
  (entry_at before i).variable,
  λ end low. low i l,
  rw (listed_entry before i (entry_at before i).variable h.rise l refl, read) wide,
)
