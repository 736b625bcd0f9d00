-- The least ratio of the rows so far, and one row more.
use Rattle.std.proofs.Common.{◌≡◌, inl, inr, ℕ, ◌<◌, ◌≤◌, ◌+◌, pos, ◌<ℤ◌}
use Rattle.std.proofs.Common.{Option, Some, None, subst, arith}
use Rattle.std.proofs.lemmas.Bool.{cases_eq}
use lib.Signed.{clash_ℤ}
use Rattle.fraction128.specs.Fraction.{Fraction, IsForm, IsAtMost, IsBelow, IsQuotient}
use Rattle.std.specs.Prelude.{IfSome}
use Rattle.number_laws.proofs.Order.{weaker}
use Rattle.exchange_runs.specs.Table.{Table}
use Rattle.exchange_runs.specs.Exchange.{HasRatio, IsRatio}
use Rattle.fraction128.specs.Gives.{HasNoForm}
use Rattle.exchange_runs.specs.WideExchange.{IsWideRatio}
use Rattle.exchange_runs.proofs.Loops.{least_skip}
use Rattle.simplex.specs.Choice.{IsLeastSoFar}

-- the lesser ratio comes first, whatever the basic variables are
pub below_comes : (g f : Fraction) (j i : ℕ) → IsBelow g f → IsAtMost g f × (IsAtMost f g → j ≤ i)
below_comes g f j i h = (record { le = weaker h.lt }, λ k. clash_ℤ h.lt k.le)

-- a row that has no ratio changes nothing
pub no_more : (place : ℕ) (t : Table) (e i : ℕ) (best : Option (ℕ × Fraction)) → IsLeastSoFar place t e i best → (HasRatio t e i → ⊥)
    → IsLeastSoFar place t e (i + 1) best
no_more place t e i None so_far not = λ k l above. elim (cases_eq k i) [
  | inl here ↦ not (subst (λ (n : ℕ). HasRatio t e n) here above)
  | inr other ↦ so_far k (omega arith) above
]
no_more place t e i (Some best) so_far not = least_skip place t e i best.0 best.1 so_far not

-- a ratio, and that there is one, at the cells that were read
pub ratio_read : (place : ℕ) (t : Table) (e i : ℕ) (a b f : Fraction) → a ≡ t.cell i place → b ≡ t.cell i e → IsForm f
    → IsQuotient a b f → IsRatio place t e i f
ratio_read place t e i a b f p q form h = record {
  form = form;
  quotient = subst (λ (y : Fraction). IsQuotient (t.cell i place) y f) q (subst (λ (x : Fraction). IsQuotient x b f) p h);
}

pub has_read : (t : Table) (e i : ℕ) (b : Fraction) → b ≡ t.cell i e → pos 0 <ℤ b.num → HasRatio t e i
has_read t e i b q h = record { above = subst (λ (y : Fraction). pos 0 <ℤ y.num) q h }

-- the least so far is of a row so far
pub so_far_within : (place : ℕ) (t : Table) (e k : ℕ) (best : Option (ℕ × Fraction)) → IsLeastSoFar place t e k best
    → IfSome best (λ b. b.0 < k)
so_far_within place t e k None h = tt
so_far_within place t e k (Some best) h = h.within

-- a ratio that has no form, at the cells that were read
pub wide_ratio : (place : ℕ) (t : Table) (e i k : ℕ) (a b : Fraction) → a ≡ t.cell i place → b ≡ t.cell i e → i < k
    → HasRatio t e i → HasNoForm (IsQuotient a b)
    → IsWideRatio place k t e
wide_ratio place t e i k a b p q l has h = record {
  of_row = i;
  within = l;
  has = has;
  wide = subst (λ (y : Fraction). HasNoForm (IsQuotient (t.cell i place) y)) q (subst (λ (x : Fraction). HasNoForm (IsQuotient x b)) p h);
}
