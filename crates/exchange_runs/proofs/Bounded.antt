-- No program is unbounded: where a variable enters a table of a run, some row has a ratio.
use Rattle.std.proofs.Common.{◌≡◌, ◌⊎◌, inl, inr, ℕ, zero, suc, ◌+◌, ◌-◌, ◌<◌, ℤ, pos, ◌≤ℤ◌, ◌<ℤ◌, ◌∙◌, sym, subst, arith}
use Rattle.std.proofs.lemmas.Int.{ints, by_lt_z}
use Rattle.std.proofs.lemmas.Bool.{cases_lt}
use Rattle.number_laws.proofs.Order.{above_zero, not_negative}
use Rattle.number_laws.proofs.TotalLaws.{only_at-here}
use Rattle.program_form.specs.Program.{ProgramDef, IsProgram, IsCovered, columns, height}
use Rattle.exchange_runs.specs.Table.{Table, variables}
use Rattle.exchange_runs.specs.Exchange.{HasRatio}
use Rattle.exchange_runs.specs.Run.{Reached}
use Rattle.exchange_runs.proofs.Shown.{shows_at_most_zero}
use Rattle.exchange_runs.proofs.Invariants.{never_unbounded}
use Rattle.exchange_runs.proofs.FirstTable.{first_z, has_slacks, number_at_column}
use Rattle.exchange_runs.proofs.Shadows.{IsShadow, shadow_reached}

-- Of the rows below m one has a ratio, or no cell is above zero.
pub some_ratio : (m : ℕ) (t : Table) (e : ℕ) → ((i : ℕ) × (i < m) × HasRatio t e i) ⊎ ((i : ℕ) → i < m → (t.cell i e).num ≤ℤ pos 0)
some_ratio zero t e = inr (λ i l. absurd (omega arith))
some_ratio (suc m) t e = elim (some_ratio m t e) [
  | inl there ↦ inl (there.0, omega (arith, there.1), there.2)
  | inr none ↦ by_lt_z (pos 0) (t.cell m e).num
      (λ above. inl (m, omega arith, record { above = above }))
      (λ below. inr (λ i l. elim (cases_lt i m) [
        | inl earlier ↦ none i earlier
        | inr last ↦ let same : i ≡ m = omega arith in rw same below
      ]))
]

-- At each variable some first row is above zero: a covered column's, and a slack's own.
first_above : (p : ProgramDef) (e : ℕ) → ((c : ℕ) → c < columns p → IsCovered p c) → e < variables p
    → (j : ℕ) × (j < height p) × (pos 0 <ℤ first_z p j e)
first_above p e covered l = elim (cases_lt e (columns p)) [
  | inl column ↦
      let held : IsCovered p e = covered e column in
      (held.by_row, held.within, rw (number_at_column p held.by_row e held.within column) (above_zero _ held.above))
  | inr behind ↦
      let k : ℕ = e - columns p in
      let at : e ≡ columns p + k = omega arith in
      let within : k < height p = omega arith in (
        k,
        within,
        subst (λ (v : ℕ). pos 0 <ℤ first_z p k v) (sym at) (subst (λ (x : ℤ). pos 0 <ℤ x)
            (sym (has_slacks p k k (omega arith) within ∙ only_at-here k (pos 1))) (omega (arith, ints))),
      )
]

pub shadow_has_ratio : (p : ProgramDef) (t : Table) (e : ℕ) (d : ℤ) (z : ℕ → ℕ → ℤ)
    → ((c : ℕ) → c < columns p → IsCovered p c) → IsShadow p t d z
    → e < variables p → (i : ℕ) × (i < height p) × HasRatio t e i
shadow_has_ratio p t e d z covered h l = elim (some_ratio (height p) t e) [
  | inl there ↦ there
  | inr none ↦
      let row : (j : ℕ) × (j < height p) × (pos 0 <ℤ first_z p j e) = first_above p e covered l in
      absurd (never_unbounded (height p) e d (first_z p row.0) z t.basic h.positive (λ v. not_negative _) row.2 (h.reads row.0 row.1)
      (λ i k. shows_at_most_zero d (z i e) (t.cell i e) h.positive (h.shows i e (omega arith)) (none i k)))
]

pub has_ratio : (p : ProgramDef) (k : ℕ) (t : Table) (e : ℕ) → IsProgram p → Reached p k t → e < variables p
    → (i : ℕ) × (i < height p) × HasRatio t e i
has_ratio p k t e accepted reached l =
    let behind : (d : ℤ) × (z : ℕ → ℕ → ℤ) × IsShadow p t d z = shadow_reached p k t reached in
    shadow_has_ratio p t e behind.0 behind.1 accepted.covered behind.2 l
