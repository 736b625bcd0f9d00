-- Rows of holdings count columns of indirect blocking alone, so where the stretch has none they hold no column.
use Rattle.std.proofs.Common.{◌≡◌, ℕ, ◌&&◌, Bool, true, false, List, map, nat_lt, refl, ◌∙◌, arith, inl, inr}
use Rattle.std.specs.List.{AllWithin}
use Rattle.std.proofs.Math.ListN.{get_or}
use Rattle.std.proofs.lemmas.Bool.{cases_lt}
use Rattle.std.proofs.lemmas.List.Folds.{list_any_none}
use Rattle.sporadic_model.proofs.Mapped.{list_any-map}
use Rattle.blocking_columns.specs.declared.columns.Class.TheVariants.{Indirect}
use Rattle.blocking_columns.specs.declared.columns.Fragment.{Fragment}
use Rattle.blocking_columns.specs.ColumnDef.{ColumnDef, column_seen, is_class}
use Rattle.number_laws.specs.Sums.{flag}
use Rattle.fragments.specs.Constraints.{ConstraintDef, holds_some}
use Rattle.fragments.specs.RowStretch.{IsStretch}

both_fail : (a b : Bool) → b ≡ false → flag (a && b) ≡ 0
both_fail true b fails = rw fails refl
both_fail false b fails = refl

pub none_indirect : (test : ColumnDef → Bool) (limit : (ℕ → ℕ) → ℕ) (cs : List Fragment) (a b : ℕ)
    → IsStretch (record { coefficient = λ c. flag (test c && is_class Indirect c.class); limit = limit }) cs a b
    → AllWithin (λ c. is_class Indirect (column_seen c).class ≡ false) cs a b
    → holds_some (map column_seen cs) (record { coefficient = λ c. flag (test c && is_class Indirect c.class); limit = limit }) ≡ false
none_indirect test limit cs a b stretch none =
    let row : ConstraintDef = record { coefficient = λ c. flag (test c && is_class Indirect c.class); limit = limit } in
    list_any-map column_seen (λ c. nat_lt 0 (row.coefficient c)) cs
    ∙ list_any_none (λ c. nat_lt 0 (row.coefficient (column_seen c))) cs (λ k d l. elim (cases_lt k a) [
      | inl first ↦ rw (stretch.before k d (omega arith) first) refl
      | inr inside ↦ elim (cases_lt k b) [
        | inl within ↦ rw (both_fail (test (column_seen (get_or cs k d))) (is_class Indirect (column_seen (get_or cs k d)).class)
            (none k d inside within)) refl
        | inr behind ↦ rw (stretch.behind k d behind l) refl
      ]
    ])
