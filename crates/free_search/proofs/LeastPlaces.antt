-- The place that enters, among the first places.
use Rattle.std.proofs.Common.{inl, inr, ℕ, ◌<◌, ◌≤◌, List, length, slice_index, ℤ, pos, ◌≤ℤ◌, ◌<ℤ◌, arith}
use Rattle.std.specs.Prelude.{Some, None}
use Rattle.std.specs.declared.option.Option.{Option}
use Rattle.std.proofs.lemmas.Bool.{cases_lt}
use Rattle.std.proofs.lemmas.Int.{ints, by_lt_z}
use Rattle.std.proofs.lemmas.List.{get_or_past}
use Rattle.whole_rows.specs.Numbers.{number_at}

-- Of the first n places whose number is above zero, has k the one with the least variable?
pub record IsLeastBelow (n : ℕ) (nums : List ℤ) (outside : List ℕ) (k : ℕ) : Type 0 where
  pub within : k < n
  pub above : pos 0 <ℤ number_at nums k
  pub least : (j : ℕ) → j < n → pos 0 <ℤ number_at nums j → slice_index outside k ≤ slice_index outside j

-- That place, or none if none of these numbers is above zero.
abbrev pub EntersBelow : Option ℕ → ℕ → List ℤ → List ℕ → Type 0
EntersBelow (Some k) n nums outside = IsLeastBelow n nums outside k
EntersBelow None n nums outside = (j : ℕ) → j < n → number_at nums j ≤ℤ pos 0

pub not_above : (x : ℤ) → (pos 0 <ℤ x → ⊥) → x ≤ℤ pos 0
not_above x none = by_lt_z (pos 0) x (λ above. absurd (none above)) (λ below. below)

-- past its end a list counts as zero
pub none_above : (nums : List ℤ) → ((j : ℕ) → j < length nums → number_at nums j ≤ℤ pos 0) → (k : ℕ) → number_at nums k ≤ℤ pos 0
none_above nums none k = elim (cases_lt k (length nums)) [
  | inl within ↦ none k within
  | inr past ↦ rw (get_or_past nums k (pos 0) past) (omega (arith, ints))
]
