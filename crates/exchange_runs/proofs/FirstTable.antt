-- The numbers of the first table, place by place.
use Rattle.std.proofs.Common.{◌≡◌, ℕ, ◌+◌, ◌<◌, ◌≤◌, List, slice_index, ℤ, pos, inl, inr, refl, ap, ◌∙◌, sym, arith}
use Rattle.std.proofs.lemmas.Bool.{cases_eq, eq-eqb, ne_eqb, lt-ltb, le-ltb}
use Rattle.number_laws.proofs.TotalLaws.{only_at-here, only_at-away}
use Rattle.program_form.specs.Program.{ProgramDef, columns, height, cost, entry, limit, row}
use Rattle.exchange_runs.specs.Table.{variables, slack, first_of, first_entries, first_limit, first_number}
use Rattle.exchange_runs.proofs.Ends.{HasSlacks}

pub first_of-column : (n : ℕ) (entries : List ℕ) (own last bound v : ℕ) → v < n
    → first_of n entries own last bound v ≡ slice_index entries v
first_of-column n entries own last bound v l = rw (lt-ltb v n l) refl

pub first_of-own : (n : ℕ) (entries : List ℕ) (own last bound : ℕ) → n ≤ own → own < last → first_of n entries own last bound own ≡ 1
first_of-own n entries own last bound h l = rw (le-ltb own n h, lt-ltb own last l, eq-eqb own own refl) refl

pub first_of-other : (n : ℕ) (entries : List ℕ) (own last bound v : ℕ) → n ≤ v → v < last → (v ≡ own → ⊥)
    → first_of n entries own last bound v ≡ 0
first_of-other n entries own last bound v h l away = rw (le-ltb v n h, lt-ltb v last l, ne_eqb v own away) refl

pub first_of-limit : (n : ℕ) (entries : List ℕ) (own last bound : ℕ) → n ≤ last → first_of n entries own last bound last ≡ bound
first_of-limit n entries own last bound h = rw (le-ltb last n h, le-ltb last last (omega arith), eq-eqb last last refl) refl

pub first_of-past : (n : ℕ) (entries : List ℕ) (own last bound v : ℕ) → n ≤ last → last < v → first_of n entries own last bound v ≡ 0
first_of-past n entries own last bound v h l =
    rw (le-ltb v n (omega arith), le-ltb v last (omega arith), ne_eqb v last (λ e. omega arith)) refl

pub entries_of_row : (p : ProgramDef) (r : ℕ) → r < height p → first_entries p r ≡ row p r
entries_of_row p r l = rw (lt-ltb r (height p) l) refl

pub entries_of_objective : (p : ProgramDef) → first_entries p (height p) ≡ p.costs
entries_of_objective p = rw (le-ltb (height p) (height p) (omega arith)) refl

pub limit_of_row : (p : ProgramDef) (r : ℕ) → r < height p → first_limit p r ≡ limit p r
limit_of_row p r l = rw (lt-ltb r (height p) l) refl

pub limit_of_objective : (p : ProgramDef) → first_limit p (height p) ≡ 0
limit_of_objective p = rw (le-ltb (height p) (height p) (omega arith)) refl

pub number_at_column : (p : ProgramDef) (r c : ℕ) → r < height p → c < columns p → first_number p r c ≡ entry p r c
number_at_column p r c l k =
    first_of-column (columns p) (first_entries p r) (slack p r) (variables p) (first_limit p r) c k
    ∙ ap (λ xs. slice_index xs c) (entries_of_row p r l)

pub number_at_cost : (p : ProgramDef) (c : ℕ) → c < columns p → first_number p (height p) c ≡ cost p c
number_at_cost p c k =
    first_of-column (columns p) (first_entries p (height p)) (slack p (height p)) (variables p) (first_limit p (height p)) c k
    ∙ ap (λ xs. slice_index xs c) (entries_of_objective p)

pub number_at_limit : (p : ProgramDef) (r : ℕ) → r < height p → first_number p r (variables p) ≡ limit p r
number_at_limit p r l =
    first_of-limit (columns p) (first_entries p r) (slack p r) (variables p) (first_limit p r) (omega arith) ∙ limit_of_row p r l

pub number_at_value : (p : ProgramDef) → first_number p (height p) (variables p) ≡ 0
number_at_value p =
    first_of-limit (columns p) (first_entries p (height p)) (slack p (height p)) (variables p)
    (first_limit p (height p)) (omega arith) ∙ limit_of_objective p

-- The first table over ℤ.
abbrev pub first_z : ProgramDef → ℕ → ℕ → ℤ
first_z p i v = pos (first_number p i v)

pub has_slacks : (p : ProgramDef) → HasSlacks (height p) (columns p) (first_z p)
has_slacks p r k h l = elim (cases_eq r k) [
  | inl here ↦
      rw here (ap pos (first_of-own (columns p) (first_entries p k) (slack p k) (variables p) (first_limit p k)
      (omega arith) (omega arith)) ∙ sym (only_at-here k (pos 1)))
  | inr away ↦
      ap pos (first_of-other (columns p) (first_entries p r) (slack p r) (variables p) (first_limit p r) (columns p + k)
      (omega arith) (omega arith) (λ e. away (omega arith)))
      ∙ sym (only_at-away k (pos 1) r away)
]
