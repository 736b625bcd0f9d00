-- The tests by which lists are refused as a program say what they should.
use Rattle.std.proofs.Common.{◌≡◌, ℕ, ◌^◌, ◌<◌, ◌≤◌, List, [], length, slice_index, refl, ◌∙◌, arith, Bool, true, false}
use Rattle.std.proofs.Common.{◌&&◌, not, nat_lt, nat_le, ◌==◌, cond, Option, Some, None, ◌↔◌, inl, inr}
use Rattle.std.specs.List.{list_all}
use Rattle.std.proofs.lemmas.Bool.{and_parts, and_from, cases_Bool, both_ways, not-false, not-true, ltb-true, ltb-false}
use Rattle.std.proofs.lemmas.Bool.{lt-ltb, le-ltb, leb-true, le-leb, eqb-true, eq-eqb, not_from_true, not_from_false}
use Rattle.number_laws.proofs.TestLaws.{any_below-some, any_below-from, any_below-none, any_below-none_from}
use Rattle.number_laws.proofs.TestLaws.{first_below-before, first_below-passes, first_below-is}
use Rattle.program_form.specs.Program.{ProgramDef, HasLengths, IsCovered, IsFirstUncovered, AreSmall, IsProgram}
use Rattle.program_form.specs.Program.{columns, height, row, entry}
use Rattle.program_form.specs.Refusals.{has_lengths, is_covered, first_uncovered, are_small, is_small, first_refusal}
use Rattle.program_form.specs.declared.TheConstants.{MOST_NUMBER}
use Rattle.program_form.specs.declared.program.ProgramRefusal.{ProgramRefusal}
use Rattle.program_form.specs.declared.program.ProgramRefusal.TheVariants.{Length, Uncovered, Large}
use Rattle.program_form.proofs.Lists.{list_all-place, list_all-from_places, list_all-at}

pub lengths_held : (p : ProgramDef) → has_lengths p ≡ true → HasLengths p
lengths_held p h =
    let parts : ((length p.limits == height p) ≡ true) × (list_all (λ row. length row == columns p) p.rows ≡ true)
    = and_parts (length p.limits == height p) (list_all (λ row. length row == columns p) p.rows) h in record {
      limit_each = eqb-true (length p.limits) (height p) parts.0;
      entry_each = λ r l. eqb-true (length (row p r)) (columns p) (list_all-at (λ row. length row == columns p) [] p.rows parts.1 r l);
    }

pub lengths_shown : (p : ProgramDef) → HasLengths p → has_lengths p ≡ true
lengths_shown p h =
    and_from (length p.limits == height p) (list_all (λ row. length row == columns p) p.rows)
    (eq-eqb (length p.limits) (height p) h.limit_each)
    (list_all-from_places (λ row. length row == columns p) [] p.rows (λ r l. eq-eqb (length (row p r)) (columns p) (h.entry_each r l)))

pub covered_held : (p : ProgramDef) (c : ℕ) → is_covered p.rows c ≡ true → IsCovered p c
covered_held p c h =
    let one : (r : ℕ) × (r < height p) × (nat_lt 0 (entry p r c) ≡ true) = any_below-some (height p) (λ r. nat_lt 0 (entry p r c)) h in
    record { by_row = one.0; within = one.1; above = ltb-true 0 (entry p one.0 c) one.2 }

pub covered_shown : (p : ProgramDef) (c : ℕ) → IsCovered p c → is_covered p.rows c ≡ true
covered_shown p c h = any_below-from (height p) (λ r. nat_lt 0 (entry p r c)) h.by_row h.within (lt-ltb 0 (entry p h.by_row c) h.above)

uncovered_held : (p : ProgramDef) (c : ℕ) → is_covered p.rows c ≡ false → (r : ℕ) → r < height p → entry p r c ≡ 0
uncovered_held p c h r l = omega (arith, ltb-false 0 (entry p r c) (any_below-none (height p) (λ r. nat_lt 0 (entry p r c)) h r l))

uncovered_shown : (p : ProgramDef) (c : ℕ) → ((r : ℕ) → r < height p → entry p r c ≡ 0) → is_covered p.rows c ≡ false
uncovered_shown p c h = any_below-none_from (height p) (λ r. nat_lt 0 (entry p r c)) (λ r l. le-ltb 0 (entry p r c) (omega (arith, h r l)))

-- the first column that the test finds uncovered
abbrev first_at : ProgramDef → ℕ
first_at p = first_uncovered (columns p) p.rows

before_first : (p : ProgramDef) (d : ℕ) → d < first_at p → IsCovered p d
before_first p d l =
    covered_held p d (not-false (is_covered p.rows d) (first_below-before (columns p) (λ c. not (is_covered p.rows c)) d l))

pub first_held : (p : ProgramDef) → first_at p < columns p → IsFirstUncovered p (first_at p)
first_held p l = record {
  within = l;
  none = uncovered_held p (first_at p)
      (not-true (is_covered p.rows (first_at p)) (first_below-passes (columns p) (λ c. not (is_covered p.rows c)) l));
  earlier = before_first p;
}

first_shown : (p : ProgramDef) (c : ℕ) → IsFirstUncovered p c → first_at p ≡ c
first_shown p c h =
    let within : c < columns p = h.within in
    first_below-is (columns p) (λ c. not (is_covered p.rows c)) c (omega arith)
    (λ d l. not_from_true (is_covered p.rows d) (covered_shown p d (h.earlier d l)))
    (λ l. not_from_false (is_covered p.rows c) (uncovered_shown p c h.none))

none_first : (p : ProgramDef) → ((c : ℕ) → c < columns p → IsCovered p c) → first_at p ≡ columns p
none_first p h =
    first_below-is (columns p) (λ c. not (is_covered p.rows c)) (columns p) (omega arith)
    (λ d l. not_from_true (is_covered p.rows d) (covered_shown p d (h d l)))
    (λ l. absurd (omega arith))

all_small_at : (xs : List ℕ) → are_small xs ≡ true → (i : ℕ) → slice_index xs i ≤ MOST_NUMBER
all_small_at xs h i = leb-true (slice_index xs i) MOST_NUMBER (list_all-place (λ n. nat_le n MOST_NUMBER) 0 xs refl h i)

all_small_from : (xs : List ℕ) → ((i : ℕ) → slice_index xs i ≤ MOST_NUMBER) → are_small xs ≡ true
all_small_from xs h = list_all-from_places (λ n. nat_le n MOST_NUMBER) 0 xs (λ i l. le-leb (slice_index xs i) MOST_NUMBER (h i))

pub small_held : (p : ProgramDef) → is_small p ≡ true → AreSmall p
small_held p h =
    let two : ((are_small p.costs && list_all are_small p.rows) ≡ true) × (are_small p.limits ≡ true)
    = and_parts (are_small p.costs && list_all are_small p.rows) (are_small p.limits) h in
    let one : (are_small p.costs ≡ true) × (list_all are_small p.rows ≡ true) =
    and_parts (are_small p.costs) (list_all are_small p.rows) two.0 in
    record {
      costs = all_small_at p.costs one.0;
      entries = λ r c. all_small_at (row p r) (list_all-place are_small [] p.rows refl one.1 r) c;
      limits = all_small_at p.limits two.1;
    }

pub small_shown : (p : ProgramDef) → AreSmall p → is_small p ≡ true
small_shown p h =
    and_from (are_small p.costs && list_all are_small p.rows) (are_small p.limits)
    (and_from (are_small p.costs) (list_all are_small p.rows) (all_small_from p.costs h.costs)
    (list_all-from_places are_small [] p.rows (λ r l. all_small_from (row p r) (λ c. h.entries r c))))
    (all_small_from p.limits h.limits)

-- the refusal by the three tests, over plain truth values
abbrev refusal_by : Bool → Bool → ℕ → Bool → Option ProgramRefusal
refusal_by fits uncovered n small = cond (not fits) (Some Length) (cond uncovered (Some (Uncovered n)) (cond (not small) (Some Large) None))

by_length : (a b : Bool) (n : ℕ) (c : Bool) → refusal_by a b n c ≡ Some Length → a ≡ false
by_length true true n c h = cc
by_length true false n true h = cc
by_length true false n false h = cc
by_length false b n c h = refl

by_uncovered : (a b : Bool) (n : ℕ) (c : Bool) (k : ℕ) → refusal_by a b n c ≡ Some (Uncovered k) → (a ≡ true) × (b ≡ true) × (n ≡ k)
by_uncovered true true n c k h = (refl, refl, cc)
by_uncovered true false n true k h = cc
by_uncovered true false n false k h = cc
by_uncovered false b n c k h = cc

by_large : (a b : Bool) (n : ℕ) (c : Bool) → refusal_by a b n c ≡ Some Large → (a ≡ true) × (b ≡ false) × (c ≡ false)
by_large true true n c h = cc
by_large true false n true h = cc
by_large true false n false h = (refl, refl, refl)
by_large false b n c h = cc

by_none : (a b : Bool) (n : ℕ) (c : Bool) → refusal_by a b n c ≡ None → (a ≡ true) × (b ≡ false) × (c ≡ true)
by_none true true n c h = cc
by_none true false n true h = (refl, refl, refl)
by_none true false n false h = cc
by_none false b n c h = cc

refusal_is : (p : ProgramDef) (a b c : Bool) → has_lengths p ≡ a → nat_lt (first_at p) (columns p) ≡ b → is_small p ≡ c
    → first_refusal p ≡ refusal_by a b (first_at p) c
refusal_is p a b c h k m = rw (h, k, m) refl

all_covered : (p : ProgramDef) → nat_lt (first_at p) (columns p) ≡ false → (c : ℕ) → c < columns p → IsCovered p c
all_covered p h c l = before_first p c (omega (arith, ltb-false (first_at p) (columns p) h))

-- Lists that nothing refuses are a program, within its sizes.
pub is_program : (p : ProgramDef) → columns p < 2 ^ 32 → height p < 2 ^ 32 → first_refusal p ≡ None → IsProgram p
is_program p few_columns few_rows h =
    let parts : (has_lengths p ≡ true) × (nat_lt (first_at p) (columns p) ≡ false) × (is_small p ≡ true)
    = by_none (has_lengths p) (nat_lt (first_at p) (columns p)) (first_at p) (is_small p) h in record {
      lengths = lengths_held p parts.0;
      covered = all_covered p parts.1;
      small = small_held p parts.2;
      columns_to = few_columns;
      rows_to = few_rows;
    }

-- Nothing refuses a program.
pub not_refused : (p : ProgramDef) → IsProgram p → first_refusal p ≡ None
not_refused p h =
    refusal_is p true false true (lengths_shown p h.lengths)
    (le-ltb (first_at p) (columns p) (omega (arith, none_first p h.covered))) (small_shown p h.small)

pub length_exact : (p : ProgramDef) → (first_refusal p ≡ Some Length) ↔ (HasLengths p → ⊥)
length_exact p = (
  (λ h fits. both_ways (has_lengths p)
      (by_length (has_lengths p) (nat_lt (first_at p) (columns p)) (first_at p) (is_small p) h) (lengths_shown p fits)),
  (λ unfit. elim (cases_Bool (has_lengths p)) [
    | inl fits ↦ absurd (unfit (lengths_held p fits))
    | inr fails ↦ refusal_is p false (nat_lt (first_at p) (columns p)) (is_small p) fails refl refl
  ]),
)

pub uncovered_exact : (p : ProgramDef) (c : ℕ) → (first_refusal p ≡ Some (Uncovered c)) ↔ (HasLengths p × IsFirstUncovered p c)
uncovered_exact p c = ((λ h. held h), (λ h. shown h))
  where
    held : first_refusal p ≡ Some (Uncovered c) → HasLengths p × IsFirstUncovered p c
    held h =
        let parts : (has_lengths p ≡ true) × (nat_lt (first_at p) (columns p) ≡ true) × (first_at p ≡ c)
        = by_uncovered (has_lengths p) (nat_lt (first_at p) (columns p)) (first_at p) (is_small p) c h in
        (lengths_held p parts.0, rw (← parts.2) (first_held p (ltb-true (first_at p) (columns p) parts.1)))

    shown : HasLengths p × IsFirstUncovered p c → first_refusal p ≡ Some (Uncovered c)
    shown h =
        let at : first_at p ≡ c = first_shown p c h.1 in
        let within : c < columns p = h.1.within in
        refusal_is p true true (is_small p) (lengths_shown p h.0) (lt-ltb (first_at p) (columns p) (omega arith)) refl ∙ rw at refl

pub large_exact : (p : ProgramDef)
    → (first_refusal p ≡ Some Large) ↔ (HasLengths p × ((c : ℕ) → c < columns p → IsCovered p c) × (AreSmall p → ⊥))
large_exact p = ((λ h. held h), (λ h. shown h))
  where
    held : first_refusal p ≡ Some Large → HasLengths p × ((c : ℕ) → c < columns p → IsCovered p c) × (AreSmall p → ⊥)
    held h =
        let parts : (has_lengths p ≡ true) × (nat_lt (first_at p) (columns p) ≡ false) × (is_small p ≡ false)
        = by_large (has_lengths p) (nat_lt (first_at p) (columns p)) (first_at p) (is_small p) h in
        (lengths_held p parts.0, all_covered p parts.1, λ small. both_ways (is_small p) parts.2 (small_shown p small))

    shown : HasLengths p × ((c : ℕ) → c < columns p → IsCovered p c) × (AreSmall p → ⊥) → first_refusal p ≡ Some Large
    shown h = elim (cases_Bool (is_small p)) [
      | inl small ↦ absurd (h.2 (small_held p small))
      | inr large ↦ refusal_is p true false false (lengths_shown p h.0)
          (le-ltb (first_at p) (columns p) (omega (arith, none_first p h.1))) large
    ]
