-- A row in cycles beside the one in ticks. A row that counts has the same coefficients and the same limit, so its multiplier grows k
-- times. A row of time has both k times as great, so its multiplier stays. In both, the multiplier in cycles does k times as much.
use Rattle.std.proofs.Common.{◌≡◌, ◌∙◌, ℕ, zero, suc, ◌*◌, ◌<◌, ◌≤◌, List, [], ◌∷◌, ◌++◌, map, length, Bool, true, false}
use Rattle.std.proofs.Common.{ap, refl, sym, subst, arith, inl, inr, if◌then◌else◌}
use Rattle.std.specs.Prelude.{slice_index, slice_index_or}
use Rattle.std.specs.List.{list_any}
use Rattle.std.proofs.Math.Nat.{mul_comm, mul-one, mul-le-mul_left}
use Rattle.std.proofs.lemmas.Bool.{cases_Bool}
use Rattle.number_laws.specs.Sums.{collect_below, flag}
use Rattle.blocking_columns.specs.ColumnDef.{ColumnDef}
use Rattle.fragments.specs.Constraints.{ConstraintDef, counting, per, per_where, per_pair, rows_there, holds_some}
use Rattle.clock_laws.proofs.Scaled.{same_sign}
use Rattle.clock_laws.proofs.Jobs.{fine}

pub record IsRescaledRow (k : ℕ) (bounds : ℕ → ℕ) (coarse cycles : ConstraintDef) : Type 0 where
  pub times : ℕ
  pub some : 0 < times
  pub coefficients : (c : ColumnDef) → cycles.coefficient c * times ≡ k * coarse.coefficient c
  pub limits : cycles.limit (fine k bounds) * times ≤ k * coarse.limit bounds

-- A row that counts, with a limit that is no greater.
pub counted : (k : ℕ) (bounds : ℕ → ℕ) (test fine_test : ColumnDef → Bool) (limit fine_limit : (ℕ → ℕ) → ℕ) → 0 < k → fine_test ≡ test
    → fine_limit (fine k bounds) ≤ limit bounds → IsRescaledRow k bounds (counting test limit) (counting fine_test fine_limit)
counted k bounds test fine_test limit fine_limit some same most = record {
  times = k;
  some = some;
  coefficients = λ c. (λ j. flag (same j c) * k) ∙ mul_comm (flag (test c)) k;
  limits = let more : k * fine_limit (fine k bounds) ≤ k * limit bounds = mul-le-mul_left k most in
      omega (arith, more, mul_comm (fine_limit (fine k bounds)) k);
}

-- And with the same limit.
pub counted_same : (k : ℕ) (bounds : ℕ → ℕ) (test fine_test : ColumnDef → Bool) (limit fine_limit : (ℕ → ℕ) → ℕ) → 0 < k
    → fine_test ≡ test → fine_limit (fine k bounds) ≡ limit bounds
    → IsRescaledRow k bounds (counting test limit) (counting fine_test fine_limit)
counted_same k bounds test fine_test limit fine_limit some same e =
    counted k bounds test fine_test limit fine_limit some same (omega (arith, e))

-- A row of time.
pub timed : (k : ℕ) (bounds : ℕ → ℕ) (coarse cycles : ConstraintDef)
    → ((c : ColumnDef) → cycles.coefficient c ≡ k * coarse.coefficient c) → cycles.limit (fine k bounds) ≡ k * coarse.limit bounds
    → IsRescaledRow k bounds coarse cycles
timed k bounds coarse cycles same limit = record {
  times = 1;
  some = omega arith;
  coefficients = λ c. mul-one (cycles.coefficient c) ∙ same c;
  limits = omega (arith, mul-one (cycles.limit (fine k bounds)), limit);
}

-- Rows in cycles beside rows in ticks, one for one.
abbrev pub AreRescaled : ℕ → (ℕ → ℕ) → List ConstraintDef → List ConstraintDef → Type 0
AreRescaled k bounds [] [] = Unit {0}
AreRescaled k bounds (a ∷ xs) (b ∷ ys) = IsRescaledRow k bounds a b × AreRescaled k bounds xs ys
AreRescaled k bounds [] (b ∷ ys) = ⊥
AreRescaled k bounds (a ∷ xs) [] = ⊥

pub appended : (k : ℕ) (bounds : ℕ → ℕ) (xs ys cs ds : List ConstraintDef) → AreRescaled k bounds xs ys → AreRescaled k bounds cs ds
    → AreRescaled k bounds (xs ++ cs) (ys ++ ds)
appended k bounds [] [] cs ds first later = later
appended k bounds (a ∷ xs) (b ∷ ys) cs ds first later = (first.0, appended k bounds xs ys cs ds first.1 later)
appended k bounds [] (b ∷ ys) cs ds first later = absurd first
appended k bounds (a ∷ xs) [] cs ds first later = absurd first

collected : (k : ℕ) (bounds : ℕ → ℕ) (n : ℕ) (f g : ℕ → List ConstraintDef) → ((x : ℕ) → x < n → AreRescaled k bounds (f x) (g x))
    → AreRescaled k bounds (collect_below n f) (collect_below n g)
collected k bounds zero f g each = tt
collected k bounds (suc n) f g each =
    appended k bounds (collect_below n f) (collect_below n g) (f n) (g n) (collected k bounds n f g (λ x l. each x (omega arith)))
    (each n (omega arith))

-- One row for each number below n. In cycles n may be written in another way.
pub each_per : (k : ℕ) (bounds : ℕ → ℕ) (n m : ℕ) (f g : ℕ → ConstraintDef) → m ≡ n
    → ((x : ℕ) → x < n → IsRescaledRow k bounds (f x) (g x)) → AreRescaled k bounds (per n f) (per m g)
each_per k bounds n m f g same each = subst (λ o. AreRescaled k bounds (per n f) (per o g)) (sym same)
    (collected k bounds n (λ x. f x ∷ []) (λ x. g x ∷ []) (λ x l. (each x l, tt)))

pub each_pair : (k : ℕ) (bounds : ℕ → ℕ) (n m o : ℕ) (f g : ℕ → ℕ → ConstraintDef) → m ≡ n
    → ((x q : ℕ) → x < n → q < o → IsRescaledRow k bounds (f x q) (g x q)) → AreRescaled k bounds (per_pair n o f) (per_pair m o g)
each_pair k bounds n m o f g same each = subst (λ y. AreRescaled k bounds (per_pair n o f) (per_pair y o g)) (sym same)
    (collected k bounds n (λ x. per o (f x)) (λ x. per o (g x)) (λ x l. each_per k bounds o o (f x) (g x) refl (λ q b. each x q l b)))

if_there : (k : ℕ) (bounds : ℕ → ℕ) (b : Bool) (f g : ConstraintDef) → IsRescaledRow k bounds f g
    → AreRescaled k bounds (if b then f ∷ [] else []) (if b then g ∷ [] else [])
if_there k bounds true f g row = (row, tt)
if_there k bounds false f g row = tt

pub each_where : (k : ℕ) (bounds : ℕ → ℕ) (test fine_test : ℕ → Bool) (n m : ℕ) (f g : ℕ → ConstraintDef) → fine_test ≡ test → m ≡ n
    → ((x : ℕ) → x < n → IsRescaledRow k bounds (f x) (g x)) → AreRescaled k bounds (per_where test n f) (per_where fine_test m g)
each_where k bounds test fine_test n m f g tests same each =
    subst (λ t. AreRescaled k bounds (per_where test n f) (per_where t m g)) (sym tests)
    (subst (λ o. AreRescaled k bounds (per_where test n f) (per_where test o g)) (sym same)
    (collected k bounds n (λ x. if test x then f x ∷ [] else []) (λ x. if test x then g x ∷ [] else [])
    (λ x l. if_there k bounds (test x) (f x) (g x) (each x l))))

-- A row is nonzero in cycles if and only if it is in ticks.
there_same : (k : ℕ) (bounds : ℕ → ℕ) (columns : List ColumnDef) (a b : ConstraintDef) → 0 < k → IsRescaledRow k bounds a b
    → holds_some columns b ≡ holds_some columns a
there_same k bounds columns a b some row =
    λ j. list_any (λ c. same_sign (b.coefficient c) (a.coefficient c) row.times k row.some some (row.coefficients c) j) columns

pub those_there : (k : ℕ) (bounds : ℕ → ℕ) (columns : List ColumnDef) (xs ys : List ConstraintDef) → 0 < k → AreRescaled k bounds xs ys
    → AreRescaled k bounds (rows_there columns xs) (rows_there columns ys)
those_there k bounds columns [] [] some rows = tt
those_there k bounds columns (a ∷ xs) (b ∷ ys) some rows =
    let same : holds_some columns b ≡ holds_some columns a = there_same k bounds columns a b some rows.0 in
    let others : AreRescaled k bounds (rows_there columns xs) (rows_there columns ys) = those_there k bounds columns xs ys some rows.1 in
    elim (cases_Bool (holds_some columns a)) [
      | inl there ↦ rw (same, there) (rows.0, others)
      | inr none ↦ rw (same, none) others
    ]
those_there k bounds columns [] (b ∷ ys) some rows = absurd rows
those_there k bounds columns (a ∷ xs) [] some rows = absurd rows

-- How many times the multiplier of each row grows.
pub times_at : (k : ℕ) (bounds : ℕ → ℕ) (xs ys : List ConstraintDef) → AreRescaled k bounds xs ys → ℕ → ℕ
times_at k bounds [] [] rows r = 0
times_at k bounds (a ∷ xs) (b ∷ ys) rows zero = rows.0.times
times_at k bounds (a ∷ xs) (b ∷ ys) rows (suc r) = times_at k bounds xs ys rows.1 r
times_at k bounds [] (b ∷ ys) rows r = 0
times_at k bounds (a ∷ xs) [] rows r = 0

pub as_many : (k : ℕ) (bounds : ℕ → ℕ) (xs ys : List ConstraintDef) → AreRescaled k bounds xs ys → length ys ≡ length xs
as_many k bounds [] [] rows = refl
as_many k bounds (a ∷ xs) (b ∷ ys) rows = ap suc (as_many k bounds xs ys rows.1)
as_many k bounds [] (b ∷ ys) rows = absurd rows
as_many k bounds (a ∷ xs) [] rows = absurd rows

mapped : (k times : ℕ) (f g : ColumnDef → ℕ) (columns : List ColumnDef) (c : ℕ) → ((d : ColumnDef) → g d * times ≡ k * f d)
    → slice_index (map g columns) c * times ≡ k * slice_index (map f columns) c
mapped k times f g [] c same = omega arith
mapped k times f g (d ∷ columns) zero same = same d
mapped k times f g (d ∷ columns) (suc c) same = mapped k times f g columns c same

pub entries_at : (k : ℕ) (bounds : ℕ → ℕ) (columns : List ColumnDef) (xs ys : List ConstraintDef) (rows : AreRescaled k bounds xs ys) (r c : ℕ)
    → slice_index (slice_index_or (map (λ row. map row.coefficient columns) ys) r []) c * times_at k bounds xs ys rows r
    ≡ k * slice_index (slice_index_or (map (λ row. map row.coefficient columns) xs) r []) c
unfolding times_at
entries_at k bounds columns [] [] rows r c = omega arith
entries_at k bounds columns (a ∷ xs) (b ∷ ys) rows zero c =
    mapped k rows.0.times a.coefficient b.coefficient columns c rows.0.coefficients
entries_at k bounds columns (a ∷ xs) (b ∷ ys) rows (suc r) c = entries_at k bounds columns xs ys rows.1 r c
entries_at k bounds columns [] (b ∷ ys) rows r c = absurd rows
entries_at k bounds columns (a ∷ xs) [] rows r c = absurd rows

pub limits_at : (k : ℕ) (bounds : ℕ → ℕ) (xs ys : List ConstraintDef) (rows : AreRescaled k bounds xs ys) (r : ℕ)
    → slice_index (map (λ row. row.limit (fine k bounds)) ys) r * times_at k bounds xs ys rows r
    ≤ k * slice_index (map (λ row. row.limit bounds) xs) r
unfolding times_at
limits_at k bounds [] [] rows r = omega arith
limits_at k bounds (a ∷ xs) (b ∷ ys) rows zero = rows.0.limits
limits_at k bounds (a ∷ xs) (b ∷ ys) rows (suc r) = limits_at k bounds xs ys rows.1 r
limits_at k bounds [] (b ∷ ys) rows r = absurd rows
limits_at k bounds (a ∷ xs) [] rows r = absurd rows
