-- The row that leaves, among the first rows.
use Rattle.std.proofs.Common.{◌≡◌, ◌⊎◌, inl, inr, ℕ, ◌+◌, ◌*◌, ◌<◌, List, length, slice_index, ℤ, pos, ◌*ℤ◌, ◌≤ℤ◌, ◌<ℤ◌, unsigned_abs}
use Rattle.std.proofs.Common.{sym, ap, ◌∙◌, arith}
use Rattle.std.specs.Prelude.{Some, None, IfSome, nat_lt}
use Rattle.std.specs.declared.option.Option.{Option}
use Rattle.std.proofs.lemmas.Bool.{cases_eq, cases_lt, lt-ltb, le-ltb}
use Rattle.std.proofs.lemmas.Int.{ints, unsigned_abs-mul}
use lib.Signed.{clash_ℤ}
use Rattle.number_laws.proofs.Order.{weaker, times_nonneg}
use Rattle.number_laws.proofs.Comparison.{chained_le}
use Rattle.exchange_runs.proofs.Best.{size_is}
use Rattle.whole_rows.specs.Rows.{RowDef, num_at}
use Rattle.free_search.specs.Tables.{row_at}
use Rattle.free_search.specs.Choice.{LeavesAmong, IsLeastRow, HaveLimits, Precedes, Comes}
use Rattle.free_search.proofs.LeastPlaces.{not_above}

-- A row comes before each one that another comes before.
pub precedes_through : (rows : List RowDef) (basis : List ℕ) (k a b c : ℕ) → pos 0 <ℤ num_at (row_at rows a) k
    → pos 0 <ℤ num_at (row_at rows b) k → pos 0 <ℤ num_at (row_at rows c) k → Precedes rows basis k a b → Precedes rows basis k b c
    → Precedes rows basis k a c
precedes_through rows basis k a b c pa pb pc first second =
    let num : ℕ → ℤ = λ (i : ℕ). num_at (row_at rows i) k in
    let limit : ℕ → ℤ = λ (i : ℕ). (row_at rows i).limit in
    record {
      least = chained_le (limit a) (limit b) (limit c) (num a) (num b) (num c) pa pb pc first.least second.least;
      tie = λ back.
          let b_first = first.tie (chained_le (limit b) (limit c) (limit a) (num b) (num c) (num a) pb pc pa second.least back) in
          let c_first = second.tie (chained_le (limit c) (limit a) (limit b) (num c) (num a) (num b) pc pa pb back first.least) in
          omega (arith, b_first, c_first);
    }

-- A row whose number isn't above zero changes nothing.
pub row_passed : (best : Option ℕ) (n : ℕ) (rows : List RowDef) (basis : List ℕ) (k : ℕ) → LeavesAmong best n rows basis k
    → (pos 0 <ℤ num_at (row_at rows n) k → ⊥) → LeavesAmong best (n + 1) rows basis k
row_passed None n rows basis k h none = λ i l. elim (cases_eq i n) [
  | inl here ↦ rw here (not_above (num_at (row_at rows n) k) none)
  | inr other ↦ h i (omega arith)
]
row_passed (Some r) n rows basis k h none = record {
  within = omega (arith, h.within);
  above = h.above;
  least = λ i l above. elim (cases_eq i n) [
    | inl here ↦ absurd (none (rw here at above))
    | inr other ↦ h.least i (omega arith) above
  ];
  tie = λ i l above back. elim (cases_eq i n) [
    | inl here ↦ absurd (none (rw here at above))
    | inr other ↦ h.tie i (omega arith) above back
  ];
}

-- the row that comes before all others is the least
least_of : (n : ℕ) (rows : List RowDef) (basis : List ℕ) (k r : ℕ) → r < n → pos 0 <ℤ num_at (row_at rows r) k
    → ((i : ℕ) → i < n → pos 0 <ℤ num_at (row_at rows i) k → Precedes rows basis k r i) → IsLeastRow n rows basis k r
least_of n rows basis k r l above each = record {
  within = l;
  above = above;
  least = λ i li has. (each i li has).least;
  tie = λ i li has back. (each i li has).tie back;
}

-- Of a row whose number is above zero and the one before, that which comes before the other is the least.
pub row_taken : (best : Option ℕ) (n r : ℕ) (rows : List RowDef) (basis : List ℕ) (k : ℕ) → LeavesAmong best n rows basis k
    → pos 0 <ℤ num_at (row_at rows n) k → (r ≡ n) ⊎ (best ≡ Some r) → Precedes rows basis k r n
    → IfSome best (λ b. Precedes rows basis k r b) → LeavesAmong (Some r) (n + 1) rows basis k
row_taken None n r rows basis k h above one other before = elim one [
  | inl here ↦ least_of (n + 1) rows basis k r (omega arith) (rw here above) (λ i l has. elim (cases_eq i n) [
    | inl last ↦ rw last other
    | inr earlier ↦ absurd (clash_ℤ has (h i (omega arith)))
  ])
  | inr old ↦ absurd (cc)
]
row_taken (Some b) n r rows basis k h above one other before =
    let own : pos 0 <ℤ num_at (row_at rows r) k = elim one [
      | inl here ↦ rw here above
      | inr old ↦ let same : r ≡ b = cc in rw same h.above
    ] in
    let within : r < n + 1 = elim one [
      | inl here ↦ omega arith
      | inr old ↦ let same : b ≡ r = cc in omega (arith, h.within)
    ] in
    least_of (n + 1) rows basis k r within own (λ i l has. elim (cases_eq i n) [
      | inl last ↦ rw last other
      | inr earlier ↦
          precedes_through rows basis k r b i own h.above has before
          (record { least = h.least i (omega arith) has; tie = h.tie i (omega arith) has })
    ])

-- a product of numbers that aren't below zero is that of their sizes
product_of_sizes : (x y : ℤ) → pos 0 ≤ℤ x → pos 0 ≤ℤ y → x *ℤ y ≡ pos (unsigned_abs x * unsigned_abs y)
product_of_sizes x y px py = sym (size_is (x *ℤ y) (times_nonneg x y px py)) ∙ ap pos (unsigned_abs-mul x y)

-- Are these the limit of each of two rows times the number of the other?
pub record AreCompared (rows : List RowDef) (k i j ratio other : ℕ) : Type 0 where
  pub first : (row_at rows i).limit *ℤ num_at (row_at rows j) k ≡ pos ratio
  pub second : (row_at rows j).limit *ℤ num_at (row_at rows i) k ≡ pos other

pub are_compared : (rows : List RowDef) (k i j ratio other : ℕ) → HaveLimits rows → i < length rows → j < length rows
    → pos 0 <ℤ num_at (row_at rows i) k → pos 0 <ℤ num_at (row_at rows j) k
    → ratio ≡ unsigned_abs (row_at rows i).limit * unsigned_abs (num_at (row_at rows j) k)
    → other ≡ unsigned_abs (row_at rows j).limit * unsigned_abs (num_at (row_at rows i) k) → AreCompared rows k i j ratio other
are_compared rows k i j ratio other limits li lj pi pj is_ratio is_other = record {
  first = product_of_sizes (row_at rows i).limit (num_at (row_at rows j) k) (limits i li) (weaker pj) ∙ ap pos (sym is_ratio);
  second = product_of_sizes (row_at rows j).limit (num_at (row_at rows i) k) (limits j lj) (weaker pi) ∙ ap pos (sym is_other);
}

-- Of two rows that with the lesser ratio comes before the other.
pub lesser_comes : (rows : List RowDef) (basis : List ℕ) (k i j ratio other : ℕ) → AreCompared rows k i j ratio other → ratio < other
    → Precedes rows basis k i j
lesser_comes rows basis k i j ratio other h l = record {
  least = rw (h.first, h.second) (omega (arith, ints));
  tie = λ back. let clash : pos other ≤ℤ pos ratio = rw (h.first, h.second) at back in absurd (omega (arith, ints));
}

pub turned : (rows : List RowDef) (k i j ratio other : ℕ) → AreCompared rows k i j ratio other → AreCompared rows k j i other ratio
turned rows k i j ratio other h = record { first = h.second; second = h.first }

-- Of equal ratios that with the lesser basic variable.
pub equal_comes : (rows : List RowDef) (basis : List ℕ) (k i j ratio other : ℕ) → AreCompared rows k i j ratio other → ratio ≡ other
    → Comes (nat_lt (slice_index basis i) (slice_index basis j)) rows basis k i j
equal_comes rows basis k i j ratio other h same =
    let a = slice_index basis i in
    let b = slice_index basis j in
    elim (cases_lt a b) [
      | inl before ↦ rw (lt-ltb a b before) (record { least = rw (h.first, h.second) (omega (arith, ints)); tie = λ back. omega arith })
      | inr behind ↦ rw (le-ltb a b behind) (record { least = rw (h.first, h.second) (omega (arith, ints)); tie = λ back. behind })
    ]
