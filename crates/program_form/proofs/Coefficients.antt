-- Nonzero coefficients, and the full rows that they give.
use Rattle.std.proofs.Common.{◌≡◌, ◌≢◌, inl, inr, ℕ, zero, suc, ◌+◌, ◌<◌, ◌≤◌, List, [], ◌∷◌, ◌++◌, length, replicate, set, take}
use Rattle.std.proofs.Common.{slice_index, refl, sym, ◌∙◌, ap, arith, get_or-set_same, get_or-set_other, get_or-take, length-take-le}
use Rattle.std.proofs.lemmas.Bool.{cases_eq, cases_lt, eq-eqb, ne_eqb}
use Rattle.std.proofs.lemmas.List.{length-set, length-replicate, length_push, get_or-replicate, ext_get_or, get_or_at, get_or_append_left}
use Rattle.std.proofs.lemmas.List.FromFn.{length-map-range_with_len, get_or-map-range_with_len, map-range_with_len_more}
use Rattle.program_form.specs.SparseRows.{number_at, full_row, coefficient_at, AreCoefficients}
use Rattle.program_form.specs.declared.sparse_rows.Coefficient.{Coefficient}

number-here : (c : Coefficient) (cs : List Coefficient) (v : ℕ) → c.column ≡ v → number_at (c ∷ cs) v ≡ c.number
number-here c cs v is = rw (eq-eqb c.column v is) refl

number-on : (c : Coefficient) (cs : List Coefficient) (v : ℕ) → c.column ≢ v → number_at (c ∷ cs) v ≡ number_at cs v
number-on c cs v away = rw (ne_eqb c.column v away) refl

rises-on : (c : Coefficient) (cs : List Coefficient)
    → ((j k : ℕ) → j < k → k < length (c ∷ cs) → (coefficient_at (c ∷ cs) j).column < (coefficient_at (c ∷ cs) k).column)
    → (j k : ℕ) → j < k → k < length cs → (coefficient_at cs j).column < (coefficient_at cs k).column
rises-on c cs h j k l lk = h (suc j) (suc k) (omega arith) (omega arith)

number-listed : (cs : List Coefficient) (k v : ℕ)
    → ((j k : ℕ) → j < k → k < length cs → (coefficient_at cs j).column < (coefficient_at cs k).column)
    → k < length cs → (coefficient_at cs k).column ≡ v → number_at cs v ≡ (coefficient_at cs k).number
number-listed [] k v rise l is = absurd (omega arith)
number-listed (c ∷ cs) zero v rise l is = number-here c cs v is
number-listed (c ∷ cs) (suc k) v rise l is =
    let earlier : c.column < (coefficient_at cs k).column = rise 0 (suc k) (omega arith) l in
    number-on c cs v (λ q. omega arith) ∙ number-listed cs k v (rises-on c cs rise) (omega arith) is

-- the number of a coefficient that is listed
pub number_listed : (n : ℕ) (cs : List Coefficient) (k : ℕ) → AreCoefficients n cs → k < length cs
    → number_at cs (coefficient_at cs k).column ≡ (coefficient_at cs k).number
number_listed n cs k h l = number-listed cs k (coefficient_at cs k).column h.rise l refl

-- where none is listed the number is zero
pub number_none : (cs : List Coefficient) (v : ℕ) → ((k : ℕ) → k < length cs → (coefficient_at cs k).column ≢ v) → number_at cs v ≡ 0
number_none [] v away = refl
number_none (c ∷ cs) v away = number-on c cs v (away 0 (omega arith)) ∙ number_none cs v (λ k l. away (suc k) (omega arith))

-- and so it is behind all columns
pub number_past : (n : ℕ) (cs : List Coefficient) (v : ℕ) → AreCoefficients n cs → n ≤ v → number_at cs v ≡ 0
number_past n cs v h l = number_none cs v (λ k lk q. let b : (coefficient_at cs k).column < n = h.below k lk in omega arith)

number-push : (cs : List Coefficient) (c : Coefficient) (v : ℕ) → ((k : ℕ) → k < length cs → (coefficient_at cs k).column < c.column)
    → c.column ≡ v → number_at (cs ++ c ∷ []) v ≡ c.number
number-push [] c v below is = number-here c [] v is
number-push (d ∷ ds) c v below is =
    let first : d.column < c.column = below 0 (omega arith) in
    number-on d (ds ++ c ∷ []) v (λ q. omega arith) ∙ number-push ds c v (λ k l. below (suc k) (omega arith)) is

-- one more coefficient has its number at its column
pub number_push : (cs : List Coefficient) (c : Coefficient) → AreCoefficients c.column cs → number_at (cs ++ c ∷ []) c.column ≡ c.number
number_push cs c h = number-push cs c c.column h.below refl

-- and all else stays
pub number_push_other : (cs : List Coefficient) (c : Coefficient) (v : ℕ) → c.column ≢ v → number_at (cs ++ c ∷ []) v ≡ number_at cs v
number_push_other [] c v away = number-on c [] v away
number_push_other (d ∷ ds) c v away = elim (cases_eq d.column v) [
  | inl here ↦ number-here d (ds ++ c ∷ []) v here ∙ sym (number-here d ds v here)
  | inr other ↦ number-on d (ds ++ c ∷ []) v other ∙ (number_push_other ds c v away ∙ sym (number-on d ds v other))
]

-- no coefficient is listed
pub coefficients_none : (n : ℕ) → AreCoefficients n []
coefficients_none n = record {
  rise = λ j k l lk. absurd (omega arith);
  below = λ k l. absurd (omega arith);
  nonzero = λ k l. absurd (omega arith);
}

-- the same ones, of more columns
pub coefficients_up : (m n : ℕ) (cs : List Coefficient) → m ≤ n → AreCoefficients m cs → AreCoefficients n cs
coefficients_up m n cs l h = record {
  rise = h.rise;
  below = λ k lk. let b : (coefficient_at cs k).column < m = h.below k lk in omega arith;
  nonzero = h.nonzero;
}

push-last : (cs : List Coefficient) (c : Coefficient) (k : ℕ) → k ≡ length cs → coefficient_at (cs ++ c ∷ []) k ≡ c
push-last cs c k at = get_or_at cs c [] (record { column = 0; number = 0 }) k (sym at)

push-earlier : (cs : List Coefficient) (c : Coefficient) (k : ℕ) → k < length cs → coefficient_at (cs ++ c ∷ []) k ≡ coefficient_at cs k
push-earlier cs c k l = get_or_append_left cs (c ∷ []) (record { column = 0; number = 0 }) k l

-- one more coefficient, at the end
pub coefficients_push : (n : ℕ) (cs : List Coefficient) (c : Coefficient) → AreCoefficients c.column cs → c.column < n → 0 < c.number
    → AreCoefficients n (cs ++ c ∷ [])
coefficients_push n cs c h within above = record {
  rise = λ j k l lk. elim (cases_lt k (length cs)) [
    | inl earlier ↦
        let first : j < length cs = omega arith in
        rw (push-earlier cs c j first, push-earlier cs c k earlier) (h.rise j k l earlier)
    | inr last ↦
        let here : k ≡ length cs = omega (arith, length_push cs c) in
        let first : j < length cs = omega arith in
        rw (push-last cs c k here, push-earlier cs c j first) (h.below j first)
  ];
  below = λ k lk. elim (cases_lt k (length cs)) [
    | inl earlier ↦ rw (push-earlier cs c k earlier) (let b : (coefficient_at cs k).column < c.column = h.below k earlier in omega arith)
    | inr last ↦ let here : k ≡ length cs = omega (arith, length_push cs c) in rw (push-last cs c k here) within
  ];
  nonzero = λ k lk. elim (cases_lt k (length cs)) [
    | inl earlier ↦ rw (push-earlier cs c k earlier) (h.nonzero k earlier)
    | inr last ↦ let here : k ≡ length cs = omega (arith, length_push cs c) in rw (push-last cs c k here) above
  ];
}

-- the coefficients before one are of columns below its own
pub coefficients_before : (n : ℕ) (cs : List Coefficient) (k : ℕ) → AreCoefficients n cs → k < length cs
    → AreCoefficients (coefficient_at cs k).column (take k cs)
coefficients_before n cs k h l =
    let long : length (take k cs) ≡ k = length-take-le k cs (omega arith) in
    let same : (j : ℕ) → j < k → coefficient_at (take k cs) j ≡ coefficient_at cs j =
    λ j lj. get_or-take k cs j (record { column = 0; number = 0 }) lj in
    record {
      rise = λ i j li lj.
          let inside : j < k = omega (arith, long, lj) in
          rw (same i (omega arith), same j inside) (h.rise i j li (omega arith));
      below = λ j lj. let inside : j < k = omega (arith, long, lj) in rw (same j inside) (h.rise j k inside l);
      nonzero = λ j lj. let inside : j < k = omega (arith, long, lj) in rw (same j inside) (h.nonzero j (omega arith));
    }

-- a full row has its columns
pub length_full_row : (n : ℕ) (cs : List Coefficient) → length (full_row n cs) ≡ n
length_full_row n cs = length-map-range_with_len (number_at cs) 0 n

-- and at each its number
pub full_row_at : (n : ℕ) (cs : List Coefficient) (v : ℕ) → v < n → slice_index (full_row n cs) v ≡ number_at cs v
full_row_at n cs v l = get_or-map-range_with_len (number_at cs) 0 n v v 0 l (omega arith)

-- numbers that are those of a list are that list
pub full_row_is : (n : ℕ) (cs : List Coefficient) (xs : List ℕ) → length xs ≡ n
    → ((v : ℕ) → v < n → number_at cs v ≡ slice_index xs v) → full_row n cs ≡ xs
full_row_is n cs xs long each =
    let own = length_full_row n cs in
    ext_get_or 0 (full_row n cs) xs (own ∙ sym long)
    (λ v l. let within : v < n = omega (arith, own, l) in full_row_at n cs v within ∙ each v within)

-- without coefficients a row is zeros
pub full_row_none : (n : ℕ) → full_row n [] ≡ replicate n 0
full_row_none n = full_row_is n [] (replicate n 0) (length-replicate n 0) (λ v l. sym (get_or-replicate n v 0 0 l))

-- one more coefficient writes its number at its column, where zero was
pub full_row_push : (n : ℕ) (cs : List Coefficient) (c : Coefficient) → AreCoefficients c.column cs → c.column < n
    → full_row n (cs ++ c ∷ []) ≡ set (full_row n cs) c.column c.number
full_row_push n cs c h within =
    let own = length_full_row n cs in
    full_row_is n (cs ++ c ∷ []) (set (full_row n cs) c.column c.number) (length-set (full_row n cs) c.column c.number ∙ own)
    (λ v l. elim (cases_eq v c.column) [
      | inl here ↦
          rw here (number_push cs c h ∙ sym (get_or-set_same (full_row n cs) c.column c.number 0 (omega (arith, own, within))))
      | inr other ↦
          number_push_other cs c v (λ q. other (sym q))
          ∙ sym (get_or-set_other (full_row n cs) c.column v c.number 0 other ∙ full_row_at n cs v l)
    ])

-- one more column, of number zero
pub full_row_zero : (n : ℕ) (cs : List Coefficient) → AreCoefficients n cs → full_row (n + 1) cs ≡ full_row n cs ++ 0 ∷ []
full_row_zero n cs h =
    map-range_with_len_more (number_at cs) 0 n n (omega arith) ∙ ap (λ x. full_row n cs ++ x ∷ []) (number_past n cs n h (omega arith))

-- one more column, of a number above zero
pub full_row_more : (n : ℕ) (cs : List Coefficient) (number : ℕ) → AreCoefficients n cs
    → full_row (n + 1) (cs ++ record { column = n; number = number } ∷ []) ≡ full_row n cs ++ number ∷ []
full_row_more n cs number h =
    let c : Coefficient = record { column = n; number = number } in
    let before : full_row n (cs ++ c ∷ []) ≡ full_row n cs =
    full_row_is n (cs ++ c ∷ []) (full_row n cs) (length_full_row n cs)
    (λ v l. number_push_other cs c v (λ q. omega arith) ∙ sym (full_row_at n cs v l)) in
    map-range_with_len_more (number_at (cs ++ c ∷ [])) 0 n n (omega arith)
    ∙ (ap (λ x. full_row n (cs ++ c ∷ []) ++ x ∷ []) (number_push cs c h) ∙ ap (λ xs. xs ++ number ∷ []) before)
