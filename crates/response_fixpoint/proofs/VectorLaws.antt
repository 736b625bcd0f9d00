-- Laws of vectors: sums over them, and when two are equal.
use Rattle.std.proofs.Common.{◌≡◌, ◌≢◌, ℕ, zero, suc, ◌<◌, ◌≤◌, true, false, List, length, sym, ◌∙◌, arith, inl, inr}
use Rattle.std.proofs.lemmas.Bool.{cases_lt}
use Rattle.std.specs.Prelude.{slice_index}
use Rattle.std.proofs.lemmas.Grind.{same_number_lists}
use Rattle.std.specs.Str.{bytes_eq}
use Rattle.std.proofs.lemmas.Slice.Eq.{bytes_eq-Decides}
use Rattle.number_laws.specs.Sums.{sum_below}
use Rattle.sporadic_model.specs.Bounds.{AtMost}

-- The sum of the first n places of a vector.
abbrev pub total : ℕ → List ℕ → ℕ
total n r = sum_below n (slice_index r)

-- If a vector is at most another in n places, it is so in fewer places.
pub fewer : (n : ℕ) (r s : List ℕ) → AtMost (suc n) r s → AtMost n r s
fewer n r s h = λ i below. h i (omega arith)

pub total_rises : (n : ℕ) (r s : List ℕ) → AtMost n r s → total n r ≤ total n s
total_rises zero r s h = omega arith
total_rises (suc n) r s h =
    let before = total_rises n r s (fewer n r s h) in
    let here : slice_index r n ≤ slice_index s n = h n (omega arith) in
    omega arith

-- If a vector is at most another and its sum is no less, the two agree in each place.
pub same_total : (n : ℕ) (r s : List ℕ) → AtMost n r s → total n s ≤ total n r → (i : ℕ) → i < n → slice_index r i ≡ slice_index s i
same_total zero r s h t i below = absurd (omega arith)
same_total (suc n) r s h t i below =
    let before = total_rises n r s (fewer n r s h) in
    let here : slice_index r n ≤ slice_index s n = h n (omega arith) in
    let rest : total n s ≤ total n r = omega arith in
    elim (cases_lt i n) [
      | inl earlier ↦ same_total n r s (fewer n r s h) rest i earlier
      | inr later ↦
          let last : i ≡ n = omega arith in
          let same : slice_index r n ≡ slice_index s n = omega arith in
          rw last same
    ]

-- A vector that is at most another one and differs from it has a smaller sum.
pub total_grows : (n : ℕ) (r s : List ℕ) → length r ≡ n → length s ≡ n → AtMost n r s → r ≢ s → total n r < total n s
total_grows n r s a b h differs =
    elim (cases_lt (total n r) (total n s)) [
      | inl less ↦ less
      | inr more ↦ absurd (differs (same_number_lists r s (a ∙ sym b) (λ i below. same_total n r s h more i (omega arith))))
    ]

-- What a test of two vectors says.
pub same_vectors : (xs ys : List ℕ) → true ≡ bytes_eq xs ys → xs ≡ ys
same_vectors xs ys e = (bytes_eq-Decides xs ys).0 (sym e)

pub other_vectors : (xs ys : List ℕ) → false ≡ bytes_eq xs ys → ys ≢ xs
other_vectors xs ys e = λ same. (let yes = (bytes_eq-Decides xs ys).1 (sym same) in let both : false ≡ true = e ∙ yes in cc)
