-- Where the bits of marks lie.
use Rattle.std.proofs.Common.{◌≡◌, ◌≢◌, ◌⊎◌, inl, inr, ℕ, zero, suc, List, replicate, ◌+◌, ◌-◌, ◌*◌, ◌/◌, ◌%◌, ◌^◌, ◌<◌, ◌≤◌}
use Rattle.std.proofs.Common.{w64, sym, ap, refl}
use Rattle.std.proofs.Common.{◌∙◌, arith}
use Rattle.std.specs.Prelude.{slice_index}
use Rattle.std.specs.Int.{bit_at, trailing_zeros}
use Rattle.std.proofs.lemmas.Bool.{cases_eq, cases_lt}
use Rattle.std.proofs.lemmas.Nat.{shr-shr, shr_le}
use Rattle.std.proofs.lemmas.Nat.Bits.{bit_at-trailing_zeros, bit_at-zero}
use Rattle.std.proofs.Math.Nat.{mul-le-mul_right, suc-mul}
use Rattle.whole_rows.specs.Marks.{HasWord, HasWords, HaveRoom, AreKept}
use Rattle.whole_rows.specs.declared.marks.RowMarks.{RowMarks}

-- a bit of what a shift leaves
shifted : (word bit k : ℕ) → bit ≤ k → bit_at word k ≡ bit_at (word / 2 ^ bit) (k - bit)
shifted word bit k l =
    let back : bit + (k - bit) ≡ k = omega arith in
    sym (ap (λ x. x % 2) (shr-shr word bit (k - bit)) ∙ ap (λ x. bit_at word x) back)

-- below the first bit that is set none is
pub none_before : (word bit k : ℕ) → word < 2 ^ 64 → bit ≤ k → k < bit + trailing_zeros w64 (word / 2 ^ bit) → bit_at word k ≡ 0
none_before word bit k fits l less = elim (cases_eq (word / 2 ^ bit) 0) [
  | inl none ↦ shifted word bit k l ∙ (ap (λ x. bit_at x (k - bit)) none ∙ bit_at-zero (k - bit))
  | inr some ↦
      let rest : word / 2 ^ bit < 2 ^ 64 = omega (arith, shr_le word bit) in
      shifted word bit k l ∙ (bit_at-trailing_zeros w64 (word / 2 ^ bit) (omega (arith, some)) rest).2 (k - bit) (omega (arith, less, l))
]

-- where no bit is set all 64 are zeros
zeros_of_zero : trailing_zeros w64 0 ≡ 64
unfolding lib.Count.count_trailing_zeros
zeros_of_zero = refl

-- what the zeros below it lead to is a bit that is set
pub first_set : (word bit : ℕ) → word < 2 ^ 64 → bit + trailing_zeros w64 (word / 2 ^ bit) < 64
    → bit_at word (bit + trailing_zeros w64 (word / 2 ^ bit)) ≡ 1
first_set word bit fits within = elim (cases_eq (word / 2 ^ bit) 0) [
  | inl none ↦
      let beyond : bit + trailing_zeros w64 0 < 64 = rw none at within in
      absurd (omega (arith, beyond, zeros_of_zero))
  | inr some ↦
      let rest : word / 2 ^ bit < 2 ^ 64 = omega (arith, shr_le word bit) in
      let lowest = bit_at-trailing_zeros w64 (word / 2 ^ bit) (omega (arith, some)) rest in
      let zeros = trailing_zeros w64 (word / 2 ^ bit) in
      ap (λ x. x % 2) (sym (shr-shr word bit zeros)) ∙ lowest.1
]

-- the words of a variable end where those of the next one begin
times_next : (v n w : ℕ) → v < n → v * w + w ≤ n * w
times_next v n w l =
    let next : suc v * w ≤ n * w = mul-le-mul_right w (omega (arith, l)) in
    omega (arith, next, suc-mul v w)

pub words_within : (variables rows v : ℕ) (marks : RowMarks) → HaveRoom variables rows marks → v < variables → HasWords marks v
words_within variables rows v marks room l = omega (arith, times_next v variables marks.words l, room.word_each)

-- so each row has its word
pub has_word : (variables rows v i : ℕ) (marks : RowMarks) → HaveRoom variables rows marks → v < variables → i < rows → HasWord marks v i
has_word variables rows v i marks room lv li =
    let row : i / 64 < marks.words = omega (arith, room.row_each, li) in
    omega (arith, row, words_within variables rows v marks room lv)

-- and no word is another variable's
words_apart : (u v j words : ℕ) → u ≢ v → j < 64 * words → (u * words + j / 64 < v * words) ⊎ (v * words + words ≤ u * words + j / 64)
words_apart u v j words away l =
    let row : j / 64 < words = omega (arith, l) in
    elim (cases_lt u v) [
      | inl below ↦ inl (omega (arith, row, times_next u v words below))
      | inr above ↦ inr (omega (arith, times_next v u words (omega (arith, above, away))))
    ]

-- nor is a bit another row's
pub bits_apart : (u v j i words : ℕ) → (u ≢ v) ⊎ (j ≢ i) → i < 64 * words → j < 64 * words
    → (u * words + j / 64 ≢ v * words + i / 64) ⊎ (j % 64 ≢ i % 64)
bits_apart u v j i words apart li lj = elim (cases_eq u v) [
  | inl here ↦ elim apart [
    | inl other ↦ absurd (other here)
    | inr other ↦ elim (cases_eq (j / 64) (i / 64)) [
      | inl word ↦ inr (λ bit. other (omega arith))
      | inr word ↦
          inl (λ same. word (let own : v * words + j / 64 ≡ v * words + i / 64 = rw here at same in omega (arith, own)))
    ]
  ]
  | inr away ↦
      let row : i / 64 < words = omega (arith, li) in
      inl (λ same. elim (words_apart u v j words away lj) [
        | inl below ↦ absurd (omega (arith, below, same))
        | inr above ↦ absurd (omega (arith, above, same, row))
      ])
]

-- marking removes no room
pub room_kept : (variables rows : ℕ) (before after : RowMarks) → HaveRoom variables rows before → AreKept before after
    → HaveRoom variables rows after
room_kept variables rows before after room kept = record {
  row_each = rw kept.words room.row_each;
  word_each = rw (kept.words, kept.as_many) room.word_each;
}

pub word_kept : (v i : ℕ) (before after : RowMarks) → AreKept before after → HasWord before v i → HasWord after v i
word_kept v i before after kept has = rw (kept.words, kept.as_many) has

-- words of zeros mark no row
zero_at : (n p : ℕ) → slice_index (replicate n 0) p ≡ 0
zero_at zero p = refl
zero_at (suc n) zero = refl
zero_at (suc n) (suc p) = zero_at n p

pub zeros_mark_none : (words : List ℕ) (n p k : ℕ) → words ≡ replicate n 0 → bit_at (slice_index words p) k ≡ 1 → ⊥
zeros_mark_none words n p k zeros marked =
    let word : slice_index words p ≡ 0 = rw zeros (zero_at n p) in
    let set : bit_at 0 k ≡ 1 = rw word at marked in
    absurd (omega (arith, set, bit_at-zero k))
