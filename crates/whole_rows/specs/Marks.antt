-- Marks: for each variable the rows that may list it. Row i is bit i mod 64 of word i / 64 of the variable's words.
use Rattle.std.specs.Prelude.{◌≡◌, ℕ, ◌+◌, ◌*◌, ◌/◌, ◌%◌, ◌<◌, ◌≤◌, length, slice_index}
use Rattle.std.specs.Int.{bit_at}
use Rattle.whole_rows.specs.declared.marks.RowMarks.{RowMarks}

-- How many words of 64 rows do a variable's marks take?
abbrev pub words_of : RowMarks → ℕ
words_of marks = marks.words

-- Which word has the bit of row i at variable v?
abbrev pub word_of : RowMarks → ℕ → ℕ → ℕ
word_of marks v i = v * marks.words + i / 64

-- Is there such a word?
abbrev pub HasWord : RowMarks → ℕ → ℕ → Type 0
HasWord marks v i = word_of marks v i < length marks.bits.items

-- Are all words of variable v there?
abbrev pub HasWords : RowMarks → ℕ → Type 0
HasWords marks v = v * marks.words + marks.words ≤ length marks.bits.items

-- Is row i marked at variable v?
abbrev pub IsMarked : RowMarks → ℕ → ℕ → Type 0
IsMarked marks v i = bit_at (slice_index marks.bits.items (word_of marks v i)) (i % 64) ≡ 1

-- Is no row marked at any variable?
abbrev pub HaveNone : RowMarks → Type 0
HaveNone marks = (v i : ℕ) → IsMarked marks v i → ⊥

-- Is there a bit for each of this many rows at each of this many variables?
pub record HaveRoom (variables rows : ℕ) (marks : RowMarks) : Type 0 where
  pub row_each : rows ≤ 64 * marks.words
  pub word_each : variables * marks.words ≤ length marks.bits.items

-- Has each variable a bit for row i?
abbrev pub HasRow : RowMarks → ℕ → Type 0
HasRow marks i = i < 64 * marks.words

-- Are there as many words as before?
pub record HaveSameRoom (before after : RowMarks) : Type 0 where
  pub words : after.words ≡ before.words
  pub as_many : length after.bits.items ≡ length before.bits.items

-- Are there as many words as before, and is each row still marked where it was?
pub record AreKept (before after : RowMarks) : Type 0 where
  pub words : after.words ≡ before.words
  pub as_many : length after.bits.items ≡ length before.bits.items
  pub marked : (v i : ℕ) → IsMarked before v i → IsMarked after v i
