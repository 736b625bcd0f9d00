-- Bits of words.
use Rattle.std.specs.Prelude.{◌≡◌, ◌≢◌, ◌⊎◌, ℕ, ◌<◌, ◌≤◌, List, length, slice_index}
use Rattle.std.specs.Int.{bit_at}

-- Is each bit set that was set before?
abbrev pub KeepBits : List ℕ → List ℕ → Type 0
KeepBits before after = (p k : ℕ) → bit_at (slice_index before p) k ≡ 1 → bit_at (slice_index after p) k ≡ 1

-- Is there a word at place p, and is k one of its 64 bits?
pub record HasBitAt (words : List ℕ) (p k : ℕ) : Type 0 where
  pub place : p < length words
  pub bit : k < 64

-- Is bit k set, and each one that was set before?
pub record IsBitAdded (before k after : ℕ) : Type 0 where
  pub own : bit_at after k ≡ 1
  pub kept : (j : ℕ) → bit_at before j ≡ 1 → bit_at after j ≡ 1

-- Is bit k not set, and each other one as before?
pub record IsBitRemoved (before k after : ℕ) : Type 0 where
  pub own : bit_at after k ≡ 0
  pub others : (j : ℕ) → j < 64 → j ≢ k → bit_at after j ≡ bit_at before j

-- Is each bit set that was set before or is set in `bits`?
pub record AreBitsJoined (before bits after : ℕ) : Type 0 where
  pub kept : (k : ℕ) → bit_at before k ≡ 1 → bit_at after k ≡ 1
  pub more : (k : ℕ) → bit_at bits k ≡ 1 → bit_at after k ≡ 1

-- Is bit k set in the word at place p, and each bit of a word that was set before?
pub record IsSetIn (before after : List ℕ) (p k : ℕ) : Type 0 where
  pub as_many : length after ≡ length before
  pub own : bit_at (slice_index after p) k ≡ 1
  pub kept : KeepBits before after

-- Is bit k not set in the word at place p, and each other bit of a word as before?
pub record IsClearedIn (before after : List ℕ) (p k : ℕ) : Type 0 where
  pub as_many : length after ≡ length before
  pub own : bit_at (slice_index after p) k ≡ 0
  pub others : (q j : ℕ) → (q ≢ p) ⊎ (j ≢ k) → j < 64 → bit_at (slice_index after q) j ≡ bit_at (slice_index before q) j

-- Is each bit of `bits` set in the word at place p, and each bit of a word that was set before?
pub record AreJoinedIn (before after : List ℕ) (p bits : ℕ) : Type 0 where
  pub as_many : length after ≡ length before
  pub kept : KeepBits before after
  pub more : (k : ℕ) → bit_at bits k ≡ 1 → bit_at (slice_index after p) k ≡ 1

-- Is `next` the first bit that is set, from `start` on, or 64 or more?
pub record IsNextBit (word start next : ℕ) : Type 0 where
  pub order : start ≤ next
  pub none : (k : ℕ) → start ≤ k → k < next → k < 64 → bit_at word k ≡ 0
  pub found : next < 64 → bit_at word next ≡ 1
