-- A digest has 32 bytes.
use Rattle.std.proofs.Common.{ℕ, zero, suc, ◌<◌, List, [], ◌∷◌, ◌++◌, arith}
use Rattle.std.specs.Prelude.{slice_index}
use Rattle.std.specs.Int.{byte_at, bytes_high_first}
use Rattle.hex.specs.Hex.{IsBytes}
use Rattle.sha2.specs.Sha256.{digest_bytes, final_hash, initial_hash_256, sha256}
use Rattle.sha2.proofs.Facts256.{length-sha256}
use Rattle.cert_json.specs.Digests.{IsDigest}

none_is_bytes : IsBytes []
none_is_bytes i = omega arith

one_more : (x : ℕ) (xs : List ℕ) → x < 256 → IsBytes xs → IsBytes (x ∷ xs)
one_more x xs h k zero = h
one_more x xs h k (suc i) = k i

both_are_bytes : (xs ys : List ℕ) → IsBytes xs → IsBytes ys → IsBytes (xs ++ ys)
both_are_bytes [] ys h k = k
both_are_bytes (x ∷ xs) ys h k = one_more x (xs ++ ys) (h 0) (both_are_bytes xs ys (λ i. h (suc i)) k)

below_256 : (k n : ℕ) → byte_at k n < 256
below_256 zero n = omega arith
below_256 (suc k) n = omega arith

written_bytes : (k n : ℕ) → IsBytes (bytes_high_first k n)
written_bytes zero n = none_is_bytes
written_bytes (suc k) n = one_more (byte_at k n) (bytes_high_first k n) (below_256 k n) (written_bytes k n)

digest_is_bytes : (h : List ℕ) (n : ℕ) → IsBytes (digest_bytes h n)
unfolding digest_bytes
digest_is_bytes h zero = none_is_bytes
digest_is_bytes h (suc n) = both_are_bytes (digest_bytes h n) (bytes_high_first 4 (slice_index h n)) (digest_is_bytes h n)
    (written_bytes 4 (slice_index h n))

sha256_is_bytes : (m : List ℕ) → IsBytes (sha256 m)
unfolding sha256
sha256_is_bytes m = digest_is_bytes (final_hash initial_hash_256 m) 8

pub is_digest : (m : List ℕ) → IsDigest (sha256 m)
is_digest m = record { size = length-sha256 m; bytes = sha256_is_bytes m }
