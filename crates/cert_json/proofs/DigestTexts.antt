-- The text of a digest is one, and is read as that digest.
use Rattle.std.proofs.Common.{◌≡◌, ℕ, zero, suc, ◌<◌, ◌*◌, ◌/◌, ◌%◌, ◌&&◌, Bool, true, List, [], ◌∷◌, length}
use Rattle.std.proofs.Common.{Some, refl, ap, ap₂, ◌∙◌, arith, inl, inr}
use Rattle.std.specs.Prelude.{slice_index, nat_lt}
use Rattle.std.specs.List.{list_all}
use Rattle.std.proofs.lemmas.Bool.{and_parts, cases_lt, ltb-true}
use Rattle.std.proofs.lemmas.Str.{IsUtf8-from_ascii}
use Rattle.std.proofs.lemmas.Str.Ascii.{IsAscii-nil, IsAscii-cons}
use Rattle.std.specs.Str.{IsAscii, IsUtf8}
use Rattle.hex.specs.Hex.{IsBytes, encode_with, lower_digits}
use Rattle.hex.proofs.HexLemmas.{decode_of-encode_lower, length-encode_with, IsAscii-encode_with}
use Rattle.cert_json.specs.Digests.{IsDigest, digest_text, is_digit, is_digest_text, digest_of}

-- The digits of the first n numbers are digits.
abbrev are_first : ℕ → Bool
are_first zero = true
are_first (suc n) = is_digit (slice_index lower_digits n) && are_first n

at_place : (n k : ℕ) → are_first n ≡ true → k < n → is_digit (slice_index lower_digits k) ≡ true
at_place zero k h below = absurd (omega arith)
at_place (suc n) k h below =
    let parts = and_parts (is_digit (slice_index lower_digits n)) (are_first n) h in
    elim (cases_lt k n) [
      | inl less ↦ at_place n k parts.1 less
      | inr top ↦
          let same : k ≡ n = omega arith in
          rw same parts.0
    ]

digit_of : (k : ℕ) → k < 16 → is_digit (slice_index lower_digits k) ≡ true
digit_of k below = at_place 16 k refl below

written_in_digits : (bytes : List ℕ) → IsBytes bytes → list_all is_digit (encode_with lower_digits bytes) ≡ true
unfolding encode_with
written_in_digits [] h = refl
written_in_digits (b ∷ bytes) h =
    let first : b < 256 = h 0 in
    ap₂ (λ x y. x && y) (digit_of (b / 16) (omega (arith, first)))
    (ap₂ (λ x y. x && y) (digit_of (b % 16) (omega arith)) (written_in_digits bytes (λ i. h (suc i))))

pub text_of_digest : (digest : List ℕ) → IsDigest digest → is_digest_text (digest_text digest) ≡ true
text_of_digest digest h =
    let size : length (digest_text digest) ≡ 64 = length-encode_with lower_digits digest ∙ ap (λ n. 2 * n) h.size in
    rw (size, written_in_digits digest h.bytes) refl

pub read_again : (digest : List ℕ) → IsDigest digest → digest_of (digest_text digest) ≡ Some digest
read_again digest h = rw (text_of_digest digest h, decode_of-encode_lower digest h.bytes) refl

ascii_of : (text : List ℕ) → list_all (λ c. nat_lt c 128) text ≡ true → IsAscii text
ascii_of [] h = IsAscii-nil
ascii_of (c ∷ text) h =
    let parts = and_parts (nat_lt c 128) (list_all (λ x. nat_lt x 128) text) h in
    IsAscii-cons c text (ltb-true c 128 parts.0) (ascii_of text parts.1)

pub text_is_utf8 : (digest : List ℕ) → IsUtf8 (digest_text digest)
text_is_utf8 digest =
    IsUtf8-from_ascii (digest_text digest) (IsAscii-encode_with lower_digits digest (ascii_of lower_digits refl))
