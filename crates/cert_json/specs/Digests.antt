-- Digests, and their texts.
use Rattle.std.specs.Prelude.{◌≡◌, ℕ, ◌&&◌, ◌||◌, ◌==◌, Bool, nat_le, List, length, Option, None, if◌then◌else◌}
use Rattle.std.specs.List.{list_all}
use Rattle.std.specs.Result.{result_ok}
use Rattle.hex.specs.Hex.{IsBytes, decode_of, encode_lower}

-- How many bytes has a digest, and how many digits its text?
abbrev pub size_of_digest : ℕ
size_of_digest = 32

abbrev pub size_of_text : ℕ
size_of_text = 64

-- Has the list the form of a digest?
pub record IsDigest (digest : List ℕ) : Type 0 where
  pub size : length digest ≡ size_of_digest
  pub bytes : IsBytes digest

-- The text of a digest: two digits for each byte, of 0 to 9 and a to f, the high one first.
abbrev pub digest_text : List ℕ → List ℕ
digest_text digest = encode_lower digest

-- Is it such a digit?
abbrev pub is_digit : ℕ → Bool
is_digit c = (nat_le 48 c && nat_le c 57) || (nat_le 97 c && nat_le c 102)

-- Is it the text of a digest?
abbrev pub is_digest_text : List ℕ → Bool
is_digest_text text = (length text == size_of_text) && list_all is_digit text

-- The digest of the text, if it is the text of one.
abbrev pub digest_of : List ℕ → Option (List ℕ)
digest_of text = if is_digest_text text then result_ok (decode_of text) else None
