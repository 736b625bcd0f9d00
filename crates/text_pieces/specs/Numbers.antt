-- Numbers in text: decimal digits without a sign, and without a leading zero, except for `0` itself.
use Rattle.std.specs.Prelude.{ℕ, ◌+◌, ◌-◌, ◌*◌, ◌==◌, ◌&&◌, ◌||◌, not, Bool, List, [], ◌∷◌, length, slice_index, Option}
use Rattle.std.specs.Prelude.{None, Some, if◌then◌else◌}
use Rattle.std.specs.List.{list_all}
use Rattle.std.specs.Option.{option_and_then}
use Rattle.std.specs.Int.{is_in_range}

-- The code of the digit 0.
abbrev pub zero_digit : ℕ
zero_digit = 48

-- Is the byte a decimal digit?
abbrev pub is_digit : ℕ → Bool
is_digit b = is_in_range zero_digit 57 b

-- The number of these digits after the digits of n.
abbrev pub value_after : ℕ → List ℕ → ℕ
value_after n [] = n
value_after n (d ∷ ds) = value_after (n * 10 + (d - zero_digit)) ds

-- Has the text the form of a number?
abbrev pub is_number : List ℕ → Bool
is_number text = not (length text == 0) && (list_all is_digit text && (not (slice_index text 0 == zero_digit) || (length text == 1)))

-- The number of the text, if it is one.
abbrev pub number_in : List ℕ → Option ℕ
number_in text = if is_number text then Some (value_after 0 text) else None

-- The number of the text, if it is one in the range.
abbrev pub if_in_range : ℕ → ℕ → ℕ → Option ℕ
if_in_range least most n = if is_in_range least most n then Some n else None

abbrev pub number_between : ℕ → ℕ → List ℕ → Option ℕ
number_between least most text = option_and_then (if_in_range least most) (number_in text)
