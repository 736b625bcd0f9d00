-- Which texts are names.
use Rattle.std.specs.Prelude.{ℕ, ◌==◌, ◌&&◌, ◌||◌, Bool, List, length}
use Rattle.std.specs.List.{list_all}
use Rattle.std.specs.Int.{is_in_range}
use Rattle.std.specs.Char.{is_ascii_alphanumeric}
use Rattle.sporadic_model.specs.declared.limits.TheConstants.{MOST_NAME}

-- May the byte be in a name: is it a letter, a digit, or one of _ . - ?
abbrev pub is_name_byte : ℕ → Bool
is_name_byte b = is_ascii_alphanumeric b || b == 95 || b == 46 || b == 45

-- Is the text a name: from 1 to 32 such bytes?
abbrev pub is_name : List ℕ → Bool
is_name text = is_in_range 1 MOST_NAME (length text) && list_all is_name_byte text
