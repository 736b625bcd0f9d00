-- The values of the members of a JSON object. If a member is given twice, its value is the one that reading kept.
use Rattle.std.specs.Prelude.{ℕ, List, [], ◌∷◌, Option, Some, None, option_and_then, unwrap_or}
use Rattle.serde_json.specs.Data.{Data, Items, no_items, item, Members, no_members, member}
use Rattle.serde_json.specs.Find.{get, as_number, as_u64, as_str, as_array}

-- The whole number that the value is: it is written only in digits, and is below 2^64.
abbrev pub whole : Data → Option ℕ
whole d = option_and_then as_u64 (as_number d)

-- The values of a list.
abbrev pub values_of : Items → List Data
values_of no_items = []
values_of (item d ds) = d ∷ values_of ds

abbrev pub values_in : Option Items → List Data
values_in None = []
values_in (Some ds) = values_of ds

-- The names of an object's members.
abbrev pub names_of : Members → List (List ℕ)
names_of no_members = []
names_of (member name d ms) = name ∷ names_of ms

-- The whole number of the member, if there is one.
abbrev pub whole_at : List ℕ → Data → Option ℕ
whole_at name d = option_and_then whole (get name d)

-- The whole number of the member, or the other number if there is none.
abbrev pub whole_or : ℕ → List ℕ → Data → ℕ
whole_or other name d = unwrap_or (whole_at name d) other

-- The text of the member, empty if there is none.
abbrev pub text_at : List ℕ → Data → List ℕ
text_at name d = unwrap_or (option_and_then as_str (get name d)) []

-- The values of the member's list, or none if there is no list.
abbrev pub list_at : List ℕ → Data → List Data
list_at name d = values_in (option_and_then as_array (get name d))
