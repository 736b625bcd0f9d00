-- The records of a text in CSV, and the lines of a file that begins with a header.
use Rattle.std.specs.Prelude.{◌≡◌, ℕ, List, [], map, slice_index_or}
use Rattle.std.specs.declared.vec.Vec.{Vec}
use Rattle.std.specs.Global.{Global}
use Rattle.csv.specs.Reading.{default_config, records, strip_bom}
use Rattle.csv.specs.Records.{Row, fields_of, partial_of}

-- A record: its fields, each the list of its bytes.
abbrev pub Fields : Type 0
Fields = List (List ℕ)

-- The records of a text, as `csv` reads it: with commas between fields and double quotes around them, and nothing trimmed. A blank line is
-- no record.
abbrev pub records_in : List ℕ → List Fields
records_in bytes = records default_config (strip_bom bytes)

-- Line i, counted from 0.
abbrev pub line_at : List Fields → ℕ → Fields
line_at lines i = slice_index_or lines i []

-- The record with these fields.
abbrev pub fields_seen : List (Vec ℕ Global) → Fields
fields_seen fields = map (λ field. field.items) fields

-- Has the record, as `csv` builds it, these fields, and nothing after the last of them?
pub record HasFields (row : Row) (those : Fields) : Type 0 where
  pub fields : fields_of row ≡ those
  pub partial : partial_of row ≡ []
