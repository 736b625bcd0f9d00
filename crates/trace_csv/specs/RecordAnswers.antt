-- What do the calls that read records say?
use Rattle.std.specs.Prelude.{◌≡◌, ◌<◌, ◌≤◌, ◌+◌, ℕ, List, [], ◌∷◌, length, drop, Option, None, Some, Result, Ok, Err}
use Rattle.std.specs.declared.alloc.AllocError.{AllocError}
use Rattle.csv.specs.Machine.{Read, next_record}
use Rattle.csv.specs.Reading.{default_config, records_from}
use Rattle.csv.specs.declared.parser.State.{State}
use Rattle.trace_csv.specs.declared.bytes.ReaderPlace.{ReaderPlace}
use Rattle.trace_csv.specs.declared.records.Piece.{Piece}
use Rattle.trace_csv.specs.declared.records.Piece.TheVariants as piece
use Rattle.trace_csv.specs.declared.records.Next.{Next}
use Rattle.trace_csv.specs.declared.records.Next.TheVariants as next
use Rattle.trace_csv.specs.Places.{place_seen}
use Rattle.trace_csv.specs.Records.{Fields, fields_seen}

-- The record that `csv` reads next in a text, from a state between records.
abbrev pub record_next : State → List ℕ → Option Read
record_next s text = next_record default_config s [] [] text

-- The records that it reads from there on.
abbrev pub records_left : State → List ℕ → List Fields
records_left s text = records_from default_config (length text + 1) s text

-- Either the next record, with the place and the bytes after it. Or it has more fields than the most. Or there is none.
abbrev pub PieceRead : Result Piece AllocError → ReaderPlace → List ℕ → ℕ → Type 0
PieceRead (Ok (piece.Record fields place taken)) from text most =
    (taken ≤ length text) × (record_next (place_seen from) text ≡ Some (fields_seen fields.items, place_seen place, drop taken text))
PieceRead (Ok piece.Long) from text most =
    (read : Read) × (record_next (place_seen from) text ≡ Some read) × (most < length read.0)
PieceRead (Ok piece.End) from text most = record_next (place_seen from) text ≡ None
PieceRead (Err _) from text most = Unit {0}

-- Either the first of the records that were left, and those that are left now. Or the first has more fields than the most. Or none was
-- left, and none is now.
abbrev pub IsNext : Result Next AllocError → List Fields → List Fields → ℕ → Type 0
IsNext (Ok (next.Record fields)) before after most = before ≡ fields_seen fields.items ∷ after
IsNext (Ok next.Long) before after most = (line : Fields) × (more : List Fields) × (before ≡ line ∷ more) × (most < length line)
IsNext (Ok next.End) before after most = (before ≡ []) × (after ≡ [])
IsNext (Err _) before after most = Unit {0}
