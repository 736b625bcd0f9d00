-- What an input is, what is known of inputs, and what is answered to an input that gives no value.
use Rattle.std.specs.Prelude.{◌≡◌, ℕ, ◌<◌, ◌≤◌, ◌⊎◌, Bool, true, false, List, [], ◌∷◌, ◌++◌, length, codes, refl}
use Rattle.std.specs.Prelude.{Option, None, Some, IsSomeAnd, Result, Ok, Err}
use Rattle.outside_ports.specs.Names.{Inputs, bytes_of, IsNamed, IsLonger, IsAbsent}
use Rattle.outside_ports.specs.Past.{Asked, wholly, partly, unbegun}
use Rattle.outside_ports.specs.Ports.{ShelfDef}
use Rattle.outside_ports.specs.declared.shelf.ShelfFault.{ShelfFault}
use Rattle.outside_ports.specs.declared.shelf.ShelfFault.TheVariants.{Absent}
use Rattle.outside_ports.specs.declared.whole.TheConstants.{GREATEST_INPUT_BYTES}
use Rattle.reply_texts.specs.Texts.{refused_text, fault_text}

-- What goes out: a status and a text.
pub record Answer : Type 0 where
  pub status : ℕ
  pub text : List ℕ

-- An input that a command reads: its word in answers, how its bytes are read to a value or a refusal, and the reason that a refusal
-- prints.
pub record Input : Type 1 where
  pub Value : Type 0
  pub Refusal : Type 0
  pub word : List ℕ
  pub reads : List ℕ → Result Value Refusal → Type 0
  pub reason : Refusal → List ℕ

-- The answer that refuses an input for this reason.
abbrev pub refused : List ℕ → List ℕ → Answer
refused word reason = record { status = 3; text = refused_text word reason }

-- The answer to an input that couldn't be read.
abbrev pub read_fault : List ℕ → Answer
read_fault word = record { status = 4; text = fault_text word }

-- What is known of inputs. May the one of this name be absent? May it be too long? May it have these bytes? May the one that is read
-- last have these? And may these be all readings, in this order?
pub record Known : Type 1 where
  pub absent : List ℕ → Type 0
  pub longer : List ℕ → Type 0
  pub has : List ℕ → List ℕ → Type 0
  pub last : List ℕ → Type 0
  pub asked : List Asked → Type 0

-- What is known of the rest, after this reading.
abbrev pub past : Known → Asked → Known
past known one = record {
  absent = known.absent;
  longer = known.longer;
  has = known.has;
  last = known.last;
  asked = λ later. known.asked (one ∷ later);
}

-- The readings of a shelf after these further ones, which are given first to last. A shelf lists its last one first.
abbrev pub readings_after : List Asked → List Asked → List Asked
readings_after had [] = had
readings_after had (one ∷ later) = readings_after (one ∷ had) later

-- a set and then a certificate were read
pub readings_after-example : (set cert : List ℕ) → readings_after [] (wholly (codes "set") set ∷ wholly (codes "cert") cert ∷ [])
    ≡ wholly (codes "cert") cert ∷ wholly (codes "set") set ∷ []
readings_after-example set cert = refl

-- What is known if these are the named inputs.
abbrev pub told : Inputs → Known
told inputs = record {
  absent = λ name. bytes_of inputs name ≡ None;
  longer = λ name. IsSomeAnd (bytes_of inputs name) (λ bytes. GREATEST_INPUT_BYTES < length bytes);
  has = λ name bytes. (bytes_of inputs name ≡ Some bytes) × (length bytes ≤ GREATEST_INPUT_BYTES);
  last = λ bytes. Unit {0};
  asked = λ readings. Unit {0};
}

-- What a shelf shows of a call. Its inputs, if it tells them. Its count of faults before and after. The number of bytes that it has
-- given since the last start. Its readings before and after, the last one first.
pub record Shown : Type 0 where
  pub names : Option Inputs
  pub before : ℕ
  pub now : ℕ
  pub given : ℕ
  pub had : List Asked
  pub has : List Asked

-- What a shelf shows of a call that changes it from `old` to `new`.
abbrev pub shown : ShelfDef → ShelfDef → Shown
shown old new = record {
  names = old.names;
  before = old.faults;
  now = new.faults;
  given = new.given;
  had = old.readings;
  has = new.readings;
}

-- What is known from that. An input is absent if the told names lack it. If they aren't told, it is absent if the count rose. It is too
-- long if too many bytes were given. The input that is read last has as many bytes as were given. The readings of the call are those
-- that the shelf has beyond the ones that it had.
abbrev pub shown_by : Shown → Known
shown_by shelf = record {
  absent = λ name. IsAbsent shelf.names name shelf.before shelf.now × (shelf.given ≤ GREATEST_INPUT_BYTES);
  longer = λ name. IsLonger shelf.names name GREATEST_INPUT_BYTES × (GREATEST_INPUT_BYTES < shelf.given);
  has = λ name bytes. IsNamed shelf.names name bytes × (length bytes ≤ GREATEST_INPUT_BYTES);
  last = λ bytes. length bytes ≡ shelf.given;
  asked = λ readings. shelf.has ≡ readings_after shelf.had readings;
}

-- Can an input with these bytes, or an absent one, have given this: this fault, or these bytes with or without its end? A start that
-- failed for another reason says nothing.
abbrev pub FitsWith : Option (List ℕ) → Option ShelfFault → Bool → List ℕ → Type 0
FitsWith named (Some Absent) ended bytes = named ≡ None
FitsWith named (Some _) ended bytes = Unit {0}
FitsWith named None true bytes = named ≡ Some bytes
FitsWith named None false bytes = (rest : List ℕ) × (named ≡ Some (bytes ++ rest))

-- Do the named inputs fit all of these readings?
abbrev pub FitAll : Inputs → List Asked → Type 0
FitAll inputs [] = Unit {0}
FitAll inputs (one ∷ later) = FitsWith (bytes_of inputs one.name) one.fault one.ended one.bytes × FitAll inputs later

-- Are these the inputs of a call? The shelf tells them, or they fit all readings of the call.
abbrev pub AreInputs : Shown → Inputs → Type 0
AreInputs shelf inputs = (shelf.names ≡ Some inputs)
    ⊎ ((readings : List Asked) → shelf.has ≡ readings_after shelf.had readings → FitAll inputs readings)

-- Is this the answer to an input that gives no value: it is absent, too long or refused? It is the last input that is asked for.
abbrev pub IsStopped : Known → Input → List ℕ → Answer → Type 0
IsStopped known input name answer =
    (known.absent name × known.asked (unbegun name Absent ∷ []) × (answer ≡ refused input.word (codes "absent")))
    ⊎ (((part : List ℕ) × known.longer name × (GREATEST_INPUT_BYTES < length part) × known.asked (partly name part ∷ [])
    × (answer ≡ refused input.word (codes "toolong")))
    ⊎ ((bytes : List ℕ) × (refusal : input.Refusal) × (known.has name bytes) × (known.last bytes) × known.asked (wholly name bytes ∷ [])
    × (input.reads bytes (Err refusal)) × (answer ≡ refused input.word (input.reason refusal))))

-- Is the input of this name there and accepted, with these bytes and this value?
abbrev pub IsRead : Known → (input : Input) → List ℕ → List ℕ → input.Value → Type 0
IsRead known input name bytes value = known.has name bytes × input.reads bytes (Ok value)
