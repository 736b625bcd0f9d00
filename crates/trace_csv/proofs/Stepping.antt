-- Reading a record byte by byte.
use Rattle.std.proofs.Common.{◌≡◌, ◌<◌, ◌≤◌, ◌+◌, ◌++◌, ℕ, List, [], ◌∷◌, length, Bool, true, false, None, Some}
use Rattle.std.proofs.Common.{refl, sym, ap, ◌∙◌, arith, ◌==◌, inl, inr, get_or, drop, add-one, drop-cons}
use Rattle.std.proofs.lemmas.Bool.{cases_Bool, false≢true}
use Rattle.std.proofs.lemmas.List.{length-append, drop_all}
use Rattle.csv.specs.Machine.{Read, next_record, step, is_end, ends_at_end, fields_after, field_after}
use Rattle.csv.specs.Reading.{default_config}
use Rattle.csv.specs.declared.parser.State.{State}
use Rattle.csv.specs.declared.parser.State.TheVariants as st
use Rattle.csv.specs.declared.parser.Action.{Action}
use Rattle.csv.specs.declared.parser.Action.TheVariants as act
use Rattle.trace_csv.specs.declared.bytes.ReaderPlace.{ReaderPlace}
use Rattle.trace_csv.specs.declared.bytes.ReaderPlace.TheVariants as place
use Rattle.trace_csv.specs.Places.{place_seen}
use Rattle.trace_csv.specs.Records.{Fields}
use Rattle.trace_csv.specs.RecordAnswers.{record_next}

-- A byte that ends no record leaves the same record to be read.
step_on : (s : State) (fields : Fields) (field : List ℕ) (c : ℕ) (rest : List ℕ) → is_end (step default_config s c).1 ≡ false
    → next_record default_config s fields field (c ∷ rest)
    ≡ next_record default_config (step default_config s c).0 (fields_after (step default_config s c).1 fields field)
    (field_after (step default_config s c).1 c field) rest
unfolding next_record
step_on s fields field c rest goes = rw goes refl

pub goes_on : (s s2 : State) (a : Action) (fields fields2 : Fields) (field field2 : List ℕ) (c : ℕ) (rest : List ℕ)
    → s2 ≡ (step default_config s c).0 → a ≡ (step default_config s c).1 → is_end a ≡ false
    → fields2 ≡ fields_after a fields field → field2 ≡ field_after a c field
    → next_record default_config s fields field (c ∷ rest) ≡ next_record default_config s2 fields2 field2 rest
goes_on s s2 a fields fields2 field field2 c rest e f goes g h = rw (e, g, h, f) (step_on s fields field c rest (rw f at goes))

-- One that ends it.
step_end : (s : State) (fields : Fields) (field : List ℕ) (c : ℕ) (rest : List ℕ) → is_end (step default_config s c).1 ≡ true
    → next_record default_config s fields field (c ∷ rest)
    ≡ Some (fields_after (step default_config s c).1 fields field, (step default_config s c).0, rest)
unfolding next_record
step_end s fields field c rest ends = rw ends refl

pub ends_here : (s s2 : State) (a : Action) (fields fields2 : Fields) (field : List ℕ) (c : ℕ) (rest : List ℕ)
    → s2 ≡ (step default_config s c).0 → a ≡ (step default_config s c).1 → is_end a ≡ true
    → fields2 ≡ fields_after a fields field
    → next_record default_config s fields field (c ∷ rest) ≡ Some (fields2, s2, rest)
ends_here s s2 a fields fields2 field c rest e f ends g = rw (e, g, f) (step_end s fields field c rest (rw f at ends))

-- The end of the text.
pub ends_last : (s : State) (fields : Fields) (field : List ℕ) → ends_at_end s ≡ true
    → next_record default_config s fields field [] ≡ Some (fields ++ (field ∷ []), st.StartRecord, [])
unfolding next_record
ends_last s fields field ends = rw ends refl

pub ends_none : (s : State) (fields : Fields) (field : List ℕ) → ends_at_end s ≡ false
    → next_record default_config s fields field [] ≡ None
unfolding next_record
ends_none s fields field stays = rw stays refl

-- Is a record begun in this state? Readers with the defaults begin no escape and no comment.
abbrev is_inside : State → Bool
is_inside st.StartRecord = false
is_inside st.AfterCr = false
is_inside st.StartField = true
is_inside st.InField = true
is_inside st.InQuoted = true
is_inside st.AfterQuote = true
is_inside st.InEscape = false
is_inside st.InComment = false

inside_of : (p : ReaderPlace) → ends_at_end (place_seen p) ≡ true → is_inside (place_seen p) ≡ true
inside_of place.Between e = e
inside_of place.AfterReturn e = e
inside_of place.FieldStart e = refl
inside_of place.Plain e = refl
inside_of place.Quoted e = refl
inside_of place.AfterQuote e = refl

ends_inside : (s : State) → is_inside s ≡ true → ends_at_end s ≡ true
ends_inside st.StartRecord e = e
ends_inside st.AfterCr e = e
ends_inside st.StartField e = refl
ends_inside st.InField e = refl
ends_inside st.InQuoted e = refl
ends_inside st.AfterQuote e = refl
ends_inside st.InEscape e = refl
ends_inside st.InComment e = refl

-- A record that is begun goes on until it ends.
abbrev StaysInside : State → ℕ → Type 0
StaysInside s c = is_end (step default_config s c).1 ≡ false → is_inside (step default_config s c).0 ≡ true

field_stays : (c : ℕ) → StaysInside st.InField c
field_stays c e = elim (cases_Bool (c == 44)) [
  | inl comma ↦ rw comma refl
  | inr other ↦ elim (cases_Bool (c == 13)) [
    | inl return ↦ absurd (false≢true (sym (rw (other, return) at e)))
    | inr some ↦ elim (cases_Bool (c == 10)) [
      | inl feed ↦ absurd (false≢true (sym (rw (other, some, feed) at e)))
      | inr none ↦ rw (other, some, none) refl
    ]
  ]
]

stays_inside : (s : State) (c : ℕ) → is_inside s ≡ true → StaysInside s c
stays_inside st.StartRecord c inside e = absurd (false≢true inside)
stays_inside st.AfterCr c inside e = absurd (false≢true inside)
stays_inside st.InEscape c inside e = absurd (false≢true inside)
stays_inside st.InComment c inside e = absurd (false≢true inside)
stays_inside st.InField c inside e = field_stays c e
stays_inside st.StartField c inside e = elim (cases_Bool (c == 34)) [
  | inl quote ↦ rw quote refl
  | inr plain ↦ rw plain (field_stays c (rw plain at e))
]
stays_inside st.InQuoted c inside e = elim (cases_Bool (c == 34)) [
  | inl quote ↦ rw quote refl
  | inr plain ↦ rw plain refl
]
stays_inside st.AfterQuote c inside e = elim (cases_Bool (c == 34)) [
  | inl quote ↦ rw quote refl
  | inr plain ↦ rw plain (field_stays c (rw plain at e))
]

-- Its fields only grow, and at its end there is one more.
fields_kept : (a : Action) (fields : Fields) (field : List ℕ) → length fields ≤ length (fields_after a fields field)
fields_kept act.Skip fields field = omega arith
fields_kept act.Copy fields field = omega arith
fields_kept act.EndField fields field = omega (arith, length-append fields (field ∷ []))
fields_kept act.EndRecord fields field = omega (arith, length-append fields (field ∷ []))

fields_grown : (a : Action) (fields : Fields) (field : List ℕ) → is_end a ≡ true → length fields < length (fields_after a fields field)
fields_grown act.Skip fields field e = absurd (false≢true e)
fields_grown act.Copy fields field e = absurd (false≢true e)
fields_grown act.EndField fields field e = absurd (false≢true e)
fields_grown act.EndRecord fields field e = omega (arith, length-append fields (field ∷ []))

-- So a record that is begun is read, with more fields than it has now.
abbrev IsMore : State → Fields → List ℕ → List ℕ → Type 0
IsMore s fields field xs = (p : Read) × (next_record default_config s fields field xs ≡ Some p) × (length fields < length p.0)

longer : (s : State) (fields : Fields) (field xs : List ℕ) → is_inside s ≡ true → IsMore s fields field xs
longer s fields field [] inside =
    let last : length fields < length (fields ++ (field ∷ [])) = omega (arith, length-append fields (field ∷ [])) in
    ((fields ++ (field ∷ []), st.StartRecord, []), ends_last s fields field (ends_inside s inside), last)
longer s fields field (c ∷ rest) inside = elim (cases_Bool (is_end (step default_config s c).1)) [
  | inl ends ↦ (
    (fields_after (step default_config s c).1 fields field, (step default_config s c).0, rest),
    step_end s fields field c rest ends,
    fields_grown (step default_config s c).1 fields field ends,
  )
  | inr goes ↦
      let more = longer (step default_config s c).0 (fields_after (step default_config s c).1 fields field)
      (field_after (step default_config s c).1 c field) rest (stays_inside s c inside goes) in (
        more.0,
        step_on s fields field c rest goes ∙ more.1,
        omega (arith, more.2, fields_kept (step default_config s c).1 fields field),
      )
]

-- A record that is begun and has more fields than the most.
pub long_record : (from : State) (text : List ℕ) (p : ReaderPlace) (fields : Fields) (field rest : List ℕ) (most : ℕ)
    → record_next from text ≡ next_record default_config (place_seen p) fields field rest
    → ends_at_end (place_seen p) ≡ true → most < length fields
    → (read : Read) × (record_next from text ≡ Some read) × (most < length read.0)
long_record from text p fields field rest most same inside more =
    let l = longer (place_seen p) fields field rest (inside_of p inside) in (l.0, same ∙ l.1, omega (arith, l.2))

-- The byte at a place, and what is behind it.
pub next_byte : (text : List ℕ) (i : ℕ) → i < length text → drop i text ≡ get_or text i 0 ∷ drop (i + 1) text
next_byte text i h = rw (add-one, drop-cons text i 0) refl

-- What is left of a text is read on from its next byte, ends there, or ends with the text.
module _ (from : State) (text : List ℕ) (i : ℕ) (s : State) (fields : Fields) (field : List ℕ)
    (so_far : record_next from text ≡ next_record default_config s fields field (drop i text)) where
  pub read_on : (s2 : State) (a : Action) (fields2 : Fields) (field2 : List ℕ) → i < length text
      → s2 ≡ (step default_config s (get_or text i 0)).0 → a ≡ (step default_config s (get_or text i 0)).1 → is_end a ≡ false
      → fields2 ≡ fields_after a fields field → field2 ≡ field_after a (get_or text i 0) field
      → record_next from text ≡ next_record default_config s2 fields2 field2 (drop (i + 1) text)
  read_on s2 a fields2 field2 h e f goes g k =
      so_far
      ∙ ap (next_record default_config s fields field) (next_byte text i h)
      ∙ goes_on s s2 a fields fields2 field field2 (get_or text i 0) (drop (i + 1) text) e f goes g k

  pub read_end : (s2 : State) (a : Action) (fields2 : Fields) → i < length text
      → s2 ≡ (step default_config s (get_or text i 0)).0 → a ≡ (step default_config s (get_or text i 0)).1 → is_end a ≡ true
      → fields2 ≡ fields_after a fields field
      → record_next from text ≡ Some (fields2, s2, drop (i + 1) text)
  read_end s2 a fields2 h e f ends g =
      so_far
      ∙ ap (next_record default_config s fields field) (next_byte text i h)
      ∙ ends_here s s2 a fields fields2 field (get_or text i 0) (drop (i + 1) text) e f ends g

  pub read_none : length text ≤ i → ends_at_end s ≡ false → record_next from text ≡ None
  read_none h none = so_far ∙ ap (next_record default_config s fields field) (drop_all i text h) ∙ ends_none s fields field none

  pub read_last : (fields2 : Fields) → length text ≤ i → ends_at_end s ≡ true → fields2 ≡ fields ++ (field ∷ [])
      → record_next from text ≡ Some (fields2, st.StartRecord, drop (length text) text)
  read_last fields2 h ends last =
      so_far
      ∙ ap (next_record default_config s fields field) (drop_all i text h)
      ∙ ends_last s fields field ends
      ∙ ap (λ (p : Read). Some p) (
      λ j. (sym last j, st.StartRecord, sym (drop_all (length text) text (omega arith)) j)
      )
