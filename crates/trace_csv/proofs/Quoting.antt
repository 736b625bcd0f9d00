-- Fields and records as they are written, piece by piece.
use Rattle.std.proofs.Common.{◌≡◌, ◌<◌, ◌≤◌, ◌+◌, ◌-◌, ◌++◌, ◌==◌, ◌⊎◌, ℕ, List, [], ◌∷◌, length, true, false, get_or, map, take, drop, Bor}
use Rattle.std.proofs.Common.{refl, sym, ap, ◌∙◌, append_assoc, add-one, drop-cons, arith, inl, inr}
use Rattle.std.proofs.lemmas.Bool.{cases_Bool, eqb-true, eq-eqb, false≢true}
use Rattle.std.proofs.lemmas.List.{append-nil, take_rest}
use Rattle.csv.specs.Writing.{default_writer, needs_quotes, quoted, escaped, field_text, fields_text, row_text, is_blank, row_body}
use Rattle.trace_csv.specs.Records.{Fields}
use Rattle.trace_csv.specs.Written.{body_text}
use Rattle.trace_csv.proofs.Stepping.{next_byte}

-- One more byte between quotes: a quote is written twice.
escaped_quote : (b : ℕ) (xs : List ℕ) → (b == 34) ≡ true → escaped default_writer (b ∷ xs) ≡ 34 ∷ b ∷ escaped default_writer xs
unfolding escaped
escaped_quote b xs e = rw e refl

escaped_plain : (b : ℕ) (xs : List ℕ) → (b == 34) ≡ false → escaped default_writer (b ∷ xs) ≡ b ∷ escaped default_writer xs
unfolding escaped
escaped_plain b xs e = rw e refl

is_none : (b c : ℕ) → (b ≡ c → ⊥) → (b == c) ≡ false
is_none b c other = elim (cases_Bool (b == c)) [
  | inl same ↦ absurd (other (eqb-true b c same))
  | inr none ↦ none
]

module _ (done tail whole field : List ℕ) (i : ℕ) (within : i < length field)
    (so_far : done ++ (escaped default_writer (drop i field) ++ tail) ≡ whole) where
  abbrev byte : ℕ
  byte = get_or field i 0

  abbrev more : List ℕ
  more = escaped default_writer (drop (i + 1) field)

  pub quote_more : byte ≡ 34 → ((done ++ 34 ∷ []) ++ byte ∷ []) ++ (more ++ tail) ≡ whole
  quote_more quote =
      let here : escaped default_writer (drop i field) ≡ 34 ∷ byte ∷ more =
      ap (escaped default_writer) (next_byte field i within) ∙ escaped_quote byte (drop (i + 1) field) (eq-eqb byte 34 quote) in
      append_assoc (done ++ 34 ∷ []) (byte ∷ []) (more ++ tail)
      ∙ append_assoc done (34 ∷ []) (byte ∷ (more ++ tail))
      ∙ ap (λ (t : List ℕ). done ++ (t ++ tail)) (sym here)
      ∙ so_far

  pub plain_more : (byte ≡ 34 → ⊥) → (done ++ byte ∷ []) ++ (more ++ tail) ≡ whole
  plain_more plain =
      let here : escaped default_writer (drop i field) ≡ byte ∷ more =
      ap (escaped default_writer) (next_byte field i within) ∙ escaped_plain byte (drop (i + 1) field) (is_none byte 34 plain) in
      append_assoc done (byte ∷ []) (more ++ tail)
      ∙ ap (λ (t : List ℕ). done ++ (t ++ tail)) (sym here)
      ∙ so_far

-- One more field behind a comma.
fields_cons : (f : List ℕ) (fs : Fields)
    → fields_text default_writer (f ∷ fs) ≡ 44 ∷ (field_text default_writer f ++ fields_text default_writer fs)
unfolding fields_text
fields_cons f fs = refl

pub field_more : (done whole : List ℕ) (fields : List (Bor (List ℕ))) (i : ℕ) (d : Bor (List ℕ)) → i < length fields
    → done ++ fields_text default_writer (map (λ (g : Bor (List ℕ)). g.now) (drop i fields)) ≡ whole
    → ((done ++ 44 ∷ []) ++ field_text default_writer (get_or fields i d).now)
    ++ fields_text default_writer (map (λ (g : Bor (List ℕ)). g.now) (drop (i + 1) fields)) ≡ whole
field_more done whole fields i d h so_far =
    let f = get_or fields i d in
    let text : List (Bor (List ℕ)) → List ℕ = λ fs. fields_text default_writer (map (λ (g : Bor (List ℕ)). g.now) fs) in
    let more = text (drop (i + 1) fields) in
    let next : drop i fields ≡ f ∷ drop (i + 1) fields = rw (add-one, drop-cons fields i d) refl in
    let here : text (drop i fields) ≡ 44 ∷ (field_text default_writer f.now ++ more) =
    ap text next ∙ fields_cons f.now (map (λ (g : Bor (List ℕ)). g.now) (drop (i + 1) fields)) in
    append_assoc (done ++ 44 ∷ []) (field_text default_writer f.now) more
    ∙ append_assoc done (44 ∷ []) (field_text default_writer f.now ++ more)
    ∙ ap (λ (t : List ℕ). done ++ t) (sym here)
    ∙ so_far

pub no_field : fields_text default_writer [] ≡ []
unfolding fields_text
no_field = refl

-- The text of a field that has a byte has one too.
some_byte : (b : ℕ) (bs : List ℕ) → (length (b ∷ bs) == 0) ≡ false
some_byte b bs = is_none (length (b ∷ bs)) 0 (λ e. omega (arith, e))

shows : (b : ℕ) (bs : List ℕ) → (length (field_text default_writer (b ∷ bs)) == 0) ≡ false
shows b bs = elim (cases_Bool (needs_quotes default_writer (b ∷ bs))) [
  | inl quotes ↦ rw quotes (some_byte 34 (escaped default_writer (b ∷ bs) ++ 34 ∷ []))
  | inr plain ↦ rw plain (some_byte b bs)
]

not_blank : (f : List ℕ) (fs : Fields) → (f ≡ [] → fs ≡ [] → ⊥) → is_blank default_writer (f ∷ fs) ≡ false
unfolding is_blank
not_blank f (g ∷ fs) some = refl
not_blank [] [] some = absurd (some refl refl)
not_blank (b ∷ bs) [] some = shows b bs

-- A record is the first field and those behind it, but for two quotes where no byte would show.
pub body_of : (f : List ℕ) (fs : Fields) → (f ≡ [] → fs ≡ [] → ⊥)
    → body_text (f ∷ fs) ≡ field_text default_writer f ++ fields_text default_writer fs
body_of f fs some = rw (not_blank f fs some) (append-nil (row_body default_writer (f ∷ fs)))

pub body_of_none : body_text [] ≡ quoted default_writer []
unfolding is_blank escaped
body_of_none = refl

pub body_of_blank : body_text ([] ∷ []) ≡ quoted default_writer []
unfolding is_blank fields_text escaped
body_of_blank = refl

pub row_of_body : (fields : Fields) → body_text fields ++ (10 ∷ []) ≡ row_text default_writer fields
row_of_body fields = append_assoc (row_body default_writer fields) _ (10 ∷ [])

pub no_byte : escaped default_writer [] ≡ []
unfolding escaped
no_byte = refl

-- The same of the slices that hold the fields: the first of them, and those behind it.
abbrev pub nows : List (Bor (List ℕ)) → Fields
nows fs = map (λ (g : Bor (List ℕ)). g.now) fs

empty_list : {A : Type 0} (xs : List A) → (length xs == 0) ≡ true → xs ≡ []
empty_list [] e = refl
empty_list (x ∷ xs) e = absurd (omega (arith, eqb-true (length (x ∷ xs)) 0 e))

some_list : {A : Type 0} (xs : List A) → (length xs == 0) ≡ false → xs ≡ [] → ⊥
some_list xs e none = false≢true (sym e ∙ eq-eqb (length xs) 0 (ap length none))

no_fields : (fs : List (Bor (List ℕ))) → nows fs ≡ [] → fs ≡ []
no_fields [] e = refl
no_fields (f ∷ fs) e = absurd (omega (arith, ap length e))

abbrev pub rest_of_fields : List (Bor (List ℕ)) → List (Bor (List ℕ))
rest_of_fields fs = take (length fs - 1) (drop 1 fs)

pub shows_none : (fs : List (Bor (List ℕ))) → length fs < 1 → body_text (nows fs) ≡ quoted default_writer []
shows_none [] h = body_of_none
shows_none (f ∷ fs) h = absurd (omega arith)

pub shows_blank : (fs : List (Bor (List ℕ))) (d : Bor (List ℕ)) → 1 ≤ length fs → (length (get_or fs 0 d).now == 0) ≡ true
    → (length (rest_of_fields fs) == 0) ≡ true → body_text (nows fs) ≡ quoted default_writer []
shows_blank [] d h e g = absurd (omega arith)
shows_blank (f ∷ fs) d h e g =
    let rest : fs ≡ [] = sym (take_rest (f ∷ fs) 1) ∙ empty_list (rest_of_fields (f ∷ fs)) g in
    rw (empty_list f.now e, rest) body_of_blank

pub shows_some : (fs : List (Bor (List ℕ))) (d : Bor (List ℕ)) → 1 ≤ length fs
    → ((length (get_or fs 0 d).now == 0) ≡ false) ⊎ ((length (rest_of_fields fs) == 0) ≡ false)
    → body_text (nows fs) ≡ field_text default_writer (get_or fs 0 d).now ++ fields_text default_writer (nows (rest_of_fields fs))
shows_some [] d h some = absurd (omega arith)
shows_some (f ∷ fs) d h some =
    let rest : rest_of_fields (f ∷ fs) ≡ fs = take_rest (f ∷ fs) 1 in
    body_of f.now (nows fs) (λ none nones. elim some [
      | inl first ↦ some_list f.now first none
      | inr others ↦ some_list (rest_of_fields (f ∷ fs)) others (rest ∙ no_fields fs nones)
    ])
    ∙ ap (λ (gs : List (Bor (List ℕ))). field_text default_writer f.now ++ fields_text default_writer (nows gs)) (sym rest)
