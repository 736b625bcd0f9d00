-- The records of a text, one after another.
use Rattle.std.proofs.Common.{◌≡◌, ◌<◌, ◌≤◌, ◌+◌, ◌++◌, ℕ, zero, suc, List, [], ◌∷◌, length, true, false, Option, None, Some}
use Rattle.std.proofs.Common.{refl, sym, ap, ◌∙◌, arith, ◌==◌, inl, inr}
use Rattle.std.proofs.lemmas.Bool.{cases_Bool, false≢true}
use Rattle.csv.specs.Machine.{Read, next_record, step, is_end, ends_at_end, fields_after, field_after}
use Rattle.csv.specs.Reading.{default_config, records_from}
use Rattle.csv.specs.declared.parser.State.{State}
use Rattle.csv.specs.declared.parser.State.TheVariants as st
use Rattle.trace_csv.specs.RecordAnswers.{record_next, records_left}

-- After the byte that ends a record a reader is between records.
abbrev EndsBetween : State → ℕ → Type 0
EndsBetween s c = is_end (step default_config s c).1 ≡ true → ends_at_end (step default_config s c).0 ≡ false

in_field : (c : ℕ) → EndsBetween st.InField c
in_field c e = elim (cases_Bool (c == 44)) [
  | inl comma ↦ absurd (false≢true (rw comma at e))
  | inr other ↦ elim (cases_Bool (c == 13)) [
    | inl return ↦ rw (other, return) refl
    | inr some ↦ elim (cases_Bool (c == 10)) [
      | inl feed ↦ rw (other, some, feed) refl
      | inr none ↦ absurd (false≢true (rw (other, some, none) at e))
    ]
  ]
]

start_field : (c : ℕ) → EndsBetween st.StartField c
start_field c e = elim (cases_Bool (c == 34)) [
  | inl quote ↦ absurd (false≢true (rw quote at e))
  | inr plain ↦ rw plain (in_field c (rw plain at e))
]

start_record : (c : ℕ) → EndsBetween st.StartRecord c
start_record c e = elim (cases_Bool (c == 13)) [
  | inl return ↦ absurd (false≢true (rw return at e))
  | inr some ↦ elim (cases_Bool (c == 10)) [
    | inl feed ↦ absurd (false≢true (rw (some, feed) at e))
    | inr none ↦ elim (cases_Bool (c == 34)) [
      | inl quote ↦ absurd (false≢true (rw (some, none, quote) at e))
      | inr plain ↦ elim (cases_Bool (c == 44)) [
        | inl comma ↦ absurd (false≢true (rw (some, none, plain, comma) at e))
        | inr other ↦ absurd (false≢true (rw (some, none, plain, other) at e))
      ]
    ]
  ]
]

ends_between : (s : State) (c : ℕ) → EndsBetween s c
ends_between st.StartRecord c e = start_record c e
ends_between st.StartField c e = start_field c e
ends_between st.InField c e = in_field c e
ends_between st.InQuoted c e = elim (cases_Bool (c == 34)) [
  | inl quote ↦ absurd (false≢true (rw quote at e))
  | inr plain ↦ absurd (false≢true (rw plain at e))
]
ends_between st.AfterQuote c e = elim (cases_Bool (c == 34)) [
  | inl quote ↦ absurd (false≢true (rw quote at e))
  | inr plain ↦ rw plain (in_field c (rw plain at e))
]
ends_between st.InEscape c e = absurd (false≢true e)
ends_between st.InComment c e = elim (cases_Bool (c == 10)) [
  | inl feed ↦ absurd (false≢true (rw feed at e))
  | inr none ↦ absurd (false≢true (rw none at e))
]
ends_between st.AfterCr c e = elim (cases_Bool (c == 10)) [
  | inl feed ↦ absurd (false≢true (rw feed at e))
  | inr none ↦ elim (cases_Bool (c == 13)) [
    | inl return ↦ absurd (false≢true (rw (none, return) at e))
    | inr some ↦ elim (cases_Bool (c == 34)) [
      | inl quote ↦ absurd (false≢true (rw (none, some, quote) at e))
      | inr plain ↦ elim (cases_Bool (c == 44)) [
        | inl comma ↦ absurd (false≢true (rw (none, some, plain, comma) at e))
        | inr other ↦ absurd (false≢true (rw (none, some, plain, other) at e))
      ]
    ]
  ]
]

-- What reading a record takes: at least a byte where it begins between records.
record IsTaken (s t : State) (xs ys : List ℕ) : Type 0 where
  between : ends_at_end t ≡ false
  some : ends_at_end s ≡ false → length ys < length xs
  most : length ys ≤ length xs

same_read : (p q : Read) → Some p ≡ Some q → p ≡ q
same_read p q e = cc

takes : (s : State) (fields : List (List ℕ)) (field xs : List ℕ) (p : Read)
    → next_record default_config s fields field xs ≡ Some p → IsTaken s p.1 xs p.2
unfolding next_record
takes s fields field [] p e = elim (cases_Bool (ends_at_end s)) [
  | inl ends ↦
      let q : (fields ++ (field ∷ []), st.StartRecord, []) ≡ p = same_read _ p (rw ends at e) in
      record {
        between = sym (ap (λ (r : Read). ends_at_end r.1) q);
        some = λ stays. absurd (false≢true (sym stays ∙ ends));
        most = omega (arith, ap (λ (r : Read). length r.2) q);
      }
  | inr goes ↦ absurd (no_read p (rw goes at e))
]
  where
    no_read : (p : Read) → None ≡ Some p → ⊥
    no_read p e = cc
takes s fields field (c ∷ rest) p e = elim (cases_Bool (is_end (step default_config s c).1)) [
  | inl ends ↦
      let q : (fields_after (step default_config s c).1 fields field, (step default_config s c).0, rest) ≡ p =
      same_read _ p (rw ends at e) in
      record {
        between = sym (ap (λ (r : Read). ends_at_end r.1) q) ∙ ends_between s c ends;
        some = λ stays. omega (arith, ap (λ (r : Read). length r.2) q);
        most = omega (arith, ap (λ (r : Read). length r.2) q);
      }
  | inr goes ↦
      let more = takes (step default_config s c).0 (fields_after (step default_config s c).1 fields field)
      (field_after (step default_config s c).1 c field) rest p (rw goes at e) in
      record { between = more.between; some = λ stays. omega (arith, more.most); most = omega (arith, more.most) }
]

-- With turns enough the records from a state on are the same ones.
same_next : (n m : ℕ) (s : State) (xs : List ℕ) (o : Option Read) → next_record default_config s [] [] xs ≡ o
    → ((p : Read) → next_record default_config s [] [] xs ≡ Some p
    → records_from default_config n p.1 p.2 ≡ records_from default_config m p.1 p.2)
    → records_from default_config (suc n) s xs ≡ records_from default_config (suc m) s xs
unfolding records_from
same_next n m s xs None e more = rw e refl
same_next n m s xs (Some p) e more = rw e (ap (λ (rest : List (List (List ℕ))). p.0 ∷ rest) (more p e))

enough : (n m : ℕ) (s : State) (xs : List ℕ) → ends_at_end s ≡ false → length xs < n → length xs < m
    → records_from default_config n s xs ≡ records_from default_config m s xs
enough zero m s xs between h k = absurd (omega arith)
enough (suc n) zero s xs between h k = absurd (omega arith)
enough (suc n) (suc m) s xs between h k = same_next n m s xs (next_record default_config s [] [] xs) refl (λ p e.
    let taken = takes s [] [] xs p e in
    enough n m p.1 p.2 taken.between (omega (arith, taken.some between)) (omega (arith, taken.some between)))

-- The first record, and those behind it; or there is none.
from_more : (n : ℕ) (s : State) (xs : List ℕ) (p : Read) → next_record default_config s [] [] xs ≡ Some p
    → records_from default_config (suc n) s xs ≡ p.0 ∷ records_from default_config n p.1 p.2
unfolding records_from
from_more n s xs p e = rw e refl

from_none : (n : ℕ) (s : State) (xs : List ℕ) → next_record default_config s [] [] xs ≡ None
    → records_from default_config (suc n) s xs ≡ []
unfolding records_from
from_none n s xs e = rw e refl

turns : (s : State) (xs : List ℕ) → records_left s xs ≡ records_from default_config (suc (length xs)) s xs
turns s xs = ap (λ n. records_from default_config n s xs) (let more : length xs + 1 ≡ suc (length xs) = omega arith in more)

pub left_more : (s : State) (xs : List ℕ) (p : Read) → ends_at_end s ≡ false → record_next s xs ≡ Some p
    → records_left s xs ≡ p.0 ∷ records_left p.1 p.2
left_more s xs p between e =
    let taken = takes s [] [] xs p e in
    turns s xs
    ∙ from_more (length xs) s xs p e
    ∙ ap (λ (more : List (List (List ℕ))). p.0 ∷ more)
    (enough (length xs) (length p.2 + 1) p.1 p.2 taken.between (taken.some between) (omega arith))

pub left_none : (s : State) (xs : List ℕ) → record_next s xs ≡ None → records_left s xs ≡ []
left_none s xs e = turns s xs ∙ from_none (length xs) s xs e

-- After a record a reader is between records.
pub left_between : (s : State) (xs : List ℕ) (p : Read) → record_next s xs ≡ Some p → ends_at_end p.1 ≡ false
left_between s xs p e = (takes s [] [] xs p e).between

-- There are no more records than bytes.
few_next : (n : ℕ) (s : State) (xs : List ℕ) (o : Option Read) → next_record default_config s [] [] xs ≡ o
    → ((p : Read) → next_record default_config s [] [] xs ≡ Some p
    → length (records_from default_config n p.1 p.2) < length xs)
    → length (records_from default_config (suc n) s xs) ≤ length xs
few_next n s xs None e more = omega (arith, ap length (from_none n s xs e))
few_next n s xs (Some p) e more = omega (arith, ap length (from_more n s xs p e), more p e)

few_from : (n : ℕ) (s : State) (xs : List ℕ) → ends_at_end s ≡ false → length (records_from default_config n s xs) ≤ length xs
unfolding records_from
few_from zero s xs between = omega arith
few_from (suc n) s xs between = few_next n s xs (next_record default_config s [] [] xs) refl (λ p e.
    let taken = takes s [] [] xs p e in
    omega (arith, taken.some between, few_from n p.1 p.2 taken.between))

pub few_left : (s : State) (xs : List ℕ) → ends_at_end s ≡ false → length (records_left s xs) ≤ length xs
few_left s xs between = few_from (length xs + 1) s xs between
