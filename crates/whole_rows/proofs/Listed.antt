-- What a list of numbers that aren't zero has at each place.
use Rattle.std.proofs.Common.{◌≡◌, ◌≢◌, inl, inr, ℕ, zero, suc, ◌+◌, ◌<◌, ◌≤◌, ◌⊎◌, List, [], ◌∷◌, ◌++◌, length, ℤ}
use Rattle.std.proofs.Common.{pos, refl, sym, ◌∙◌, ap, arith}
use Rattle.std.proofs.lemmas.Bool.{cases_eq, cases_lt, eq-eqb, ne_eqb}
use Rattle.std.proofs.lemmas.List.{get_or_at, get_or_append_left, get_or_past, length_push}
use Rattle.whole_rows.specs.Rows.{listed_at, entry_at, AreBelow}
use Rattle.whole_rows.specs.Numbers.{number_at, AreListed, AreZeroBetween}
pub use Rattle.whole_rows.specs.Numbers.{AreListedTo}
use Rattle.whole_rows.specs.declared.entries.Entry.{Entry}

abbrev pub nothing : Entry
nothing = record { place = 0; num = pos 0 }

listed-here : (e : Entry) (es : List Entry) (k : ℕ) → e.place ≡ k → listed_at (e ∷ es) k ≡ e.num
listed-here e es k is = rw (eq-eqb e.place k is) refl

listed-on : (e : Entry) (es : List Entry) (k : ℕ) → e.place ≢ k → listed_at (e ∷ es) k ≡ listed_at es k
listed-on e es k away = rw (ne_eqb e.place k away) refl

rises-on : (e : Entry) (es : List Entry)
    → ((i j : ℕ) → i < j → j < length (e ∷ es) → (entry_at (e ∷ es) i).place < (entry_at (e ∷ es) j).place)
    → (i j : ℕ) → i < j → j < length es → (entry_at es i).place < (entry_at es j).place
rises-on e es h i j l k = h (suc i) (suc j) (omega arith) (omega arith)

-- each entry of the list is listed
pub listed_entry : (es : List Entry) (j k : ℕ) → ((i m : ℕ) → i < m → m < length es → (entry_at es i).place < (entry_at es m).place)
    → j < length es → (entry_at es j).place ≡ k → listed_at es k ≡ (entry_at es j).num
listed_entry [] j k rise l is = absurd (omega arith)
listed_entry (e ∷ es) zero k rise l is = listed-here e es k is
listed_entry (e ∷ es) (suc j) k rise l is =
    let earlier : e.place < (entry_at es j).place = rise 0 (suc j) (omega arith) l in
    listed-on e es k (λ q. omega arith) ∙ listed_entry es j k (rises-on e es rise) (omega arith) is

-- and if there is none, it is zero
pub listed_none : (es : List Entry) (k : ℕ) → ((j : ℕ) → j < length es → (entry_at es j).place ≢ k) → listed_at es k ≡ pos 0
listed_none [] k away = refl
listed_none (e ∷ es) k away = listed-on e es k (away 0 (omega arith)) ∙ listed_none es k (λ j l. away (suc j) (omega arith))

-- is there one?
pub found_or_none : (es : List Entry) (k : ℕ)
    → ((j : ℕ) × (j < length es) × ((entry_at es j).place ≡ k)) ⊎ ((j : ℕ) → j < length es → (entry_at es j).place ≢ k)
found_or_none [] k = inr (λ j l. absurd (omega arith))
found_or_none (e ∷ es) k = elim (cases_eq e.place k) [
  | inl here ↦ inl (0, omega arith, here)
  | inr away ↦ elim (found_or_none es k) [
    | inl there ↦ inl (suc there.0, omega (arith, there.1), there.2)
    | inr none ↦ inr (none_of e es k away none)
  ]
]
  where
    none_of : (f : Entry) (fs : List Entry) (w : ℕ) → f.place ≢ w → ((j : ℕ) → j < length fs → (entry_at fs j).place ≢ w)
        → (j : ℕ) → j < length (f ∷ fs) → (entry_at (f ∷ fs) j).place ≢ w
    none_of f fs w away none zero l = away
    none_of f fs w away none (suc j) l = none j (omega arith)

-- behind all places nothing is listed
pub listed_past : (es : List Entry) (end k : ℕ) → AreBelow end es → end ≤ k → listed_at es k ≡ pos 0
listed_past es end k below l = listed_none es k (λ j lj q. let b : (entry_at es j).place < end = below j lj in omega arith)

-- one entry more
push_entry : (es : List Entry) (e : Entry) → entry_at (es ++ e ∷ []) (length es) ≡ e
push_entry es e = get_or_at es e [] nothing (length es) refl

push_earlier : (es : List Entry) (e : Entry) (j : ℕ) → j < length es → entry_at (es ++ e ∷ []) j ≡ entry_at es j
push_earlier es e j l = get_or_append_left es (e ∷ []) nothing j l

listed_push : (es : List Entry) (e : Entry) (k : ℕ) → AreBelow e.place es → e.place ≡ k → listed_at (es ++ e ∷ []) k ≡ e.num
listed_push [] e k below is = listed-here e [] k is
listed_push (f ∷ fs) e k below is =
    let first : f.place < e.place = below 0 (omega arith) in
    listed-on f (fs ++ e ∷ []) k (λ q. omega arith) ∙ listed_push fs e k (λ j l. below (suc j) (omega arith)) is

listed_push_other : (es : List Entry) (e : Entry) (k : ℕ) → e.place ≢ k → listed_at (es ++ e ∷ []) k ≡ listed_at es k
listed_push_other [] e k away = listed-on e [] k away
listed_push_other (f ∷ fs) e k away = elim (cases_eq f.place k) [
  | inl here ↦ listed-here f (fs ++ e ∷ []) k here ∙ sym (listed-here f fs k here)
  | inr other ↦ listed-on f (fs ++ e ∷ []) k other ∙ (listed_push_other fs e k away ∙ sym (listed-on f fs k other))
]

-- the numbers of the first places
pub listed_more : (place : ℕ) (nums : List ℤ) (es : List Entry) (n : ℤ) → AreListedTo place nums es → number_at nums place ≡ n
    → n ≢ pos 0 → AreListedTo (place + 1) nums (es ++ record { place = place; num = n } ∷ [])
listed_more place nums es n h is apart =
    let e : Entry = record { place = place; num = n } in
    let many = length_push es (record { place = place; num = n }) in
    record {
      sparse = record {
        rise = λ i j l lj. elim (cases_lt j (length es)) [
          | inl earlier ↦ let first : i < length es = omega arith in
              rw (push_earlier es e i first, push_earlier es e j earlier) (h.sparse.rise i j l earlier)
          | inr last ↦
              let here : j ≡ length es = omega (arith, many) in
              let first : i < length es = omega arith in
              rw (here, push_entry es e, push_earlier es e i first) (h.below i first)
        ];
        nonzero = λ j lj. elim (cases_lt j (length es)) [
          | inl earlier ↦ rw (push_earlier es e j earlier) (h.sparse.nonzero j earlier)
          | inr last ↦ let here : j ≡ length es = omega (arith, many) in rw (here, push_entry es e) apart
        ];
      };
      below = λ j lj. elim (cases_lt j (length es)) [
        | inl earlier ↦ let b : (entry_at es j).place < place = h.below j earlier in rw (push_earlier es e j earlier) (omega arith)
        | inr last ↦ let here : j ≡ length es = omega (arith, many) in rw (here, push_entry es e) (omega arith)
      ];
      own = λ j lj. elim (cases_lt j (length es)) [
        | inl earlier ↦ rw (push_earlier es e j earlier) (h.own j earlier)
        | inr last ↦ let here : j ≡ length es = omega (arith, many) in rw (here, push_entry es e) (sym is)
      ];
      each = λ k l. elim (cases_eq place k) [
        | inl here ↦ listed_push es e k h.below here ∙ (sym is ∙ ap (number_at nums) here)
        | inr other ↦ listed_push_other es e k other ∙ h.each k (omega arith)
      ];
    }

pub listed_zeros : (first last : ℕ) (nums : List ℤ) (es : List Entry) → first ≤ last → AreListedTo first nums es
    → AreZeroBetween nums first last → AreListedTo last nums es
listed_zeros first last nums es order h none = record {
  sparse = h.sparse;
  below = λ j l. let b : (entry_at es j).place < first = h.below j l in omega arith;
  own = h.own;
  each = λ k l. elim (cases_lt k first) [
    | inl before ↦ h.each k before
    | inr on ↦ listed_past es first k h.below on ∙ sym (none k on l)
  ];
}

pub listed_same : (place : ℕ) (nums : List ℤ) (es : List Entry) → AreListedTo place nums es → number_at nums place ≡ pos 0
    → AreListedTo (place + 1) nums es
listed_same place nums es h is = listed_zeros place (place + 1) nums es (omega arith) h
    (λ k l lk. let here : k ≡ place = omega arith in ap (number_at nums) here ∙ is)

pub listed_all : (place : ℕ) (nums : List ℤ) (es : List Entry) → length nums ≤ place → AreListedTo place nums es → AreListed nums es
listed_all place nums es l h k = elim (cases_lt k place) [
  | inl within ↦ h.each k within
  | inr past ↦ listed_past es place k h.below past ∙ sym (get_or_past nums k (pos 0) (omega arith))
]
