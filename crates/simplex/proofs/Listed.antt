-- What a list of nonzero cells has at each variable.
use Rattle.std.proofs.Common.{◌≡◌, ◌≢◌, inl, inr, ℕ, zero, suc, ◌+◌, ◌<◌, ◌≤◌, ◌⊎◌, List, [], ◌∷◌, ◌++◌, length}
use Rattle.std.proofs.Common.{slice_index_or, pos, ◌≤ℤ◌, refl, sym, ◌∙◌, arith}
use Rattle.std.proofs.lemmas.Bool.{cases_eq, cases_lt, eq-eqb, ne_eqb}
use Rattle.std.proofs.lemmas.List.{get_or_at, get_or_read, get_or_default, get_or_append_left, length_push}
use Rattle.std.proofs.lemmas.Int.{ints}
use Rattle.fraction128.specs.Fraction.{IsForm, whole}
use Rattle.simplex.specs.Entries.{listed_at, entry_at, AreSparse, AreBelow, IsSplit}
use Rattle.simplex.specs.declared.entries.Entry.{Entry}
use Rattle.fraction128.proofs.Forms.{form_of_zero}

abbrev pub nothing : Entry
nothing = record { variable = 0; value = whole (pos 0) }

listed-here : (e : Entry) (es : List Entry) (v : ℕ) → e.variable ≡ v → listed_at (e ∷ es) v ≡ e.value
listed-here e es v is = rw (eq-eqb e.variable v is) refl

listed-on : (e : Entry) (es : List Entry) (v : ℕ) → e.variable ≢ v → listed_at (e ∷ es) v ≡ listed_at es v
listed-on e es v away = rw (ne_eqb e.variable v away) refl

rises-on : (e : Entry) (es : List Entry)
    → ((i j : ℕ) → i < j → j < length (e ∷ es) → (entry_at (e ∷ es) i).variable < (entry_at (e ∷ es) j).variable)
    → (i j : ℕ) → i < j → j < length es → (entry_at es i).variable < (entry_at es j).variable
rises-on e es h i j l k = h (suc i) (suc j) (omega arith) (omega arith)

-- each entry of the list is listed
pub listed_entry : (es : List Entry) (k v : ℕ) → ((i j : ℕ) → i < j → j < length es → (entry_at es i).variable < (entry_at es j).variable)
    → k < length es → (entry_at es k).variable ≡ v → listed_at es v ≡ (entry_at es k).value
listed_entry [] k v rise l is = absurd (omega arith)
listed_entry (e ∷ es) zero v rise l is = listed-here e es v is
listed_entry (e ∷ es) (suc k) v rise l is =
    let earlier : e.variable < (entry_at es k).variable = rise 0 (suc k) (omega arith) l in
    listed-on e es v (λ q. omega arith) ∙ listed_entry es k v (rises-on e es rise) (omega arith) is

-- and if there is none, it is zero
pub listed_none : (es : List Entry) (v : ℕ) → ((k : ℕ) → k < length es → (entry_at es k).variable ≢ v) → listed_at es v ≡ whole (pos 0)
listed_none [] v away = refl
listed_none (e ∷ es) v away = listed-on e es v (away 0 (omega arith)) ∙ listed_none es v (λ k l. away (suc k) (omega arith))

-- is there one?
pub found_or_none : (es : List Entry) (v : ℕ)
    → ((k : ℕ) × (k < length es) × ((entry_at es k).variable ≡ v)) ⊎ ((k : ℕ) → k < length es → (entry_at es k).variable ≢ v)
found_or_none [] v = inr (λ k l. absurd (omega arith))
found_or_none (e ∷ es) v = elim (cases_eq e.variable v) [
  | inl here ↦ inl (0, omega arith, here)
  | inr away ↦ elim (found_or_none es v) [
    | inl there ↦ inl (suc there.0, omega (arith, there.1), there.2)
    | inr none ↦ inr (none_of e es v away none)
  ]
]
  where
    none_of : (f : Entry) (fs : List Entry) (w : ℕ) → f.variable ≢ w → ((k : ℕ) → k < length fs → (entry_at fs k).variable ≢ w)
        → (k : ℕ) → k < length (f ∷ fs) → (entry_at (f ∷ fs) k).variable ≢ w
    none_of f fs w away none zero l = away
    none_of f fs w away none (suc k) l = none k (omega arith)

-- behind all variables nothing is listed
pub listed_past : (es : List Entry) (end v : ℕ) → AreBelow end es → end ≤ v → listed_at es v ≡ whole (pos 0)
listed_past es end v below l = listed_none es v (λ k lk q. let b : (entry_at es k).variable < end = below k lk in omega arith)

pub form_listed : (es : List Entry) (v : ℕ) → AreSparse es → IsForm (listed_at es v)
form_listed es v h = elim (found_or_none es v) [
  | inl there ↦ rw (listed_entry es there.0 v h.rise there.1 there.2) (h.forms there.0 there.1)
  | inr none ↦ rw (listed_none es v none) form_of_zero
]

pub split_none : (es : List Entry) (count v : ℕ) → AreSparse es → IsSplit es count v
    → (count < length es → (entry_at es count).variable ≢ v)
    → listed_at es v ≡ whole (pos 0)
split_none es count v h split away = listed_none es v (λ k l q. elim (cases_lt k count) [
  | inl earlier ↦ let b : (entry_at es k).variable < v = split.before k earlier in omega arith
  | inr later ↦ elim (cases_eq k count) [
    | inl here ↦ let apart : (entry_at es k).variable ≢ v = rw here (away (omega arith)) in apart q
    | inr behind ↦
        let first : v ≤ (entry_at es count).variable = split.behind count (omega arith) (omega arith) in
        let after : (entry_at es count).variable < (entry_at es k).variable = h.rise count k (omega arith) l in
        omega arith
  ]
])

-- the split at a variable further on, with none between
pub split_up : (es : List Entry) (count w v : ℕ) → AreSparse es → IsSplit es count w → w ≤ v
    → (count < length es → v ≤ (entry_at es count).variable)
    → IsSplit es count v
split_up es count w v h split l next = record {
  within = split.within;
  before = λ k lk. let b : (entry_at es k).variable < w = split.before k lk in omega arith;
  behind = λ k lk inside. elim (cases_eq k count) [
    | inl here ↦ rw here (next (omega arith))
    | inr later ↦
        let first : v ≤ (entry_at es count).variable = next (omega arith) in
        let after : (entry_at es count).variable < (entry_at es k).variable = h.rise count k (omega arith) inside in
        omega arith
  ];
}

-- before the first entry behind a split nothing is listed
pub split_gap : (es : List Entry) (count w v u : ℕ) → AreSparse es → IsSplit es count w → w ≤ u → u < v
    → (count < length es → v ≤ (entry_at es count).variable)
    → listed_at es u ≡ whole (pos 0)
split_gap es count w v u h split lw lu next =
    let up : IsSplit es count u =
    split_up es count w u h split lw (λ l. let n : v ≤ (entry_at es count).variable = next l in omega arith) in
    split_none es count u h up (λ l q. let n : v ≤ (entry_at es count).variable = next l in omega arith)

-- one entry more
pub push_entry : (es : List Entry) (e : Entry) → entry_at (es ++ e ∷ []) (length es) ≡ e
push_entry es e = get_or_at es e [] nothing (length es) refl

pub push_earlier : (es : List Entry) (e : Entry) (k : ℕ) → k < length es → entry_at (es ++ e ∷ []) k ≡ entry_at es k
push_earlier es e k l = get_or_append_left es (e ∷ []) nothing k l

pub listed_push : (es : List Entry) (e : Entry) (v : ℕ) → AreBelow e.variable es → e.variable ≡ v → listed_at (es ++ e ∷ []) v ≡ e.value
listed_push [] e v below is = listed-here e [] v is
listed_push (f ∷ fs) e v below is =
    let first : f.variable < e.variable = below 0 (omega arith) in
    listed-on f (fs ++ e ∷ []) v (λ q. omega arith) ∙ listed_push fs e v (λ k l. below (suc k) (omega arith)) is

pub listed_push_other : (es : List Entry) (e : Entry) (v : ℕ) → e.variable ≢ v → listed_at (es ++ e ∷ []) v ≡ listed_at es v
listed_push_other [] e v away = listed-on e [] v away
listed_push_other (f ∷ fs) e v away = elim (cases_eq f.variable v) [
  | inl here ↦ listed-here f (fs ++ e ∷ []) v here ∙ sym (listed-here f fs v here)
  | inr other ↦ listed-on f (fs ++ e ∷ []) v other ∙ (listed_push_other fs e v away ∙ sym (listed-on f fs v other))
]

pub below_push : (es : List Entry) (e : Entry) (end : ℕ) → AreBelow end es → e.variable < end → AreBelow end (es ++ e ∷ [])
below_push es e end below l k lk = elim (cases_lt k (length es)) [
  | inl earlier ↦ rw (push_earlier es e k earlier) (below k earlier)
  | inr last ↦
      let here : k ≡ length es = omega (arith, length_push es e) in
      rw (here, push_entry es e) l
]

pub below_up : (end : ℕ) (es : List Entry) → AreBelow end es → AreBelow (end + 1) es
below_up end es below k l = let b : (entry_at es k).variable < end = below k l in omega arith

pub sparse_push : (es : List Entry) (e : Entry) → AreSparse es → AreBelow e.variable es → IsForm e.value
    → e.value.num ≢ pos 0 → AreSparse (es ++ e ∷ [])
sparse_push es e h below form apart = record {
  rise = λ i j l lj. elim (cases_lt j (length es)) [
    | inl earlier ↦ let first : i < length es = omega arith in
        rw (push_earlier es e i first, push_earlier es e j earlier) (h.rise i j l earlier)
    | inr last ↦
        let here : j ≡ length es = omega (arith, length_push es e) in
        let first : i < length es = omega arith in
        rw (here, push_entry es e, push_earlier es e i first) (below i first)
  ];
  forms = λ k lk. elim (cases_lt k (length es)) [
    | inl earlier ↦ rw (push_earlier es e k earlier) (h.forms k earlier)
    | inr last ↦ let here : k ≡ length es = omega (arith, length_push es e) in rw (here, push_entry es e) form
  ];
  nonzero = λ k lk. elim (cases_lt k (length es)) [
    | inl earlier ↦ rw (push_earlier es e k earlier) (h.nonzero k earlier)
    | inr last ↦ let here : k ≡ length es = omega (arith, length_push es e) in rw (here, push_entry es e) apart
  ];
}

pub sparse_none : AreSparse []
sparse_none = record {
  rise = λ i j l lj. absurd (omega arith);
  forms = λ k l. absurd (omega arith);
  nonzero = λ k l. absurd (omega arith);
}

-- the entry that was read
pub entry_read : (es : List Entry) (k : ℕ) (e : Entry) → k < length es → e ≡ slice_index_or es k e → entry_at es k ≡ e
entry_read es k e l is = sym (get_or_read es k e l is nothing)

pub entry_same : (es : List Entry) (k : ℕ) (e : Entry) → k < length es → entry_at es k ≡ slice_index_or es k e
entry_same es k e l = get_or_default es k nothing e l

-- the variables up to one that is below v are below v
pub below_through : (es : List Entry) (m v : ℕ) → AreSparse es → m < length es → (entry_at es m).variable < v → (k : ℕ)
    → k < m + 1 → (entry_at es k).variable < v
below_through es m v h l b k lk = elim (cases_eq k m) [
  | inl here ↦ rw here b
  | inr earlier ↦ let first : (entry_at es k).variable < (entry_at es m).variable = h.rise k m (omega arith) l in omega arith
]

-- and those from one on that isn't below v aren't
pub behind_from : (es : List Entry) (m v : ℕ) → AreSparse es → m < length es → v ≤ (entry_at es m).variable → (k : ℕ)
    → m ≤ k → k < length es
    → v ≤ (entry_at es k).variable
behind_from es m v h l b k lk inside = elim (cases_eq k m) [
  | inl here ↦ rw here b
  | inr later ↦ let first : (entry_at es m).variable < (entry_at es k).variable = h.rise m k (omega arith) inside in omega arith
]

-- the entries through one are those of the variables through its own
pub split_through : (es : List Entry) (k v : ℕ) → AreSparse es → k < length es → (entry_at es k).variable ≡ v → IsSplit es (k + 1) (v + 1)
split_through es k v h l is = record {
  within = omega arith;
  before = below_through es k (v + 1) h l (omega (arith, is));
  behind = λ m lm inside.
      let after : (entry_at es k).variable < (entry_at es m).variable = h.rise k m (omega arith) inside in omega (arith, is);
}

nothing_above : pos 0 ≤ℤ pos 0
nothing_above = omega (arith, ints)

-- the first entry above zero is that of the first variable
pub first_listed : (es : List Entry) (k : ℕ) → AreSparse es → k < length es
    → ((i : ℕ) → i < k → (entry_at es i).value.num ≤ℤ pos 0) → (v : ℕ) → v < (entry_at es k).variable
    → (listed_at es v).num ≤ℤ pos 0
first_listed es k h l none v lv = elim (found_or_none es v) [
  | inl there ↦ elim (cases_lt there.0 k) [
    | inl earlier ↦ rw (listed_entry es there.0 v h.rise there.1 there.2) (none there.0 earlier)
    | inr later ↦ let behind : (entry_at es k).variable ≤ (entry_at es there.0).variable =
        behind_from es k (entry_at es k).variable h l (omega arith) there.0 later there.1 in
        let is : (entry_at es there.0).variable ≡ v = there.2 in absurd (omega arith)
  ]
  | inr away ↦ rw (listed_none es v away) nothing_above
]

pub none_listed : (es : List Entry) → AreSparse es → ((i : ℕ) → i < length es → (entry_at es i).value.num ≤ℤ pos 0)
    → (v : ℕ) → (listed_at es v).num ≤ℤ pos 0
none_listed es h none v = elim (found_or_none es v) [
  | inl there ↦ rw (listed_entry es there.0 v h.rise there.1 there.2) (none there.0 there.1)
  | inr away ↦ rw (listed_none es v away) nothing_above
]
