-- What is left of a list of nonzero numbers if times another list is subtracted.
use Rattle.std.proofs.Common.{◌≡◌, ◌≢◌, inl, inr, ℕ, ◌+◌, ◌-◌, ◌*◌, ◌<◌, ◌≤◌, ◌^◌, ◌==◌, if◌then◌else◌, List, map, length, ℤ, pos, ◌-ℤ◌, ◌*ℤ◌, unsigned_abs}
use Rattle.std.proofs.Common.{refl, sym, ◌∙◌, ap, arith}
use Rattle.std.specs.List.{range_with_len}
use Rattle.std.proofs.lemmas.Bool.{cases_eq, cases_lt, eq-eqb, ne_eqb}
use Rattle.std.proofs.lemmas.List.FromFn.{get_or-map-range_with_len}
use Rattle.number_laws.proofs.Ring.{mul-zero}
use Rattle.whole_rows.specs.Rows.{listed_at, entry_at, AreSparse, AreBelow}
use Rattle.whole_rows.specs.Numbers.{number_at, AreListedTo}
use Rattle.whole_rows.specs.EntrySteps.{IsPushed}
use Rattle.whole_rows.specs.Short.{ArePassed, AreLeft, CanSubtractListed, CanRead, IsRead, IsNextPlace}
use Rattle.whole_rows.specs.declared.entries.Entry.{Entry}
use Rattle.whole_rows.proofs.Listed.{listed_entry, listed_none, listed_past, listed_more, listed_same, listed_zeros}

-- the entries from index i on are at no earlier place than that one
later : (es : List Entry) (i m : ℕ) → AreSparse es → i ≤ m → m < length es → (entry_at es i).place ≤ (entry_at es m).place
later es i m sparse l lm = elim (cases_eq i m) [
  | inl here ↦ rw here (omega arith)
  | inr other ↦ let rise : (entry_at es i).place < (entry_at es m).place = sparse.rise i m (omega arith) lm in omega arith
]

-- nothing is listed from the passed places up to the next entry
none_between : (es : List Entry) (i from m : ℕ) → AreSparse es → ArePassed es i from → from ≤ m
    → (i < length es → m < (entry_at es i).place) → listed_at es m ≡ pos 0
none_between es i from m sparse h l next = listed_none es m (λ e le q. elim (cases_lt e i) [
  | inl earlier ↦ let before : (entry_at es e).place < from = h.before e earlier in omega arith
  | inr on ↦
      let first : m < (entry_at es i).place = next (omega arith) in
      let other : (entry_at es i).place ≤ (entry_at es e).place = later es i e sparse on le in omega arith
])

-- up to a place that isn't behind the next entry
passed_up_to : (es : List Entry) (i from place : ℕ) → AreSparse es → ArePassed es i from → from ≤ place
    → (i < length es → place ≤ (entry_at es i).place) → ArePassed es i place
passed_up_to es i from place sparse h l next = record {
  within = h.within;
  before = λ m lm. let before : (entry_at es m).place < from = h.before m lm in omega arith;
  rest = λ m lm within.
      let first : place ≤ (entry_at es i).place = next (omega arith) in
      let other : (entry_at es i).place ≤ (entry_at es m).place = later es i m sparse lm within in omega arith;
}

pub read_here : (es : List Entry) (i place : ℕ) (num : ℤ) → CanRead es i place → i < length es → (entry_at es i).place ≡ place
    → num ≡ (entry_at es i).num → IsRead es i place num (i + 1)
read_here es i place num h l here is = record {
  number = is ∙ sym (listed_entry es i place h.sparse.rise l here);
  passed = record {
    within = omega arith;
    before = λ m lm. elim (cases_lt m i) [
      | inl earlier ↦ let before : (entry_at es m).place < place = h.passed.before m earlier in omega arith
      | inr last ↦ let same : m ≡ i = omega arith in rw same (omega arith)
    ];
    rest = λ m lm within.
        let rise : (entry_at es i).place < (entry_at es m).place = h.sparse.rise i m (omega arith) within in omega arith;
  };
  order = omega arith;
  step = λ inside same. omega arith;
}

pub read_none : (es : List Entry) (i place : ℕ) → CanRead es i place → (i < length es → (entry_at es i).place ≢ place)
    → IsRead es i place (pos 0) i
read_none es i place h away =
    let apart : (m : ℕ) → i ≤ m → m < length es → place < (entry_at es m).place = λ m lm within.
    let least : place ≤ (entry_at es m).place = h.passed.rest m lm within in
    let first : place ≤ (entry_at es i).place = h.passed.rest i (omega arith) (omega arith) in
    let other : (entry_at es i).place ≤ (entry_at es m).place = later es i m h.sparse lm within in
    let differ : (entry_at es i).place ≢ place = away (omega arith) in
    omega (arith, differ) in
    record {
      number = sym (listed_none es place (λ m lm q. elim (cases_lt m i) [
        | inl earlier ↦ let before : (entry_at es m).place < place = h.passed.before m earlier in omega arith
        | inr on ↦ let after : place < (entry_at es m).place = apart m on lm in omega arith
      ]));
      passed = record {
        within = h.passed.within;
        before = λ m lm. let before : (entry_at es m).place < place = h.passed.before m lm in omega arith;
        rest = λ m lm within. let after : place < (entry_at es m).place = apart m lm within in omega arith;
      };
      order = omega arith;
      step = λ inside same. absurd (away inside same);
    }

-- what is left at place j
abbrev pub left_at : List Entry → ℕ → ℤ → List Entry → ℕ → ℤ
left_at es k f others j = (if j == k then pos 0 else listed_at es j) -ℤ (f *ℤ listed_at others j)

abbrev pub left_nums : ℕ → List Entry → ℕ → ℤ → List Entry → List ℤ
left_nums end es k f others = map (left_at es k f others) (range_with_len 0 end)

pub left_num : (end : ℕ) (es : List Entry) (k : ℕ) (f : ℤ) (others : List Entry) (j : ℕ) → j < end
    → number_at (left_nums end es k f others) j ≡ left_at es k f others j
left_num end es k f others j l = get_or-map-range_with_len (left_at es k f others) 0 end j j (pos 0) l (omega arith)

zero_less : (f : ℤ) → pos 0 -ℤ (f *ℤ pos 0) ≡ pos 0
zero_less f = rw (mul-zero f) refl

-- nothing is left where nothing is listed
left_none : (es : List Entry) (k : ℕ) (f : ℤ) (others : List Entry) (j : ℕ) → listed_at es j ≡ pos 0 → listed_at others j ≡ pos 0
    → left_at es k f others j ≡ pos 0
left_none es k f others j own other = elim (cases_eq j k) [
  | inl here ↦ rw (eq-eqb j k here, other) (zero_less f)
  | inr away ↦ rw (ne_eqb j k away, own, other) (zero_less f)
]

-- Up to the next place nothing is left.
listed_up_to : (end : ℕ) (es : List Entry) (k : ℕ) (f : ℤ) (others : List Entry) (i j from place : ℕ) (list : List Entry)
    → AreSparse es → AreSparse others → ArePassed es i from → ArePassed others j from → from ≤ place → place ≤ end
    → (i < length es → place ≤ (entry_at es i).place) → (j < length others → place ≤ (entry_at others j).place)
    → AreListedTo from (left_nums end es k f others) list → AreListedTo place (left_nums end es k f others) list
listed_up_to end es k f others i j from place list sparse sparse_others own other order within next next_other h =
    listed_zeros from place (left_nums end es k f others) list order h (λ m l lm.
    left_num end es k f others m (omega arith) ∙ left_none es k f others m
    (none_between es i from m sparse own l (λ inside. let n : place ≤ (entry_at es i).place = next inside in omega arith))
    (none_between others j from m sparse_others other l
    (λ inside. let n : place ≤ (entry_at others j).place = next_other inside in omega arith)))

listed_pushed : (place : ℕ) (nums : List ℤ) (list after : List Entry) (n : ℤ) → AreListedTo place nums list
    → number_at nums place ≡ n → IsPushed list place n after → AreListedTo (place + 1) nums after
listed_pushed place nums list after n h is (inl none) = rw none.1 (listed_same place nums list h (is ∙ none.0))
listed_pushed place nums list after n h is (inr some) = rw some.1 (listed_more place nums list n h is some.0)

-- All that is left is listed.
all_left : (end : ℕ) (es : List Entry) (k : ℕ) (f : ℤ) (others list : List Entry) → AreBelow end es → AreBelow end others
    → AreListedTo end (left_nums end es k f others) list → AreLeft end es k f others list
all_left end es k f others list below below_others h =
    let each : (j : ℕ) → listed_at list j ≡ left_at es k f others j = λ j. elim (cases_lt j end) [
      | inl within ↦ h.each j within ∙ left_num end es k f others j within
      | inr past ↦ listed_past list end j h.below past ∙ sym (left_none es k f others j (listed_past es end j below past)
          (listed_past others end j below_others past))
    ] in
    record {
      sparse = h.sparse;
      below = h.below;
      own = each k ∙ ap (λ b. (if b then pos 0 else listed_at es k) -ℤ (f *ℤ listed_at others k)) (eq-eqb k k refl);
      others_left = λ j away.
          each j ∙ ap (λ b. (if b then pos 0 else listed_at es j) -ℤ (f *ℤ listed_at others j)) (ne_eqb j k away);
    }

-- the next place
place_within : (end : ℕ) (es : List Entry) (i : ℕ) (others : List Entry) (j from place : ℕ) → AreBelow end es → AreBelow end others
    → ArePassed es i from → ArePassed others j from → IsNextPlace es i others j place → (from ≤ place) × (place < end)
place_within end es i others j from place below below_others own other next = elim next.here [
  | inl here ↦
      let least : from ≤ (entry_at es i).place = own.rest i (omega arith) here.0 in
      let most : (entry_at es i).place < end = below i here.0 in (omega (arith, here.1), omega (arith, here.1))
  | inr there ↦
      let least : from ≤ (entry_at others j).place = other.rest j (omega arith) there.0 in
      let most : (entry_at others j).place < end = below_others j there.0 in (omega (arith, there.1), omega (arith, there.1))
]

pub next_within : (end : ℕ) (es : List Entry) (f : ℤ) (i : ℕ) (others : List Entry) (j from place : ℕ)
    → CanSubtractListed end es f others → ArePassed es i from → ArePassed others j from → IsNextPlace es i others j place → place < end
next_within end es f i others j from place h own other next =
    (place_within end es i others j from place h.below h.below_others own other next).1

pub can_read : (end : ℕ) (es : List Entry) (f : ℤ) (i : ℕ) (others : List Entry) (j from place : ℕ)
    → CanSubtractListed end es f others → ArePassed es i from → ArePassed others j from → IsNextPlace es i others j place
    → CanRead es i place × CanRead others j place
can_read end es f i others j from place h own other next =
    let order = (place_within end es i others j from place h.below h.below_others own other next).0 in (
      record { sparse = h.sparse; passed = passed_up_to es i from place h.sparse own order next.own },
      record { sparse = h.sparse_others; passed = passed_up_to others j from place h.sparse_others other order next.other },
    )

-- one of the lists is read on
pub read_on : (es : List Entry) (i : ℕ) (others : List Entry) (j place : ℕ) (x y : ℤ) (n m : ℕ) → IsNextPlace es i others j place
    → IsRead es i place x n → IsRead others j place y m
    → ((length es - n) + (length others - m)) < ((length es - i) + (length others - j))
read_on es i others j place x y n m next own other =
    let order : i ≤ n = own.order in
    let order_other : j ≤ m = other.order in
    let within : n ≤ length es = own.passed.within in
    let within_other : m ≤ length others = other.passed.within in
    elim next.here [
      | inl here ↦ let more : i < n = own.step here.0 here.1 in omega arith
      | inr there ↦ let more : j < m = other.step there.0 there.1 in omega arith
    ]

-- one place more
pub left_more : (end : ℕ) (es : List Entry) (k : ℕ) (f : ℤ) (others : List Entry) (i j from place n m : ℕ) (x y left : ℤ)
    (list after : List Entry) → CanSubtractListed end es f others → ArePassed es i from → ArePassed others j from
    → IsNextPlace es i others j place → AreListedTo from (left_nums end es k f others) list → IsRead es i place x n
    → IsRead others j place y m → left ≡ (if place == k then pos 0 else x) -ℤ (f *ℤ y) → IsPushed list place left after
    → AreListedTo (place + 1) (left_nums end es k f others) after
left_more end es k f others i j from place n m x y left list after h own other next listed read read_other is pushed =
    let within = place_within end es i others j from place h.below h.below_others own other next in
    let order : from ≤ place = within.0 in
    let below : place < end = within.1 in
    listed_pushed place (left_nums end es k f others) list after left
    (listed_up_to end es k f others i j from place list h.sparse h.sparse_others own other order (omega arith) next.own next.other listed)
    (left_num end es k f others place below
    ∙ (ap (λ z. (if place == k then pos 0 else z) -ℤ (f *ℤ listed_at others place)) (sym read.number)
    ∙ (ap (λ z. (if place == k then pos 0 else x) -ℤ (f *ℤ z)) (sym read_other.number) ∙ sym is))) pushed

-- Behind both lists nothing is left.
pub left_at_end : (end : ℕ) (es : List Entry) (k : ℕ) (f : ℤ) (others : List Entry) (i j from : ℕ) (list : List Entry)
    → CanSubtractListed end es f others → ArePassed es i from → ArePassed others j from → from ≤ end
    → length es ≤ i → length others ≤ j → AreListedTo from (left_nums end es k f others) list → AreLeft end es k f others list
left_at_end end es k f others i j from list h own other within all all_others listed =
    all_left end es k f others list h.below h.below_others
    (listed_up_to end es k f others i j from end list h.sparse h.sparse_others own other within (omega arith)
    (λ inside. absurd (omega arith)) (λ inside. absurd (omega arith)) listed)

-- the room at each place
pub room_at : (end : ℕ) (es : List Entry) (f : ℤ) (others : List Entry) (i j place n m : ℕ) (x y : ℤ) → CanSubtractListed end es f others
    → IsRead es i place x n → IsRead others j place y m → unsigned_abs x + unsigned_abs f * unsigned_abs y < 2 ^ 63
room_at end es f others i j place n m x y h own other = rw (own.number, other.number) (h.room place)
