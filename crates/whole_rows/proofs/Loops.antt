-- The numbers of a row while a loop goes through them.
use Rattle.std.proofs.Common.{◌≡◌, ◌≢◌, inl, inr, ℕ, ◌+◌, ◌<◌, ◌≤◌, List, length, set, ℤ, pos, ◌-ℤ◌, ◌*ℤ◌}
use Rattle.std.proofs.Common.{refl, sym, ◌∙◌, ap, arith, get_or-set_same, get_or-set_other, length-set}
use Rattle.std.proofs.lemmas.Bool.{cases_eq, cases_lt}
use Rattle.std.proofs.lemmas.Int.{ints}
use Rattle.std.proofs.lemmas.List.{get_or_past}
use Rattle.number_laws.proofs.Ring.{mul-zero, zero-mul}
use Rattle.whole_rows.specs.Rows.{AreSparse, entry_at}
pub use Rattle.whole_rows.specs.Numbers.{AreTimesBetween}
use Rattle.whole_rows.specs.Numbers.{number_at, AreLess, AreTimes}
use Rattle.whole_rows.specs.declared.entries.Entry.{Entry}
use Rattle.whole_rows.proofs.Listed.{listed_entry, listed_none, found_or_none}

-- a number is written
number_set : (nums : List ℤ) (k : ℕ) (n : ℤ) → k < length nums → number_at (set nums k n) k ≡ n
number_set nums k n l = get_or-set_same nums k n (pos 0) l

number_kept : (nums : List ℤ) (k j : ℕ) (n : ℤ) → j ≢ k → number_at (set nums k n) j ≡ number_at nums j
number_kept nums k j n other = get_or-set_other nums k j n (pos 0) other

-- the numbers of the first places are divided, and the others as before
pub record AreDividedTo (i : ℕ) (before : List ℤ) (by : ℤ) (now : List ℤ) : Type 0 where
  pub as_many : length now ≡ length before
  pub done : (k : ℕ) → k < i → number_at before k ≡ number_at now k *ℤ by
  pub rest : (k : ℕ) → i ≤ k → number_at now k ≡ number_at before k

pub divided_more : (i : ℕ) (before : List ℤ) (by : ℤ) (now : List ℤ) (n : ℤ) → AreDividedTo i before by now → i < length now
    → number_at now i ≡ n *ℤ by → AreDividedTo (i + 1) before by (set now i n)
divided_more i before by now n h l is = record {
  as_many = length-set now i n ∙ h.as_many;
  done = λ k lk. elim (cases_eq k i) [
    | inl here ↦ rw (here, number_set now i n l) (sym (h.rest i (omega arith)) ∙ is)
    | inr other ↦ rw (number_kept now i k n other) (h.done k (omega arith))
  ];
  rest = λ k lk. number_kept now i k n (omega arith) ∙ h.rest k (omega arith);
}

-- one number more is multiplied
pub times_more : (first i : ℕ) (before : List ℤ) (by : ℤ) (now : List ℤ) (n : ℤ) → AreTimesBetween first i before by now → first ≤ i
    → i < length now → n ≡ number_at before i *ℤ by → AreTimesBetween first (i + 1) before by (set now i n)
times_more first i before by now n h order l is = record {
  as_many = length-set now i n ∙ h.as_many;
  done = λ k from lk. elim (cases_eq k i) [
    | inl here ↦ rw (here, number_set now i n l) is
    | inr other ↦ rw (number_kept now i k n other) (h.done k from (omega arith))
  ];
  earlier = λ k lk. number_kept now i k n (omega arith) ∙ h.earlier k lk;
  rest = λ k lk. number_kept now i k n (omega arith) ∙ h.rest k (omega arith);
}

-- those up to a place, and then those from it on
pub times_joined : (middle last : ℕ) (before : List ℤ) (by : ℤ) (half now : List ℤ) → middle ≤ last
    → AreTimesBetween 0 middle before by half → AreTimesBetween middle last half by now → AreTimesBetween 0 last before by now
times_joined middle last before by half now order h g = record {
  as_many = g.as_many ∙ h.as_many;
  done = λ k from lk. elim (cases_lt k middle) [
    | inl within ↦ g.earlier k within ∙ h.done k from within
    | inr past ↦ g.done k past lk ∙ ap (λ n. n *ℤ by) (h.rest k past)
  ];
  earlier = λ k lk. absurd (omega arith);
  rest = λ k lk. g.rest k lk ∙ h.rest k (omega arith);
}

-- past the end there is nothing to multiply
pub times_all : (last : ℕ) (before : List ℤ) (by : ℤ) (now : List ℤ) → length before ≤ last → AreTimesBetween 0 last before by now
    → AreTimes before by now
times_all last before by now l h = record {
  as_many = h.as_many;
  each = λ k. elim (cases_lt k last) [
    | inl within ↦ h.done k (omega arith) within
    | inr past ↦ h.rest k past ∙ rw (get_or_past before k (pos 0) (omega arith), zero-mul by) refl
  ];
}

-- what is listed is subtracted from the numbers at the first places listed, and the others are as before
pub record AreLessTo (i : ℕ) (before : List ℤ) (f : ℤ) (entries : List Entry) (now : List ℤ) : Type 0 where
  pub as_many : length now ≡ length before
  pub done : (j : ℕ) → j < i → number_at now (entry_at entries j).place
      ≡ number_at before (entry_at entries j).place -ℤ (f *ℤ (entry_at entries j).num)
  pub rest : (k : ℕ) → ((j : ℕ) → j < i → (entry_at entries j).place ≢ k) → number_at now k ≡ number_at before k

-- no place among the first is that of the next
apart : (entries : List Entry) (i j : ℕ) → AreSparse entries → i < length entries → j < i
    → (entry_at entries j).place ≢ (entry_at entries i).place
apart entries i j h l lj same =
    let rise : (entry_at entries j).place < (entry_at entries i).place = h.rise j i lj l in omega arith

pub next_untouched : (i : ℕ) (before : List ℤ) (f : ℤ) (entries : List Entry) (now : List ℤ) → AreLessTo i before f entries now
    → AreSparse entries → i < length entries
    → number_at now (entry_at entries i).place ≡ number_at before (entry_at entries i).place
next_untouched i before f entries now h sparse l = h.rest (entry_at entries i).place (λ j lj. apart entries i j sparse l lj)

pub less_more : (i : ℕ) (before : List ℤ) (f : ℤ) (entries : List Entry) (now : List ℤ) (p : ℕ) (n : ℤ) → AreLessTo i before f entries now
    → AreSparse entries → i < length entries → p ≡ (entry_at entries i).place → p < length now
    → n ≡ number_at before (entry_at entries i).place -ℤ (f *ℤ (entry_at entries i).num)
    → AreLessTo (i + 1) before f entries (set now p n)
less_more i before f entries now p n h sparse l at within is = record {
  as_many = length-set now p n ∙ h.as_many;
  done = λ j lj. elim (cases_eq j i) [
    | inl here ↦ rw (here, ← at, number_set now p n within, at) is
    | inr other ↦
        let earlier : j < i = omega arith in
        let away : (entry_at entries j).place ≢ p = rw at (apart entries i j sparse l earlier) in
        number_kept now p (entry_at entries j).place n away ∙ h.done j earlier
  ];
  rest = λ k none.
      let away : (entry_at entries i).place ≢ k = none i (omega arith) in
      let other : k ≢ p = λ q. away (sym at ∙ sym q) in
      number_kept now p k n other ∙ h.rest k (λ j lj. none j (omega arith));
}

none_taken : (x : ℤ) → x ≡ x -ℤ pos 0
none_taken x = omega (arith, ints)

pub less_all : (i : ℕ) (before : List ℤ) (f : ℤ) (entries : List Entry) (now : List ℤ) → AreSparse entries → i ≡ length entries
    → AreLessTo i before f entries now → AreLess before f entries now
less_all i before f entries now sparse l h = record {
  as_many = h.as_many;
  each = λ k. elim (found_or_none entries k) [
    | inl there ↦
        rw (listed_entry entries there.0 k sparse.rise there.1 there.2, ← there.2) (h.done there.0 (omega (arith, there.1)))
    | inr none ↦
        rw (listed_none entries k none, mul-zero f) (h.rest k (λ j lj. none j (omega arith)) ∙ none_taken (number_at before k))
  ];
}
