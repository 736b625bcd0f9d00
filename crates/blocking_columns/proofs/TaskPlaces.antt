-- Entries of the places of tasks: one more behind others, and the stretch that two of them say.
use Rattle.std.proofs.Common.{◌≡◌, ℕ, ◌+◌, ◌++◌, ◌<◌, ◌≤◌, ◌∷◌, [], List, length, sym, arith, inl, inr, subst}
use Rattle.std.proofs.Math.ListN.{get_or, get_or-append}
use Rattle.std.proofs.lemmas.Bool.{cases_lt}
use Rattle.std.proofs.lemmas.List.{get_or_push, length_push}
use Rattle.sporadic_model.specs.SetDef.{SetDef}
use Rattle.blocking_columns.specs.declared.columns.Class.TheVariants as class
use Rattle.blocking_columns.specs.declared.columns.Fragment.{Fragment}
use Rattle.blocking_columns.specs.declared.stretches.TaskPlace.{TaskPlace}
use Rattle.blocking_columns.specs.Stretches.{slot, slot_of, BeginsAt, IsTaskStretch}
use Rattle.blocking_columns.specs.TaskPlaces.{IsPlace, ArePlacesBelow, ArePlaces}

earlier_place : (set : SetDef) (bounds : ℕ → ℕ) (i n : ℕ) (cs : List Fragment) (ps : List TaskPlace) (p : TaskPlace) → length ps ≡ n
    → ArePlacesBelow set bounds i n cs ps → ArePlacesBelow set bounds i n cs (ps ++ p ∷ [])
earlier_place set bounds i n cs ps p size each x d l =
    subst (λ (e : TaskPlace). IsPlace set bounds i x cs e) (sym (get_or-append ps (p ∷ []) d x (omega (arith, size, l)))) (each x d l)

pub one_more_place : (set : SetDef) (bounds : ℕ → ℕ) (i n : ℕ) (cs : List Fragment) (ps : List TaskPlace) (p : TaskPlace)
    → length ps ≡ n → ArePlacesBelow set bounds i n cs ps → IsPlace set bounds i n cs p
    → ArePlacesBelow set bounds i (n + 1) cs (ps ++ p ∷ [])
one_more_place set bounds i n cs ps p size each here x d l = elim (cases_lt x n) [
  | inl below ↦ earlier_place set bounds i n cs ps p size each x d below
  | inr not_below ↦
      let same : n ≡ x = omega (arith, not_below, l) in
      subst (λ (k : ℕ). IsPlace set bounds i k cs (get_or (ps ++ p ∷ []) k d)) same
      (subst (λ (e : TaskPlace). IsPlace set bounds i n cs e) (sym (get_or_push ps p d n size)) here)
]

pub last_place : (set : SetDef) (bounds : ℕ → ℕ) (i n : ℕ) (cs : List Fragment) (ps : List TaskPlace) (p : TaskPlace)
    → length ps ≡ n → ArePlacesBelow set bounds i n cs ps → BeginsAt (slot n 0) cs p.from
    → ArePlaces set bounds i n cs (ps ++ p ∷ [])
last_place set bounds i n cs ps p size each end = record {
  one_more = omega (arith, length_push ps p, size);
  each = earlier_place set bounds i n cs ps p size each;
  ends = λ d. subst (λ (e : TaskPlace). BeginsAt (slot n 0) cs e.from) (sym (get_or_push ps p d n size)) end;
}

-- No later columns begin before earlier ones.
begins_later : (s t a b : ℕ) (cs : List Fragment) → s ≤ t → BeginsAt s cs a → BeginsAt t cs b → a ≤ b
begins_later s t a b cs l from to = elim (cases_lt b a) [
  | inl earlier ↦
      let d : Fragment = record { task = record { 0 = 0 }; resource = record { 0 = 0 }; class = class.Direct } in
      let below : slot_of (get_or cs b d) < s = from.before b d (omega arith) earlier in
      let above : t ≤ slot_of (get_or cs b d) = to.behind b d (omega arith) (omega (arith, earlier, from.within)) in
      absurd (omega (arith, l, below, above))
  | inr not_earlier ↦ omega (arith, not_earlier)
]

place_begins : (set : SetDef) (bounds : ℕ → ℕ) (i n x : ℕ) (cs : List Fragment) (ps : List TaskPlace) (d : TaskPlace)
    → ArePlaces set bounds i n cs ps → x ≤ n → BeginsAt (slot x 0) cs (get_or ps x d).from
place_begins set bounds i n x cs ps d places l = elim (cases_lt x n) [
  | inl below ↦ (places.each x d below).begins
  | inr not_below ↦
      let same : n ≡ x = omega (arith, not_below, l) in
      subst (λ (k : ℕ). BeginsAt (slot k 0) cs (get_or ps k d).from) same (places.ends d)
]

-- The columns of a task are those between where they begin and where the next task's do.
pub stretch_between : (set : SetDef) (bounds : ℕ → ℕ) (i n x : ℕ) (cs : List Fragment) (ps : List TaskPlace) (d e : TaskPlace)
    → ArePlaces set bounds i n cs ps → x < n → IsTaskStretch x cs (get_or ps x d).from (get_or ps (x + 1) e).from
stretch_between set bounds i n x cs ps d e places l =
    let from = place_begins set bounds i n x cs ps d places (omega (arith, l)) in
    let to = place_begins set bounds i n (x + 1) cs ps e places (omega (arith, l)) in
    record { from = from; to = to; order = begins_later (slot x 0) (slot (x + 1) 0) (get_or ps x d).from (get_or ps (x + 1) e).from cs (omega arith) from to }
