-- Two lists of nonzero cells while one times f is taken from the other, variable by variable.
use Rattle.std.proofs.Common.{◌≡◌, inl, inr, ℕ, ◌+◌, ◌<◌, ◌≤◌, List, [], length, min, ℤ, pos, ◌*ℤ◌}
use Rattle.std.proofs.Common.{refl, sym, subst, arith}
use Rattle.std.proofs.lemmas.Int.{ints}
use Rattle.std.proofs.lemmas.Bool.{cases_eq, cases_lt}
use Rattle.fraction128.specs.Fraction.{Fraction, IsForm, whole}
use Rattle.fraction128.proofs.Unique.{same_form}
use Rattle.fraction128.proofs.Forms.{form_of_zero}
use Rattle.exchange_runs.specs.Exchange.{IsLess}
use Rattle.exchange_runs.proofs.Loops.{less_at_zero}
use Rattle.simplex.specs.Entries.{listed_at, entry_at, AreSparse, AreBelow, IsSplit, IsBehind}
use Rattle.simplex.specs.CellSteps.{IsPushed, AreLeft}
use Rattle.simplex.specs.declared.entries.Entry.{Entry}
use Rattle.simplex.proofs.Listed.{listed_past, listed_push, listed_push_other, below_push, below_up, sparse_push, sparse_none}
use Rattle.simplex.proofs.Listed.{split_gap, split_up}

-- all variables below v are done
pub record AreTakenBelow (entries pivot left : List Entry) (f : Fraction) (end i j v : ℕ) : Type 0 where
  pub within : v ≤ end
  pub row : IsSplit entries i v
  pub other : IsSplit pivot j v
  pub sparse : AreSparse left
  pub below : AreBelow v left
  pub each : (u : ℕ) → u < v → IsLess (listed_at entries u) f (listed_at pivot u) (listed_at left u)

-- a form that is zero is 0/1
pub zero_is : (b : Fraction) → IsForm b → b.num ≡ pos 0 → b ≡ whole (pos 0)
zero_is b form none = same_form b (whole (pos 0)) form form_of_zero (level b.num b.den none)
  where
    level : (n d : ℤ) → n ≡ pos 0 → n *ℤ pos 1 ≡ pos 0 *ℤ d
    level n d e = rw e (zeros d)
      where
        zeros : (x : ℤ) → pos 0 *ℤ pos 1 ≡ pos 0 *ℤ x
        zeros x = omega (arith, ints)

-- zero less f times zero
pub less_nothing : (f : Fraction) → IsLess (whole (pos 0)) f (whole (pos 0)) (whole (pos 0))
less_nothing f = less_at_zero (whole (pos 0)) f (whole (pos 0)) refl form_of_zero

-- the next variable isn't before one that splits the list
pub behind_from_split : (es : List Entry) (count end from v : ℕ) → IsSplit es count from → from ≤ end → IsBehind es count end v → from ≤ v
behind_from_split es count end from v split within next = elim (cases_lt count (length es)) [
  | inl some ↦ let b : from ≤ (entry_at es count).variable = split.behind count (omega arith) some in omega (arith, next.listed some)
  | inr none ↦ omega (arith, next.past none)
]

-- nor is it behind the end
pub behind_within : (es : List Entry) (count end v : ℕ) → AreBelow end es → IsBehind es count end v → v ≤ end
behind_within es count end v below next = elim (cases_lt count (length es)) [
  | inl some ↦ let b : (entry_at es count).variable < end = below count some in omega (arith, next.listed some)
  | inr none ↦ omega (arith, next.past none)
]

module _ (entries pivot left : List Entry) (f : Fraction) (end i j from : ℕ) (row : AreSparse entries) (other : AreSparse pivot)
    (low_row : AreBelow end entries) (low_pivot : AreBelow end pivot) (h : AreTakenBelow entries pivot left f end i j from) where
  -- up to the next variable that either lists nothing is to do
  pub taken_up : (a b : ℕ) → IsBehind entries i end a → IsBehind pivot j end b → AreTakenBelow entries pivot left f end i j (min a b)
  taken_up a b next_row next_pivot =
      let order : from ≤ min a b =
      omega (
        arith,
        behind_from_split entries i end from a h.row h.within next_row,
        behind_from_split pivot j end from b h.other h.within next_pivot,
      ) in
      let in_row : i < length entries → min a b ≤ (entry_at entries i).variable = λ l. omega (arith, next_row.listed l) in
      let in_pivot : j < length pivot → min a b ≤ (entry_at pivot j).variable = λ l. omega (arith, next_pivot.listed l) in
      record {
        within = omega (arith, behind_within entries i end a low_row next_row);
        row = split_up entries i from (min a b) row h.row order in_row;
        other = split_up pivot j from (min a b) other h.other order in_pivot;
        sparse = h.sparse;
        below = λ k l. let b : (entry_at left k).variable < from = h.below k l in omega (arith, order);
        each = λ u l. elim (cases_lt u from) [
          | inl done ↦ h.each u done
          | inr gap ↦
              rw (
                split_gap entries i from (min a b) u row h.row gap l in_row,
                split_gap pivot j from (min a b) u other h.other gap l in_pivot,
                listed_past left from u h.below gap,
              )
              (less_nothing f)
        ];
      }

  -- a variable more, whose cell is pushed
  pub taken_pushed : (after : List Entry) (b : Fraction) (i' j' : ℕ) → from < end
      → IsSplit entries i' (from + 1) → IsSplit pivot j' (from + 1) → IsLess (listed_at entries from) f (listed_at pivot from) b
      → IsPushed left from b after
      → AreTakenBelow entries pivot after f end i' j' (from + 1)
  taken_pushed after b i' j' within split_row split_pivot is pushed = elim pushed [
    | inl none ↦ rw none.1
        (record {
          within = omega arith;
          row = split_row;
          other = split_pivot;
          sparse = h.sparse;
          below = below_up from left h.below;
          each = λ u l. elim (cases_eq u from) [
            | inl here ↦
                rw (here, listed_past left from from h.below (omega arith))
                (subst (λ (x : Fraction). IsLess (listed_at entries from) f (listed_at pivot from) x) (zero_is b is.form none.0) is)
            | inr earlier ↦ h.each u (omega arith)
          ];
        })
    | inr some ↦
        let e : Entry = record { variable = from; value = b } in
        rw some.1
        (record {
          within = omega arith;
          row = split_row;
          other = split_pivot;
          sparse = sparse_push left e h.sparse h.below is.form some.0;
          below = below_push left e (from + 1) (below_up from left h.below) (omega arith);
          each = λ u l. elim (cases_eq u from) [
            | inl here ↦ rw (here, listed_push left e from h.below refl) is
            | inr earlier ↦ rw (listed_push_other left e u (λ q. earlier (sym q))) (h.each u (omega arith))
          ];
        })
  ]

  -- at the end all is done
  pub taken_whole : end ≤ from → AreLeft end entries f pivot left
  taken_whole last = record {
    sparse = h.sparse;
    below = λ k l. let b : (entry_at left k).variable < from = h.below k l in omega (arith, h.within);
    each = λ u. elim (cases_lt u from) [
      | inl done ↦ h.each u done
      | inr past ↦
          rw (
            listed_past entries end u low_row (omega arith),
            listed_past pivot end u low_pivot (omega arith),
            listed_past left from u h.below past,
          )
          (less_nothing f)
    ];
  }

-- nothing is done yet
pub taken_none : (entries pivot : List Entry) (f : Fraction) (end : ℕ) → AreTakenBelow entries pivot [] f end 0 0 0
taken_none entries pivot f end = record {
  within = omega arith;
  row = split_zero entries;
  other = split_zero pivot;
  sparse = sparse_none;
  below = λ k l. absurd (omega arith);
  each = λ u l. absurd (omega arith);
}
  where
    split_zero : (es : List Entry) → IsSplit es 0 0
    split_zero es = record { within = omega arith; before = λ k l. absurd (omega arith); behind = λ k l inside. omega arith }
