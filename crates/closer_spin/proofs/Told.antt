-- What a table says of its test: how many pass, and what sums over those that pass are.
use Rattle.std.proofs.Common.{◌≡◌, ℕ, ◌+◌, ◌<◌, ◌==◌, ◌&&◌, ◌||◌, not, if◌then◌else◌, Bool, true, false, List, length, refl, ap, ◌∙◌, inl, inr}
use Rattle.std.proofs.Common.{nat_lt, nat_le}
use Rattle.std.specs.Prelude.{slice_index, slice_index_or}
use Rattle.std.specs.List.{Contains}
use Rattle.std.proofs.lemmas.Bool.{cases_Bool, both_ways, and_parts, not-true}
use Rattle.std.proofs.lemmas.List.Elements.{All-contains_itself}
use Rattle.number_laws.specs.Sums.{sum_below, only_if}
use Rattle.number_laws.specs.Tests.{count_below}
use Rattle.number_laws.proofs.SumLaws.{sum_below-agree}
use Rattle.number_laws.proofs.CountLaws.{flag-passes, count_below-agree, count_below-none}
use Rattle.sporadic_model.specs.SetDef.{SetDef}
use Rattle.sporadic_model.specs.Users.{count_of}
use Rattle.blocking_columns.specs.declared.columns.Class.TheVariants as class
use Rattle.blocking_columns.specs.ColumnDef.{ColumnDef, is_class}
use Rattle.fragments.specs.Constraints.{holds_some}
use Rattle.program_laws.proofs.FewRows.{held}
use Rattle.spin_charging.specs.SpinPrograms.{is_from, higher_requests, upper_requests}
use Rattle.closer_spin_laws.specs.CloserSpinRows.{is_spun_below, is_lone, is_left_out, is_in_place, is_spun_beside}
use Rattle.closer_spin_laws.specs.CloserSpinRows.{is_spun_with, is_of_slot, used_above, together_row, closer_spinning_row}
use Rattle.spin_protocol.proofs.NoneFrom.{IsOnlyFrom}
use Rattle.spin_protocol.specs.Tables.{Tells}
use Rattle.closer_spin.specs.declared.groups.Pairing.{Pairing}
use Rattle.closer_spin.specs.declared.groups.Pairing.TheVariants as pairing
use Rattle.closer_spin.specs.Together.{row_together, paired, is_paired}

-- As many pass the test as are told.
pub told_many : (n : ℕ) (test : ℕ → Bool) (table : List Bool) → Tells n test table
    → count_below (length table) (λ q. slice_index_or table q false) ≡ count_below n test
told_many n test table told =
    ap (λ m. count_below m (λ q. slice_index_or table q false)) told.one_each
    ∙ count_below-agree n (λ q. slice_index_or table q false) test told.each

-- Sums over those that are told are the requests of those that pass.
pub told_requests : (set : SetDef) (bounds : ℕ → ℕ) (i : ℕ) (test : ℕ → Bool) (table : List Bool) (requests : List ℕ)
    → Tells (length set.resources) test table
    → ((q : ℕ) → q < length set.resources → slice_index requests q ≡ count_of set i q + higher_requests set bounds i q)
    → sum_below (length table) (λ q. only_if (slice_index_or table q false) (slice_index requests q)) ≡ upper_requests set bounds i test
told_requests set bounds i test table requests told are =
    ap (λ m. sum_below m (λ q. only_if (slice_index_or table q false) (slice_index requests q))) told.one_each
    ∙ sum_below-agree (length set.resources)
    (λ q. only_if (slice_index_or table q false) (slice_index requests q))
    (λ q. only_if (test q) (count_of set i q + higher_requests set bounds i q))
    (λ q l. ap (λ b. only_if b (slice_index requests q)) (told.each q l) ∙ ap (λ n. only_if (test q) n) (are q l))

-- Where they aren't several, or too few are used above, the row of these resources together isn't there.
pub together_missing : (set : SetDef) (i k least : ℕ) (test : ℕ → Bool) (cs : List ColumnDef)
    → (nat_lt 1 (count_below (length set.resources) test) && nat_le least (used_above set i k)) ≡ false
    → holds_some cs (together_row set i k least test) ≡ false
together_missing set i k least test cs few = elim (cases_Bool (holds_some cs (together_row set i k least test))) [
  | inr none ↦ none
  | inl h ↦
      let c : (c : ColumnDef) × (Contains cs c) × (0 < (together_row set i k least test).coefficient c) =
      held (Contains cs) cs (together_row set i k least test) (All-contains_itself cs) h in
      let there : Bool = nat_lt 1 (count_below (length set.resources) test) && nat_le least (used_above set i k) in
      absurd (both_ways there few (and_parts there _ (flag-passes (there && is_of_slot set k test c.0) c.2)).0)
]

none_of : (set : SetDef) (i k least : ℕ) (test : ℕ → Bool) (cs : List ColumnDef) → ((r : ℕ) → r < length set.resources → test r ≡ false)
    → holds_some cs (together_row set i k least test) ≡ false
none_of set i k least test cs none = together_missing set i k least test cs
    (ap (λ n. nat_lt 1 n && nat_le least (used_above set i k)) (count_below-none (length set.resources) test none))

-- Where a pairing has no row of a resource, no resource is taken with it.
pub none_paired : (set : SetDef) (i k q : ℕ) (p : Pairing) (cs : List ColumnDef) → is_paired set i k p q ≡ false
    → holds_some cs (row_together set i k (paired p q)) ≡ false
none_paired set i k q pairing.Others cs unspun = none_of set i k 0 (is_spun_beside set i k q) cs
    (λ r l. ap (λ b. b && (is_spun_below set i k r && not (r == q))) unspun)
none_paired set i k q pairing.Lone cs unspun = none_of set i k 3 (is_spun_with set i k q) cs
    (λ r l. ap (λ b. b && ((r == q) || is_lone set i k r)) unspun)

-- One of several lone resources has no row of spinning of its own.
pub lone_missing : (set : SetDef) (i k q : ℕ) (cs : List ColumnDef) → is_left_out set i k q ≡ true
    → holds_some cs (closer_spinning_row set i k q) ≡ false
lone_missing set i k q cs one = elim (cases_Bool (holds_some cs (closer_spinning_row set i k q))) [
  | inr none ↦ none
  | inl h ↦
      let c : (c : ColumnDef) × (Contains cs c) × (0 < (closer_spinning_row set i k q).coefficient c) =
      held (Contains cs) cs (closer_spinning_row set i k q) (All-contains_itself cs) h in
      let other : not (is_left_out set i k q) ≡ true =
      (and_parts _ _ (flag-passes (not (is_left_out set i k q) && is_in_place set i k q c.0) c.2)).0 in
      absurd (both_ways (is_left_out set i k q) (not-true _ other) one)
]

-- And the row of spinning for it has only columns from there.
pub closer_only : (set : SetDef) (i k q : ℕ) → is_spun_below set i k q ≡ false → IsOnlyFrom set k q (closer_spinning_row set i k q)
closer_only set i k q unspun c some =
    let passes : (if is_class class.Preemption c.class then is_spun_below set i k q && not (c.resource == q) else is_from set k q c) ≡ true =
    (and_parts _ _ (flag-passes (not (is_left_out set i k q) && is_in_place set i k q c) some)).1 in
    elim (cases_Bool (is_class class.Preemption c.class)) [
      | inr other ↦ (rw (other) at passes, other)
      | inl preempts ↦
          let spun : (is_spun_below set i k q && not (c.resource == q)) ≡ true = rw (preempts) at passes in
          absurd (both_ways (is_spun_below set i k q) unspun (and_parts _ _ spun).0)
    ]

-- Nothing passes two tests of which the second fails.
pub too_few : (several enough : Bool) → enough ≡ false → (several && enough) ≡ false
too_few true enough few = few
too_few false enough few = refl
