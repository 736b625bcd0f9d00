-- A walk along a task's columns from one requested resource to the next. The rows of the resources between them have no column.
use Rattle.std.proofs.Common.{◌≡◌, ℕ, zero, suc, ◌+◌, ◌<◌, ◌≤◌, ◌==◌, ◌&&◌, Bool, true, false, List, [], ◌∷◌, ◌++◌}
use Rattle.std.proofs.Common.{map, length, nat_lt, refl, ap, subst, ◌∙◌, arith, inl, inr}
use Rattle.std.proofs.Math.ListN.{get_or}
use Rattle.std.proofs.lemmas.Bool.{cases_lt, cases_Bool, eqb-true}
use Rattle.std.proofs.lemmas.List.{get_or_default}
use Rattle.sporadic_model.proofs.Mapped.{list_any-map}
use Rattle.blocking_columns.specs.declared.columns.Fragment.{Fragment}
use Rattle.blocking_columns.specs.ColumnDef.{ColumnDef, column_seen, AreKnown}
use Rattle.fragments.specs.Constraints.{ConstraintDef, per, holds_some}
use Rattle.blocking_columns.specs.Stretches.{slot, slot_of, AreInOrder, BeginsAt, IsNextRequest, ArePast}
use Rattle.blocking_columns.proofs.Beginnings.{begins_here}
use Rattle.fragments.proofs.Zeros.{none_above}

resource_order : (x k p : ℕ) (cs : List Fragment) (e : Fragment) → p < length cs → (get_or cs p e).task.0 ≡ x
    → BeginsAt (slot x k) cs p → k ≤ (get_or cs p e).resource.0
resource_order x k p cs e l same at =
    let here : slot x k ≤ slot_of (get_or cs p e) = at.behind p e (omega arith) l in
    omega (arith, here, same)

pub next_request : (n m x p : ℕ) (cs : List Fragment) (e : Fragment) → AreKnown n m cs → AreInOrder cs → p < length cs
    → (get_or cs p e).task.0 ≡ x → IsNextRequest m x (get_or cs p e).resource.0 cs p
next_request n m x p cs e known order l same = record {
  known = (known p e l).1;
  within = l;
  here = λ j d a b.
      let at : j ≡ p = omega (arith, a, b) in
      ap slot_of (ap (λ n. get_or cs n d) at ∙ get_or_default cs p d e l) ∙ ap (λ t. slot t (get_or cs p e).resource.0) same;
  further = λ end at. elim (cases_lt p end) [
    | inl before ↦ before
    | inr behind ↦
        let here : slot x ((get_or cs p e).resource.0 + 1) ≤ slot_of (get_or cs p e) = at.behind p e behind l in
        absurd (omega (arith, here, same))
  ];
  order = λ k at. resource_order x k p cs e l same at;
  begins = λ k at.
      let up : k ≤ (get_or cs p e).resource.0 = resource_order x k p cs e l same at in
      begins_here (slot x (get_or cs p e).resource.0) cs p e order l (omega (arith, same)) (λ j d a b.
      let below : slot_of (get_or cs j d) < slot x k = at.before j d a b in
      omega (arith, below, up));
}

pub past_end : (m x p : ℕ) (cs : List Fragment) → m ≤ 4294967296 → length cs ≤ p → ArePast m x cs p
past_end m x p cs few end k most at = record {
  within = at.within;
  before = λ j d a b.
      let below : slot_of (get_or cs j d) < slot x k = at.before j d a b in
      omega (arith, below, most, few);
  behind = λ j d a b. absurd (omega (arith, a, b, end));
}

pub past_task : (n m x p : ℕ) (cs : List Fragment) (e : Fragment) → AreKnown n m cs → m ≤ 4294967296 → AreInOrder cs
    → p < length cs → ((get_or cs p e).task.0 ≡ x → ⊥) → ArePast m x cs p
past_task n m x p cs e known few order l other k most at =
    let here : slot x k ≤ slot_of (get_or cs p e) = at.behind p e (omega arith) l in
    let q : (get_or cs p e).resource.0 < m = (known p e l).1 in
    begins_here (slot (x + 1) 0) cs p e order l (elim (cases_lt x (get_or cs p e).task.0) [
      | inl above ↦ omega (arith, above)
      | inr not_above ↦ absurd (other (omega (arith, not_above, here, q, few)))
    ]) (λ j d a b.
    let below : slot_of (get_or cs j d) < slot x k = at.before j d a b in
    omega (arith, below, most, few))

-- The columns of two slots begin at one place. The slot of task x and resource k is the first of them or lies between them. Then a row
-- of x and k has no column.
not_here : (a b : Bool) → (a ≡ true → b ≡ true → ⊥) → (a && b) ≡ false
not_here false b h = refl
not_here true b h = elim (cases_Bool b) [
  | inl passes ↦ absurd (h refl passes)
  | inr fails ↦ fails
]

apart_from : (s : ℕ) (c : Fragment) (x k : ℕ) → (slot_of c ≡ slot x k → ⊥) → ((c.task.0 == x) && (c.resource.0 == k)) ≡ false
apart_from s c x k other = not_here (c.task.0 == x) (c.resource.0 == k) (λ task resource.
    let t : c.task.0 ≡ x = eqb-true c.task.0 x task in
    let r : c.resource.0 ≡ k = eqb-true c.resource.0 k resource in
    other (omega (arith, t, r)))

pub row_missing : (row : ConstraintDef) (cs : List Fragment) (s t x k p : ℕ) → BeginsAt s cs p → BeginsAt t cs p
    → s ≤ slot x k → slot x k < t
    → ((c : ColumnDef) → ((c.task == x) && (c.resource == k)) ≡ false → row.coefficient c ≡ 0)
    → holds_some (map column_seen cs) row ≡ false
row_missing row cs s t x k p from to low high none =
    list_any-map column_seen (λ c. nat_lt 0 (row.coefficient c)) cs
    ∙ none_above row cs p p (omega arith) (λ j d a b.
    let below : slot_of (get_or cs j d) < s = from.before j d a b in
    none (column_seen (get_or cs j d)) (apart_from s (get_or cs j d) x k (λ e. absurd (omega (arith, below, e, low)))))
    (λ j d a b.
    let above : t ≤ slot_of (get_or cs j d) = to.behind j d a b in
    none (column_seen (get_or cs j d)) (apart_from s (get_or cs j d) x k (λ e. absurd (omega (arith, above, e, high)))))

-- A property of the rows below a, which each further row below b keeps, is one of the rows below b.
pub further_rows : (P : List ConstraintDef → Type 0) (row : ℕ → ConstraintDef) (a b : ℕ) → a ≤ b → P (per a row)
    → ((k : ℕ) → a ≤ k → k < b → P (per k row) → P (per k row ++ row k ∷ [])) → P (per b row)
further_rows P row a zero order h step =
    let same : a ≡ 0 = omega (arith, order) in
    subst (λ (n : ℕ). P (per n row)) same h
further_rows P row a (suc b) order h step = elim (cases_lt b a) [
  | inl above ↦
      let same : a ≡ suc b = omega (arith, order, above) in
      subst (λ (n : ℕ). P (per n row)) same h
  | inr not_above ↦ step b (omega (arith, not_above)) (omega arith)
      (further_rows P row a b (omega (arith, not_above)) h (λ k l m before. step k l (omega (arith, m)) before))
]
