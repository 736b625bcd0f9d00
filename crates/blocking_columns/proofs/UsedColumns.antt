-- The columns of a task's requests that pass are of the resources that it uses.
use Rattle.std.proofs.Common.{◌≡◌, ℕ, zero, suc, Bool, false, List, [], ◌∷◌, ◌++◌, map, length, refl, ap, ◌∙◌, sym, inl, inr}
use Rattle.std.specs.List.{filter, flat_map}
use Rattle.std.proofs.lemmas.Bool.{cases_Bool, both_ways}
use Rattle.std.proofs.lemmas.List.Elements.{filter-append}
use Rattle.number_laws.specs.Sums.{collect_below}
use Rattle.sporadic_model.specs.SetDef.{SetDef}
use Rattle.sporadic_model.specs.Users.{is_user, used_by}
use Rattle.sporadic_model.specs.declared.ids.ResourceId.{ResourceId}
use Rattle.blocking_columns.specs.ColumnDef.{ColumnDef, classes_of}
use Rattle.blocking_columns.specs.Columns.{AreRequests}
use Rattle.blocking_columns.specs.declared.columns.Class.{Class}
use Rattle.blocking_columns.specs.declared.columns.Class.TheVariants as class
use Rattle.blocking_columns.proofs.KeptNumbers.{collected_of_kept}

unused_fails : (test : ColumnDef → Bool) (set : SetDef) (x q : ℕ) (k : Class) → AreRequests test set → is_user set q x ≡ false
    → test (record { task = x; resource = q; class = k }) ≡ false
unused_fails test set x q k requests unused = elim (cases_Bool (test (record { task = x; resource = q; class = k }))) [
  | inl passes ↦ absurd (both_ways (is_user set q x) unused (requests (record { task = x; resource = q; class = k }) passes))
  | inr fails ↦ fails
]

unused_columns : (test : ColumnDef → Bool) (set : SetDef) (x q : ℕ) → AreRequests test set → is_user set q x ≡ false
    → filter test (classes_of x q) ≡ []
unused_columns test set x q requests unused =
    rw (
      unused_fails test set x q class.Direct requests unused,
      unused_fails test set x q class.Indirect requests unused,
      unused_fails test set x q class.Preemption requests unused,
    ) refl

filter_collected : (test : ColumnDef → Bool) (f : ℕ → List ColumnDef) (n : ℕ)
    → filter test (collect_below n f) ≡ collect_below n (λ k. filter test (f k))
filter_collected test f zero = refl
filter_collected test f (suc n) = filter-append test (collect_below n f) (f n)
    ∙ ap (λ (cs : List ColumnDef). cs ++ filter test (f n)) (filter_collected test f n)

pub used_columns : (test : ColumnDef → Bool) (set : SetDef) (x : ℕ) (qs : List ResourceId) → AreRequests test set
    → map (λ q. q.0) qs ≡ used_by set x
    → flat_map (λ q. filter test (classes_of x q.0)) qs ≡ filter test (collect_below (length set.resources) (λ q. classes_of x q))
used_columns test set x qs requests same =
    collected_of_kept (λ (q : ResourceId). q.0) qs (λ q. is_user set q x) (λ q. filter test (classes_of x q)) (length set.resources) same
    (λ q unused. unused_columns test set x q requests unused)
    ∙ sym (filter_collected test (λ q. classes_of x q) (length set.resources))

-- The three classes one after another.
pub classes_apart : (test : ColumnDef → Bool) (x q : ℕ) → filter test (classes_of x q)
    ≡ filter test (record { task = x; resource = q; class = class.Direct } ∷ [])
    ++ (filter test (record { task = x; resource = q; class = class.Indirect } ∷ [])
    ++ filter test (record { task = x; resource = q; class = class.Preemption } ∷ []))
classes_apart test x q =
    let direct : ColumnDef = record { task = x; resource = q; class = class.Direct } in
    let indirect : ColumnDef = record { task = x; resource = q; class = class.Indirect } in
    let preemption : ColumnDef = record { task = x; resource = q; class = class.Preemption } in
    filter-append test (direct ∷ []) (indirect ∷ preemption ∷ [])
    ∙ ap (λ (cs : List ColumnDef). filter test (direct ∷ []) ++ cs) (filter-append test (indirect ∷ []) (preemption ∷ []))
