-- Under MPCP and FMLP+, which requests of a task are columns.
use Rattle.std.proofs.Common.{◌≡◌, ℕ, zero, suc, ◌==◌, ◌&&◌, not, Bool, true, false, List, [], ◌∷◌, ◌++◌, refl, ap, ◌∙◌}
use Rattle.std.specs.Prelude.{if◌then◌else◌}
use Rattle.std.specs.List.{filter}
use Rattle.std.proofs.lemmas.Bool.{and_parts}
use Rattle.std.proofs.lemmas.List.Elements.{filter-append}
use Rattle.number_laws.specs.Sums.{collect_below}
use Rattle.sporadic_model.specs.SetDef.{SetDef, is_higher_local}
use Rattle.sporadic_model.specs.Users.{is_user}
use Rattle.sporadic_model.specs.declared.ids.Protocol.{Protocol}
use Rattle.sporadic_model.specs.declared.ids.Protocol.TheVariants as protocol
use Rattle.blocking_columns.specs.ColumnDef.{ColumnDef, classes_of}
use Rattle.blocking_columns.specs.Columns.{is_column, blocks_by_sharing, has_path, is_lower_local}
use Rattle.blocking_columns.specs.Links.{may_have_columns}
use Rattle.blocking_columns.specs.declared.columns.Class.{Class}
use Rattle.blocking_columns.specs.declared.columns.Class.TheVariants as class

-- Requests of a resource that a task uses, which may have columns, are one where they block.
shared_column : (p : Protocol) (set : SetDef) (i x q : ℕ) (k : Class) → (p ≡ protocol.Dpcp → ⊥) → may_have_columns set i x ≡ true
    → is_user set q x ≡ true
    → is_column p set i (record { task = x; resource = q; class = k }) ≡ blocks_by_sharing p set i x q k
shared_column protocol.Mpcp set i x q k sharing may used =
    let parts = and_parts (not (x == i)) (not (is_higher_local set i x)) may in
    rw (parts.0, parts.1, used) refl
shared_column protocol.FmlpPlus set i x q k sharing may used =
    let parts = and_parts (not (x == i)) (not (is_higher_local set i x)) may in
    rw (parts.0, parts.1, used) refl
shared_column protocol.Dpcp set i x q k sharing may used = absurd (sharing refl)

-- One column, where it passes.
abbrev pub column_if : Bool → ℕ → ℕ → Class → List ColumnDef
column_if passes x q k = if passes then record { task = x; resource = q; class = k } ∷ [] else []

pub shared_columns : (p : Protocol) (set : SetDef) (i x q : ℕ) → (p ≡ protocol.Dpcp → ⊥) → may_have_columns set i x ≡ true
    → is_user set q x ≡ true
    → filter (is_column p set i) (classes_of x q) ≡ column_if (is_user set q i) x q class.Direct
    ++ (column_if (has_path p set i x q) x q class.Indirect ++ column_if (is_lower_local set i x) x q class.Preemption)
shared_columns p set i x q sharing may used =
    let direct : ColumnDef = record { task = x; resource = q; class = class.Direct } in
    let indirect : ColumnDef = record { task = x; resource = q; class = class.Indirect } in
    let preemption : ColumnDef = record { task = x; resource = q; class = class.Preemption } in
    let f : ColumnDef → Bool = is_column p set i in
    (filter-append f (direct ∷ []) (indirect ∷ preemption ∷ [])
    ∙ ap (λ (cs : List ColumnDef). filter f (direct ∷ []) ++ cs) (filter-append f (indirect ∷ []) (preemption ∷ [])))
    ∙ rw (
      shared_column p set i x q class.Direct sharing may used,
      shared_column p set i x q class.Indirect sharing may used,
      shared_column p set i x q class.Preemption sharing may used,
    ) refl

none_pass : (apart used higher blocks : Bool) → (apart && not higher) ≡ false → ((apart && used) && (not higher && blocks)) ≡ false
none_pass false used higher blocks h = refl
none_pass true false higher blocks h = refl
none_pass true true true blocks h = refl
none_pass true true false blocks h = absurd (cc)

never_column : (p : Protocol) (set : SetDef) (i x q : ℕ) (k : Class) → (p ≡ protocol.Dpcp → ⊥) → may_have_columns set i x ≡ false
    → is_column p set i (record { task = x; resource = q; class = k }) ≡ false
never_column protocol.Mpcp set i x q k sharing never =
    none_pass (not (x == i)) (is_user set q x) (is_higher_local set i x) (blocks_by_sharing protocol.Mpcp set i x q k) never
never_column protocol.FmlpPlus set i x q k sharing never =
    none_pass (not (x == i)) (is_user set q x) (is_higher_local set i x) (blocks_by_sharing protocol.FmlpPlus set i x q k) never
never_column protocol.Dpcp set i x q k sharing never = absurd (sharing refl)

-- A task that has no columns has none of any resource.
pub no_columns : (p : Protocol) (set : SetDef) (i x m : ℕ) → (p ≡ protocol.Dpcp → ⊥) → may_have_columns set i x ≡ false
    → filter (is_column p set i) (collect_below m (λ q. classes_of x q)) ≡ []
no_columns p set i x zero sharing never = refl
no_columns p set i x (suc m) sharing never =
    filter-append (is_column p set i) (collect_below m (λ q. classes_of x q)) (classes_of x m)
    ∙ rw (
      no_columns p set i x m sharing never,
      never_column p set i x m class.Direct sharing never,
      never_column p set i x m class.Indirect sharing never,
      never_column p set i x m class.Preemption sharing never,
    ) refl
